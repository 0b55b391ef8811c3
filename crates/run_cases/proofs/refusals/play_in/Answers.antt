use Rattle.run_cases.proofs.refusals.play_in.Goals as goal

pub come_to_rest-requires-clause-holds : goal.come_to_rest-requires-clause-holds
come_to_rest-requires-clause-holds g c = (c.requires.holds.0, c.take_steps.ensures.holds c.requires.holds.0 c.requires.holds.1)
