-- When an event may be proposed as processed.
use Rattle.std.specs.Prelude.{◌≡◌, ◌<◌, ◌⊎◌, ℕ, List, length}
use Rattle.of_types.specs.declared.setup.Setup.{Setup}
use Rattle.vr_log.specs.Log.{received, processed}
use Rattle.app_core.specs.declared.issued.Issued.{Issued}
use Rattle.app_core.specs.Issued.{commands_of}
use Rattle.group_controller.specs.State.{ControllerState, committed}
use Rattle.list_facts.specs.Lists.{IsIn}
use Rattle.controller_moves.specs.ControllerLaws.Events.{IsEndedBy}

-- The first unprocessed event of what is committed is finished: it is the next one of the whole log, and of each life of
-- each switch, its commands are marked, or a later life has begun.
pub record IsFinished (kinds : List ℕ) (setup : Setup) (c : ControllerState) : Type 0 where
  pub there : processed (committed c) < length (received (committed c))
  pub next : processed (committed c) ≡ processed c.vr.log
  pub all : (switch life : ℕ) → IsEndedBy switch life (received (committed c))
      ⊎ ((n : Issued) → IsIn n (commands_of kinds setup (received (committed c)) (processed (committed c))) → n.switch ≡ switch → n.life ≡ life → IsIn (switch, life, n.number) c.marks.acked)
