-- A script was followed, and then a closing went on in its world.
use Rattle.std.proofs.Common.{◌≡◌, ℕ, List, ◌++◌, length, sym, ◌∙◌, ap, subst}
use Rattle.std.specs.Prelude.{reverse}
use Rattle.journal.specs.declared.journal.SaveResult.{SaveResult}
use Rattle.journal.specs.declared.journal.Turn.{Turn}
use Rattle.journal.specs.declared.wire.Stop.{Stop}
use Rattle.journal.specs.declared.wire.Stop.TheVariants.{OutOfMemory, JournalFull}
use Rattle.journal.specs.Pool.{past}
use Rattle.journal.specs.Stables.{Saving}
use Rattle.app_core.specs.Law.{AppLaw}
use Rattle.run_spec.specs.Script.{FollowsInOrder}
use Rattle.run_spec.specs.Closing.{Closes, ClosesTo, Losing, Phase}
use Rattle.run_spec.specs.Limit.{In_the_closing, IsJournalFull}
use Rattle.run_spec.specs.States.{Scene, Sealing}
use Rattle.world.specs.World.{AreMore, Holds, Keeps, Worlding, results_in, scene_in}
use Rattle.world.proofs.Growing.{more_then, no_more}
use Rattle.world.proofs.Turning.{keeps_then}
use Rattle.closing.specs.declared.closed.ClosingOutcome.{ClosingOutcome}
use Rattle.closing.specs.Closing.{ClosingStops, HasEnded, HasReason, IsBounded, IsCutAt, closing_answer_of}
use Rattle.closing.proofs.Leading.{runs_again}
use Rattle.closing.proofs.Turned.{more_told, past_joined}
use Rattle.journal.specs.declared.journal.JournalEntry.{JournalEntry}
use Rattle.journal.specs.Turns.{IsWithinLimits}
use Rattle.running.specs.declared.run.Played.{Played}
use Rattle.running.specs.Apart as apart
use Rattle.running.specs.Threads.{IsLeftPaired}
use Rattle.playing.specs.Manners.{Manner, In_order, Apart, Begins, FollowsManner}
use Rattle.playing.specs.Played.{HaltsAs, HasFollowed, HasPlayed, Lastingly, RunStops}
use Rattle.playing.specs.Played as halted
use Rattle.playing.proofs.Stopping.{stuck_full}

-- a closing behind a script that was done in this manner is cut short
begun : {B : Type 0} (manner : Manner) (scene : Scene B) (results : List (List SaveResult)) (steps : List Turn) (bytes letters : ℕ) (script entries : List (JournalEntry B)) (last : Phase) →
    FollowsManner manner scene results steps script → ClosesTo scene results Losing script entries last → IsJournalFull scene results (reverse entries ++ script) bytes letters →
    Begins manner scene results steps bytes letters (reverse entries ++ script)
begun In_order scene results steps bytes letters script entries last follows closes full = In_the_closing script entries last follows closes full
begun Apart scene results steps bytes letters script entries last follows closes full = apart.In_the_closing script entries last follows closes full

module _ {B A W : Type 0} (law : AppLaw A) (saving : Saving W) (sealing : Sealing B) (steps : List Turn)
    (first : Worlding B A) (stables : List W) (now : Worlding B A) (stables_now : List W) (last : Worlding B A) (stables_last : List W)
    (keeps : Keeps law saving sealing first stables now stables_now) where
  later_scene : (kinds : List ℕ) → scene_in sealing now kinds ≡ scene_in sealing first kinds
  later_scene kinds = ap (λ s. record { setup = s; kinds = kinds; sealing = sealing }) keeps.setup

  module _ (manner : Manner) (kinds : List ℕ) (holds : Holds law sealing first kinds)
      (follows : Lastingly now (λ later. FollowsManner manner (scene_in sealing first kinds) later steps (past now.journal)))
      (goes_on : Keeps law saving sealing now stables_now last stables_last) where
    -- what becomes of saves behind the closing becomes of them behind the script
    more_now : (later : List (List SaveResult)) → AreMore now.setup.controllers (results_in last.controllers) later → AreMore now.setup.controllers (results_in now.controllers) later
    more_now later more = more_then now.setup.controllers (results_in now.controllers) (results_in last.controllers) later
        (more_told law (scene_in sealing now kinds) saving now last stables_now stables_last (keeps.holds kinds holds).run keeps.pairs goes_on.told) more

    pub played : (script : ℕ) → script ≡ length now.journal → (ended : ClosingOutcome) → HasEnded (scene_in sealing now kinds) now last ended → HasPlayed manner (scene_in sealing first kinds) steps script ended last
    played script counted ended h = record {
      front = now.journal;
      rest = h.closed.entries;
      joined = h.closed.joined;
      counted = counted;
      follows = λ later more. follows later (more_now later (subst (λ s. AreMore s.controllers (results_in last.controllers) later) goes_on.setup more));
      closes = λ later more. subst (λ (scene : Scene B). Closes scene later (past now.journal) h.closed.entries (closing_answer_of ended)) (later_scene kinds)
          (h.closed.closes later (subst (λ s. AreMore s.controllers (results_in last.controllers) later) goes_on.setup more));
      reason = subst (λ (scene : Scene B). HasReason ended scene (results_in last.controllers) (past now.journal) (past last.journal)) (later_scene kinds) h.reason;
      bounded = subst (λ (scene : Scene B). IsBounded scene (results_in last.controllers) (past now.journal) h.closed.entries) (later_scene kinds) h.bounded;
    }

    -- the closing met the limit of the journal
    pub cut : (bytes letters : ℕ) → IsCutAt bytes letters (scene_in sealing now kinds) now last →
        Begins manner (scene_in sealing first kinds) (results_in last.controllers) steps bytes letters (past last.journal)
    cut bytes letters c =
        let results = results_in last.controllers in
        let more = no_more now.setup.controllers results in
        let past_is : past last.journal ≡ reverse c.closes.entries ++ past now.journal = ap past c.closes.joined ∙ past_joined now.journal c.closes.entries in
        let runs = runs_again law sealing first last kinds (goes_on.setup ∙ keeps.setup) (goes_on.holds kinds (keeps.holds kinds holds)) in
        let full = stuck_full law (scene_in sealing first kinds) last runs bytes letters c.stuck in
        subst (λ l. Begins manner (scene_in sealing first kinds) results steps bytes letters l) (sym past_is)
        (begun manner (scene_in sealing first kinds) results steps bytes letters (past now.journal) c.closes.entries c.phase (follows results (more_now results more))
        (subst (λ (scene : Scene B). ClosesTo scene results Losing (past now.journal) c.closes.entries c.phase) (later_scene kinds) (c.closes.steps results more))
        (subst (λ l. IsJournalFull (scene_in sealing first kinds) results l bytes letters) past_is full))

  -- why the closing stopped is why playing did
  pub closing_stops : (kinds : List ℕ) → Holds law sealing first kinds → Lastingly now (λ later. FollowsInOrder (scene_in sealing first kinds) later steps (past now.journal)) →
      Keeps law saving sealing now stables_now last stables_last → (stop : Stop) → ClosingStops (scene_in sealing now kinds) now last stop → RunStops (scene_in sealing first kinds) steps last stop
  closing_stops kinds holds follows goes_on OutOfMemory c =
      halted.In_the_closing now.journal c.entries c.refusal c.joined c.refused
      (λ later more.
      let same = subst (λ s. AreMore s.controllers (results_in last.controllers) later) goes_on.setup more in
      let b = c.begins later same in (
        follows later (more_now In_order kinds holds follows goes_on later same),
        (b.0, subst (λ (scene : Scene B). ClosesTo scene later Losing (past now.journal) c.entries b.0) (later_scene kinds) b.1),
      ))
  closing_stops kinds holds follows goes_on (JournalFull bytes letters) c = cut In_order kinds holds follows goes_on bytes letters c

  -- what is left where actors played apart, and the closing stopped
  paired : {G : Type 0} → (kinds : List ℕ) → Holds law sealing first kinds → Keeps law saving sealing now stables_now last stables_last → (left : Played B A G) → left.controllers.items ≡ last.controllers →
      IsLeftPaired saving first.setup first.controllers stables stables_last left.controllers.items
  paired kinds holds k left controllers_are =
      let all = keeps_then law saving sealing first now last stables stables_now stables_last keeps k in
      let runs = runs_again law sealing first last kinds all.setup (all.holds kinds holds) in
      record { group = rw controllers_are runs.group; pairs = rw controllers_are all.pairs; told = rw controllers_are all.told; beyond = all.beyond }

  pub closing_halts : {G : Type 0} → (kinds : List ℕ) → Holds law sealing first kinds → HasFollowed Apart (scene_in sealing first kinds) steps now →
      (stop : Stop) → Keeps law saving sealing now stables_now last stables_last → IsWithinLimits sealing.size (past last.journal) →
      ClosingStops (scene_in sealing now kinds) now last stop →
      (left : Played B A G) → left.wire ≡ last.journal → left.controllers.items ≡ last.controllers → HaltsAs law saving sealing steps kinds first stables stables_last left stop
  closing_halts kinds holds follows OutOfMemory k within c left wire_is controllers_are = paired kinds holds k left controllers_are
  closing_halts kinds holds follows (JournalFull bytes letters) k within c left wire_is controllers_are =
      let all = keeps_then law saving sealing first now last stables stables_now stables_last keeps k in
      let runs = runs_again law sealing first last kinds all.setup (all.holds kinds holds) in
      let results : results_in left.controllers.items ≡ results_in last.controllers = ap (λ cs. results_in cs) controllers_are in (
        record {
          legal = rw (wire_is, results) runs.legal;
          within = rw wire_is within;
          members = rw (wire_is, controllers_are) runs.controllers;
          paired = paired kinds holds k left controllers_are;
        },
        rw (wire_is, results) (cut Apart kinds holds follows k bytes letters c),
      )
