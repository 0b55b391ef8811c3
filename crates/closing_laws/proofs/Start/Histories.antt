-- What the laws of agreement make of a past of a group of several, where all have posted.
use Rattle.std.proofs.Common.{◌≡◌, ◌≤◌, ◌<◌, ℕ, suc, ◌+◌, ◌*◌, ◌/◌, List, ◌++◌, ap, ◌∙◌, arith}
use Rattle.of_types.specs.Setups.{IsSetup}
use Rattle.journal.specs.declared.journal.JournalEntry.{JournalEntry}
use Rattle.journal.specs.declared.journal.SaveResult.{SaveResult}
use Rattle.list_facts.specs.Fold.{ActorStanding}
use Rattle.agreement.specs.History.{Group, History, Letter, size}
use Rattle.agreement.specs.Invariant.{Invariant}
use Rattle.agreement.specs.Journals as journal
use Rattle.agreement.specs.Journals.{Rules, firm}
use Rattle.agreement.proofs.Agreeing.{journal_good}
use Rattle.vr_log.specs.declared.entry.Entry.{Entry}
use Rattle.controller_moves.specs.MemberMoves.Projection.{group_of, member_state_of}
use Rattle.controller_moves.specs.Projection.{OwnInput}
use Rattle.controller_moves.specs.Rules.{SavingController}
use Rattle.controller_moves.proofs.Following.{follow_law}
use Rattle.run_spec.specs.States.{Scene, IsFaithful}
use Rattle.run_spec.specs.Legal.{IsPossible, results_of}
use Rattle.run_spec.specs.Committed.{controller_state}
use Rattle.run_laws.specs.RunAgreement.Projection.{past_of, rules_of}
use Rattle.run_laws.specs.RunAgreement.Reading.{WhereValid}
use Rattle.run_laws.proofs.RunAgreement.Groups.{odd_law}
use Rattle.run_laws.proofs.RunAgreement.Journals.{in_group, past_legal}
use Rattle.run_laws.proofs.RunAgreement.Leading.{posting, posting_legal, posting_stands}
use Rattle.run_laws.proofs.RunAgreement.Reading.{IsReadPast, read_past}
use Rattle.run_laws.proofs.RunAgreement.Standing.{stands_alike}
use Rattle.run_laws.proofs.Events.{events_valid}
use Rattle.run_laws.proofs.Laws.{always}

module _ {B : Type 0} (scene : Scene B) (results : List (List SaveResult)) (setup : IsSetup scene.setup) (faithful : IsFaithful scene.sealing) (P : List (JournalEntry B)) (possible : IsPossible scene results P)
    (several : 0 < scene.setup.controllers / 2) where
  pub odd : (f : ℕ) × (scene.setup.controllers ≡ 2 * f + 1)
  odd = odd_law scene.setup setup

  abbrev pub f : ℕ
  f = odd.0

  abbrev pub r : Rules OwnInput SavingController Entry
  r = rules_of scene f results

  abbrev pub g : Group Entry
  g = group_of f

  abbrev pub all : List (journal.Entry OwnInput Entry)
  all = posting (size g) ++ past_of scene P

  abbrev pub h : History Entry
  h = journal.history r g all

  pub some : 1 ≤ f
  some = let n = odd.1 in omega (arith, n, several)

  pub read : IsReadPast scene results P
  read = read_past scene results P possible (WhereValid faithful (events_valid scene results P possible (λ i. always scene results setup faithful P possible (suc i))))

  pub legal : journal.IsAllowed r g all
  legal = posting_legal r g (size g) (past_of scene P) (omega arith) (past_legal scene results f odd.1 P read).legal

  pub good : Invariant g h
  good = journal_good (follow_law scene.kinds scene.setup f (λ c. results_of results c)) some all legal

  pub within : (c : ℕ) → c < scene.setup.controllers → c < size g
  within c there = in_group scene results f odd.1 c there

  pub state_is : (c : ℕ) → c < scene.setup.controllers → h.state c ≡ member_state_of (controller_state scene results c P).vr
  state_is c there =
      ap (λ (w : ActorStanding SavingController (Letter Entry)). r.state (firm w)) (posting_stands r g (size g) c (past_of scene P) (within c there))
      ∙ ap (λ (a : SavingController). r.state a) (stands_alike scene results f c odd.1 P possible.orderly).now
