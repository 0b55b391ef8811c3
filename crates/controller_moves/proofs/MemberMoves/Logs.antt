-- The logs of members make a group, and an entry that fits makes a log with them.
use Rattle.std.proofs.Common.{◌≡◌, Bool, true, ◌&&◌, List, [], ◌∷◌, ◌++◌, refl, sym, ap, ◌∙◌}
use Rattle.std.proofs.lemmas.Bool.{and_from}
use Rattle.agreement.proofs.Fitting.{groups_law, last_law}
use Rattle.agreement.specs.Fitting as fitting
use Rattle.vr_log.specs.declared.entry.Entry.{Entry}
use Rattle.vr_log.specs.Log.{fits, follows, is_log}
use Rattle.controller_moves.specs.MemberMoves.Laws.{LogsMakeGroups}

same_follows : (before es : List Entry) → follows before es ≡ fitting.log_follows fits before es
same_follows before [] = refl
same_follows before (x ∷ es) = ap (λ (t : Bool). fits before x && t) (same_follows (before ++ x ∷ []) es)

pub logs_law : LogsMakeGroups
logs_law most_failures =
    let g = groups_law {E = Entry} most_failures fits in
    record { begins = refl; closed = λ xs ys p z. same_follows [] xs ∙ g.closed xs ys p (sym (same_follows [] ys) ∙ z) }

pub log_next : (log : List Entry) (x : Entry) → is_log log ≡ true → fits log x ≡ true → is_log (log ++ x ∷ []) ≡ true
log_next log x z f = same_follows [] (log ++ x ∷ []) ∙ last_law fits log x ∙ and_from (fitting.log_follows fits [] log) (fits log x) (sym (same_follows [] log) ∙ z) f
