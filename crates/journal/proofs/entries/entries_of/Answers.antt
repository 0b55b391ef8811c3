use Rattle.std.proofs.Common.{◌≡◌, ◌+◌, ◌++◌, [], ◌∷◌, length, map, take, drop, subst, sym, ap, ◌∙◌, arith, append_assoc}
use Rattle.std.specs.Prelude.{sum_by}
use Rattle.std.proofs.lemmas.List.{length-drop, map-append}
use Rattle.std.proofs.lemmas.List.Sums.{sum_by_push}
use Rattle.journal.specs.Entries.{StartsAt, Tile, letter_count, whole_entry, entry_with}
use Rattle.journal.proofs.Heads.{entry_here, tile_at}
use Rattle.journal.proofs.Lists.{drop_more}
use Rattle.journal.proofs.entries.entries_of.Goals as goal

pub entry_of-requires : goal.entry_of-requires
entry_of-requires g c =
    let all = c.args.letters.items in
    let yielded = c.loop-head.yielded in
    let heads = c.loop-head.invariant.rest ∙ ap (λ hs. yielded ++ hs) c.in-Some.ensures.steps.0 in
    let here = tile_at 0 yielded c.in-Some.head c.next.new.self.rest.items c.requires.0 (subst (λ hs. Tile 0 hs c.requires.0) heads c.requires.1) in
    omega (arith, here.1, c.requires.2, ap length c.loop-head.invariant.left, length-drop (sum_by letter_count yielded) all)

pub loop-head-preserved : goal.loop-head-preserved
loop-head-preserved g c =
    let all = c.args.letters.items in
    let yielded = c.loop-head.yielded in
    let head = c.in-Some.head in
    let rest = c.next.new.self.rest.items in
    let is = c.loop-head.invariant in
    let heads = is.rest ∙ ap (λ hs. yielded ++ hs) c.in-Some.ensures.steps.0 in
    let here = tile_at 0 yielded head rest c.requires.0 (subst (λ hs. Tile 0 hs c.requires.0) heads c.requires.1) in
    let starts : StartsAt (sum_by letter_count yielded) head = subst (λ n. StartsAt n head) (let same : 0 + sum_by letter_count yielded ≡ sum_by letter_count yielded = omega arith in same) here.0 in
    record {
      rest = heads ∙ sym (append_assoc yielded (head ∷ []) rest);
      left =
          c.in_ok-entry_of.ensures.left
          ∙ ap (drop (letter_count head)) is.left
          ∙ drop_more (sum_by letter_count yielded) (letter_count head) all
          ∙ ap (λ n. drop n all) (sym (sum_by_push letter_count yielded head));
      journal =
          c.in_ok-push.ensures.items
          ∙ ap (λ es. es ++ c.in_ok-entry_of.field-0 ∷ []) is.journal
          ∙ ap (λ e. map (whole_entry all) yielded ++ e ∷ []) (c.in_ok-entry_of.ensures.entry ∙ ap (λ ls. entry_with (take (letter_count head) ls) head) is.left ∙ entry_here (sum_by letter_count yielded) head all starts)
          ∙ sym (map-append (whole_entry all) yielded (head ∷ []));
    }
