-- Lines that were read so far, and what is read behind them.
use Rattle.std.proofs.Common.{◌≡◌, ℕ, zero, suc, ◌+◌, ◌-◌, ◌<◌, Bool, true, false, List, [], ◌∷◌, ◌++◌, length, refl, sym, ap, subst, ◌∙◌, append_assoc, arith, Result, Ok, Err}
use Rattle.std.specs.Prelude.{Option, Some}
use Rattle.of_bytes.specs.Reading.{◌>>=◌}
use Rattle.report.specs.declared.fault.Misfit.{Misfit}
use Rattle.report.specs.declared.fault.Broken.{Broken}
use Rattle.report.specs.declared.fault.Broken.TheVariants as broken
use Rattle.report.specs.declared.record.SwitchRecord.{SwitchRecord}
use Rattle.report.specs.Lines.{LineStopsAt, line_at, each_at, while_at}
use Rattle.report.specs.OneLine.{ports_in_text}
use Rattle.report.specs.Reading.{port_counts_at, told_in_text, switches_at}
use Rattle.report.specs.Spelled.{GivesText}

-- values behind those that were read before
abbrev pub with_front : {A : Type 0} → List A → Result (List A × List ℕ) ℕ → Result (List A × List ℕ) ℕ
with_front front (Ok x) = Ok (front ++ x.0, x.1)
with_front front (Err left) = Err left

abbrev pub joined : {A : Type 0} → A → Result (List A × List ℕ) ℕ → Result (List A × List ℕ) ℕ
joined x read = read >>= λ others. Ok (x ∷ others.0, others.1)

pub front_more : {A : Type 0} (front : List A) (x : A) (read : Result (List A × List ℕ) ℕ) → with_front (front ++ x ∷ []) read ≡ with_front front (joined x read)
front_more front x (Ok y) = ap (λ l. Ok (l, y.1)) (append_assoc front (x ∷ []) y.0)
front_more front x (Err left) = refl

-- what was read where the reader answered Ok
pub ok_gives : {X Y : Type 0} (view : X → Y) (r : Result X Misfit) (read : Option Y) (x : X) → GivesText view r read → r ≡ Ok x → read ≡ Some (view x)
ok_gives view r read x g e = subst (λ r. GivesText view r read) e g

-- what was read of a line
pub line_ok : {A : Type 0} (bytes : List ℕ) (read : Option A) (x : A) → read ≡ Some x → line_at bytes read ≡ Ok x
line_ok bytes read x e = rw e refl

pub each_more : {A : Type 0} (read : List ℕ → Option (A × List ℕ)) (count place : ℕ) (front : List A) (x : A) (rest after : List ℕ) (whole : Result (List A × List ℕ) ℕ) →
    place < count → read rest ≡ Some (x, after) → with_front front (each_at read (count - place) rest) ≡ whole → with_front (front ++ x ∷ []) (each_at read (count - (place + 1)) after) ≡ whole
unfolding each_at
each_more read count place front x rest after whole less e so_far =
    let left : count - place ≡ suc (count - (place + 1)) = omega arith in
    let now = rw left at so_far in
    front_more front x (each_at read (count - (place + 1)) after) ∙ rw e at now

pub ports_more : (count place : ℕ) (front : List ℕ) (x : ℕ) (rest after : List ℕ) (whole : Result (List ℕ × List ℕ) ℕ) →
    place < count → ports_in_text place rest ≡ Some (x, after) → with_front front (port_counts_at (count - place) place rest) ≡ whole →
    with_front (front ++ x ∷ []) (port_counts_at (count - (place + 1)) (place + 1) after) ≡ whole
unfolding port_counts_at
ports_more count place front x rest after whole less e so_far =
    let left : count - place ≡ suc (count - (place + 1)) = omega arith in
    let now = rw left at so_far in
    front_more front x (port_counts_at (count - (place + 1)) (place + 1) after) ∙ rw e at now

pub told_more : (count place : ℕ) (front : List SwitchRecord) (x : SwitchRecord) (rest after : List ℕ) (whole : Result (List SwitchRecord × List ℕ) ℕ) →
    place < count → told_in_text place rest ≡ Ok (x, after) → with_front front (switches_at (count - place) place rest) ≡ whole →
    with_front (front ++ x ∷ []) (switches_at (count - (place + 1)) (place + 1) after) ≡ whole
unfolding switches_at
told_more count place front x rest after whole less e so_far =
    let left : count - place ≡ suc (count - (place + 1)) = omega arith in
    let now = rw left at so_far in
    front_more front x (switches_at (count - (place + 1)) (place + 1) after) ∙ rw e at now

module _ {A : Type 0} (test : List ℕ → Bool) (read : List A → List ℕ → Result (A × List ℕ) ℕ) where
  pub while_more : (count place : ℕ) (before : List A) (x : A) (rest after : List ℕ) (whole : Result (List A × List ℕ) ℕ) → place < count → test rest ≡ true →
      read before rest ≡ Ok (x, after) → while_at test read (count - place) before rest ≡ whole → while_at test read (count - (place + 1)) (before ++ x ∷ []) after ≡ whole
  unfolding while_at
  while_more count place before x rest after whole less holds e so_far =
      let left : count - place ≡ suc (count - (place + 1)) = omega arith in
      let now = rw left at so_far in
      rw (holds, e) at now

  while_err : (count place : ℕ) (before : List A) (rest : List ℕ) (left : ℕ) (whole : Result (List A × List ℕ) ℕ) → place < count → test rest ≡ true →
      while_at test read (count - place) before rest ≡ whole → read before rest ≡ Err left → whole ≡ Err left
  unfolding while_at
  while_err count place before rest left whole less holds so_far e =
      let more : count - place ≡ suc (count - (place + 1)) = omega arith in
      let now = rw more at so_far in
      sym (rw (holds, e) at now)

  pub while_stops : (count place : ℕ) (before : List A) (rest : List ℕ) (e : Broken) (whole : Result (List A × List ℕ) ℕ) → place < count → test rest ≡ true →
      while_at test read (count - place) before rest ≡ whole → LineStopsAt e (read before rest) → LineStopsAt e whole
  while_stops count place before rest (broken.Line left) whole less holds so_far stop = while_err count place before rest left whole less holds so_far stop
  while_stops count place before rest broken.OutOfMemory whole less holds so_far stop = tt

  done_at : (n : ℕ) (before : List A) (rest : List ℕ) → test rest ≡ false → while_at test read n before rest ≡ Ok (before, rest)
  unfolding while_at
  done_at zero before rest fails = rw fails refl
  done_at (suc n) before rest fails = rw fails refl

  pub while_done : (n : ℕ) (before : List A) (rest : List ℕ) (whole : Result (List A × List ℕ) ℕ) → test rest ≡ false →
      while_at test read n before rest ≡ whole → whole ≡ Ok (before, rest)
  while_done n before rest whole fails so_far = sym so_far ∙ done_at n before rest fails

  pub while_last : (n : ℕ) (before : List A) (rest : List ℕ) (whole : Result (List A × List ℕ) ℕ) → n ≡ 0 → test rest ≡ true →
      while_at test read n before rest ≡ whole → whole ≡ Err (length rest)
  unfolding while_at
  while_last zero before rest whole none holds so_far = sym so_far ∙ rw holds refl
  while_last (suc n) before rest whole none holds so_far = absurd (omega arith)
