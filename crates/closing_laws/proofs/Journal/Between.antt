-- What is between two actors as a message leaves and letters are posted.
use Rattle.std.proofs.Common.{◌≡◌, Bool, true, false, List, [], ◌∷◌, ◌++◌, map, refl, ◌∙◌, ap}
use Rattle.std.specs.Prelude.{◌&&◌, if◌then◌else◌}
use Rattle.std.proofs.lemmas.List.{append-nil}
use Rattle.journal.specs.declared.journal.Actor.{Actor}
use Rattle.journal.specs.declared.journal.Letter.{Letter}
use Rattle.journal.specs.Actors.{same_actor}
use Rattle.journal.proofs.Leaving.{same_actor-refl}
use Rattle.run_spec.specs.declared.messages.Message.{Message}
use Rattle.closing_laws.specs.Ways.{Sent, sent_by, goes, between, told_to}

pub between_joined : (from to : Actor) (ms ns : List Sent) → between from to (ms ++ ns) ≡ between from to ms ++ between from to ns
between_joined from to [] ns = refl
between_joined from to (m ∷ ms) ns = by_way (goes from to m) (between_joined from to ms ns)
  where
    by_way : (b : Bool) → between from to (ms ++ ns) ≡ between from to ms ++ between from to ns →
        (if b then m.said ∷ between from to (ms ++ ns) else between from to (ms ++ ns)) ≡ (if b then m.said ∷ between from to ms else between from to ms) ++ between from to ns
    by_way true h = ap (λ (l : List Message). m.said ∷ l) h
    by_way false h = h

-- a message that goes another way
pub between_other : (from to : Actor) (m : Sent) (ms : List Sent) → goes from to m ≡ false → between from to (m ∷ ms) ≡ between from to ms
between_other from to m ms e = ap (λ (b : Bool). if b then m.said ∷ between from to ms else between from to ms) e

pub between_own : (from to : Actor) (m : Sent) (ms : List Sent) → m.from ≡ from → m.to ≡ to → between from to (m ∷ ms) ≡ m.said ∷ between from to ms
between_own from to m ms f t = ap (λ (b : Bool). if b then m.said ∷ between from to ms else between from to ms) way
  where
    way : goes from to m ≡ true
    way = ap (λ (a : Actor). same_actor a from && same_actor m.to to) f ∙ ap (λ (a : Actor). same_actor from from && same_actor a to) t
        ∙ ap (λ (b : Bool). b && same_actor to to) (same_actor-refl from) ∙ same_actor-refl to

-- letters of an actor
pub between_sent : {A : Type 0} (says : A → Message) (from to : Actor) (letters : List (Letter A)) → between from to (map (sent_by says from) letters) ≡ told_to says to letters
between_sent says from to [] = refl
between_sent says from to (l ∷ letters) =
    ap (λ (b : Bool). if b && same_actor l.to to then says l.body ∷ between from to (map (sent_by says from) letters) else between from to (map (sent_by says from) letters)) (same_actor-refl from)
    ∙ ap (λ (ms : List Message). if same_actor l.to to then says l.body ∷ ms else ms) (between_sent says from to letters)

pub between_sent_by : {A : Type 0} (says : A → Message) (other from to : Actor) (letters : List (Letter A)) → same_actor other from ≡ false → between from to (map (sent_by says other) letters) ≡ []
between_sent_by says other from to [] e = refl
between_sent_by says other from to (l ∷ letters) e =
    ap (λ (b : Bool). if b && same_actor l.to to then says l.body ∷ between from to (map (sent_by says other) letters) else between from to (map (sent_by says other) letters)) e
    ∙ between_sent_by says other from to letters e

-- what waits once letters are posted behind it
pub posted_own : {A : Type 0} (says : A → Message) (from to : Actor) (ms : List Sent) (letters : List (Letter A)) →
    between from to (ms ++ map (sent_by says from) letters) ≡ between from to ms ++ told_to says to letters
posted_own says from to ms letters = between_joined from to ms (map (sent_by says from) letters) ∙ ap (λ (l : List Message). between from to ms ++ l) (between_sent says from to letters)

pub posted_other : {A : Type 0} (says : A → Message) (other from to : Actor) (ms : List Sent) (letters : List (Letter A)) → same_actor other from ≡ false →
    between from to (ms ++ map (sent_by says other) letters) ≡ between from to ms
posted_other says other from to ms letters e =
    between_joined from to ms (map (sent_by says other) letters) ∙ ap (λ (l : List Message). between from to ms ++ l) (between_sent_by says other from to letters e) ∙ append-nil (between from to ms)
