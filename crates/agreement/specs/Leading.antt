-- Whose log begins with what is decided: one that is safe for a view that f + 1 promises are below.
use Rattle.std.specs.Prelude.{◌≡◌, ℕ, ◌<◌, false, nat_lt, nat_le, List}
use Rattle.agreement.specs.Lists.{count_below}
use Rattle.list_facts.specs.Lists.{IsPrefix}
use Rattle.agreement.specs.History.{Group, size, primary_in, Normal, History}
use Rattle.agreement.specs.Quorums.{IsSafe, IsCertified}
use Rattle.agreement.specs.Invariant.{Invariant, IsGroup}
use Rattle.agreement.specs.Laws.{Run}
use Rattle.agreement.specs.Journals.{Rules, Entry, stands, history, IsAllowed, Follows}
use Rattle.agreement.specs.Decided.{decided_log}

-- f + 1 controllers have promised a view below w
abbrev pub MostPromiseBelow : {E : Type 0} → Group E → History E → ℕ → Type 0
MostPromiseBelow g h w = g.most_failures < count_below (λ j. nat_lt (h.promise j) w) (size g)

-- f + 1 controllers have promised view w or an earlier one
abbrev pub MostPromiseUpTo : {E : Type 0} → Group E → History E → ℕ → Type 0
MostPromiseUpTo g h w = g.most_failures < count_below (λ j. nat_le (h.promise j) w) (size g)

-- where f + 1 promises are below view w, a log that is safe for w begins with all that is certified
abbrev pub SafeLogsBegin : Type 0 → Type 0
SafeLogsBegin E = (g : Group E) (h : History E) (w : ℕ) (xs ys : List E) → Invariant g h → MostPromiseBelow g h w
    → IsCertified g h ys → IsSafe g h w xs → IsPrefix ys xs

-- and with all that was certified at an earlier time, where the promises were below w then
abbrev pub LaterLogsBegin : Type 0 → Type 0
LaterLogsBegin E = (g : Group E) (h0 h : History E) (w : ℕ) (xs ys : List E) → IsGroup g → Invariant g h0 → Run g h0 h
    → MostPromiseBelow g h0 w → IsCertified g h0 ys → IsSafe g h w xs → IsPrefix ys xs

-- where f + 1 promises are not above its view, the log of a normal primary begins with all that is certified
abbrev pub PrimariesLead : Type 0 → Type 0
PrimariesLead E = (g : Group E) (h : History E) (c : ℕ) (ys : List E) → Invariant g h → c < size g
    → (h.state c).status ≡ Normal → c ≡ primary_in g (h.state c).view → MostPromiseUpTo g h (h.state c).view → IsCertified g h ys → IsPrefix ys (h.state c).log

-- and so with what a journal has decided, where no input of the primary may still be refused
abbrev pub DecidedIsLed : Type 0 → Type 0 → Type 0 → Type 0
DecidedIsLed Own A E = (r : Rules Own A E) (g : Group E) (past : List (Entry Own E)) (c : ℕ) → Follows r g → IsAllowed r g past → c < size g
    → (stands r c past).fresh ≡ false
    → (let s = r.state (stands r c past).now in
    s.status ≡ Normal → c ≡ primary_in g s.view → MostPromiseUpTo g (history r g past) s.view → IsPrefix (decided_log r g past) s.log)
