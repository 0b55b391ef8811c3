-- When a recovery may end (Viewstamped Replication Revisited, 4.3; the stable pair of a promise and a life is our own
-- rule).
use Rattle.std.specs.Prelude.{ℕ, Bool, nat_lt, nat_le, ◌&&◌, List, [], ◌∷◌, length, max}
use Rattle.vr_log.specs.declared.state.Response.{Response}
use Rattle.vr_log.specs.declared.state.VrState.{VrState}
use Rattle.vr_log.specs.Members.{most_failures}

-- the greatest view that was told
abbrev pub greatest_view : List Response → ℕ
greatest_view [] = 0
greatest_view (r ∷ responses) = max r.view (greatest_view responses)

-- enough members told a view, which is not below the promise
abbrev pub is_enough : VrState → Bool
is_enough s = nat_lt (most_failures s) (length s.responses) && nat_le s.promise (greatest_view s.responses)
