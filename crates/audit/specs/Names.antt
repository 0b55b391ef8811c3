-- The names of events and of commands: a switch, a life of it, and a number in that life.
use Rattle.std.specs.Prelude.{ℕ, Bool, nat_eq, ◌&&◌, List, Option, Some, None, if◌then◌else◌}
use Rattle.std.specs.Map.{lookup}
use Rattle.of_types.specs.declared.message.Event.{Event}
use Rattle.app_core.specs.declared.issued.Issued.{Issued}

abbrev pub Name : Type 0
Name = ℕ × ℕ × ℕ

abbrev pub same_name : Name → Name → Bool
same_name a b = nat_eq a.0 b.0 && nat_eq a.1 b.1 && nat_eq a.2 b.2

abbrev pub name_of : Event → Name
name_of e = (e.switch, e.life, e.number)

abbrev pub issued_name : Issued → Name
issued_name x = (x.switch, x.life, x.number)

-- the value of a name, among values by name
abbrev pub value_of : {V : Type 0} → List (Name × V) → Name → Option V
value_of values name = lookup (same_name name) values

-- the value that was there, or else this one where the test holds
abbrev pub or_new : {V : Type 0} → Option V → Bool → V → Option V
or_new (Some x) test value = Some x
or_new None test value = if test then Some value else None
