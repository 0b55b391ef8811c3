-- What is kept while commands are issued.
use Rattle.std.specs.Prelude.{◌≡◌, ℕ, ◌+◌, nat_eq, ◌&&◌, List, [], ◌∷◌, get_or, Option, Some, None, unwrap_or, if◌then◌else◌}
use Rattle.std.specs.Map.{lookup}
use Rattle.of_types.specs.declared.message.Command.{Command}
use Rattle.of_types.specs.declared.message.Event.{Event}
use Rattle.of_types.specs.declared.message.Order.{Order}
use Rattle.of_types.specs.Lives.{life_in}
use Rattle.app_core.specs.declared.issued.Issued.{Issued}
use Rattle.app_core.specs.Issued.{count_issued}
use Rattle.audit.specs.declared.issuing.Issuer.{Issuer}
use Rattle.audit.specs.Names.{Name, same_name, issued_name, value_of, or_new}

-- the count of a life of a switch
abbrev pub count_of : List ((ℕ × ℕ) × ℕ) → ℕ → ℕ → ℕ
count_of counts s l = unwrap_or (lookup (λ k. nat_eq s k.0 && nat_eq l k.1) counts) 0

-- the order of the first command that has a name
abbrev pub order_in : List Issued → Name → Option Order
order_in [] q = None
order_in (x ∷ all) q = if same_name (issued_name x) q then Some x.order else order_in all q

abbrev pub HoldsOrders : List Issued → List (Name × Order) → Type 0
HoldsOrders issued orders = (q : Name) → value_of orders q ≡ order_in issued q

-- what is kept is that of these events and of what was issued for them
pub record IsIssuer (events : List Event) (issued : List Issued) (i : Issuer) : Type 0 where
  pub lives : (s : ℕ) → get_or i.lives s 0 ≡ life_in s events
  pub counts : (s l : ℕ) → count_of i.counts s l ≡ count_issued s l issued
  pub orders : HoldsOrders issued i.orders

-- a command more is issued, under this name
pub record IsIssuedOne (old : Issuer) (c : Command) (name : Name) (new : Issuer) : Type 0 where
  pub given : name ≡ (c.switch, get_or old.lives c.switch 0, count_of old.counts c.switch (get_or old.lives c.switch 0))
  pub counted : (s l : ℕ) → count_of new.counts s l ≡ (if nat_eq name.0 s && nat_eq name.1 l then name.2 + 1 else count_of old.counts s l)
  pub kept : (q : Name) → value_of new.orders q ≡ or_new (value_of old.orders q) (same_name name q) c.order
  pub lives : new.lives ≡ old.lives
