-- What the next entry of a log is judged by.
use Rattle.std.specs.Prelude.{◌≡◌, ℕ, ◌+◌, Bool, nat_eq, nat_lt, ◌&&◌, List, length, get_or, replicate, if◌then◌else◌}
use Rattle.of_types.specs.declared.message.Event.{Event}
use Rattle.of_types.specs.Lives.{life_in, count_in, is_switch_up}
use Rattle.vr_log.specs.declared.entry.Entry.{Entry}
use Rattle.vr_log.specs.declared.entry.Entry.TheVariants.{Received, Processed}
use Rattle.vr_log.specs.Log.{received, processed}
use Rattle.audit.specs.declared.following.Following.{Following}

-- before the first entry
pub record IsFollowingStart (f : Following) : Type 0 where
  pub lives : f.lives ≡ replicate 256 0
  pub numbers : f.numbers ≡ replicate 256 0
  pub received : f.received ≡ 0
  pub processed : f.processed ≡ 0

-- it is that of a log
pub record IsFollowed (log : List Entry) (f : Following) : Type 0 where
  pub lives : (s : ℕ) → get_or f.lives s 0 ≡ life_in s (received log)
  pub numbers : (s : ℕ) → get_or f.numbers s 0 ≡ count_in s (life_in s (received log)) (received log)
  pub events : f.received ≡ length (received log)
  pub finished : f.processed ≡ processed log

abbrev pub may_go_behind : Following → Entry → Bool
may_go_behind f (Received event) =
    if nat_eq event.life (get_or f.lives event.switch 0) then nat_eq event.number (get_or f.numbers event.switch 0)
    else nat_lt (get_or f.lives event.switch 0) event.life && nat_eq event.number 0 && is_switch_up event.what
may_go_behind f (Processed j) = nat_eq j f.processed && nat_lt j f.received

abbrev pub has_begun : Following → ℕ → ℕ → Bool
has_begun f switch life = nat_lt life (get_or f.lives switch 0)

-- an event more
pub record Joined (old : Following) (event : Event) (new : Following) : Type 0 where
  pub lives : (s : ℕ) → get_or new.lives s 0 ≡ (if nat_eq event.switch s then event.life else get_or old.lives s 0)
  pub numbers : (s : ℕ) → get_or new.numbers s 0 ≡ (if nat_eq event.switch s then event.number + 1 else get_or old.numbers s 0)
  pub received : new.received ≡ old.received + 1
  pub processed : new.processed ≡ old.processed

-- an entry more
abbrev pub Joins : Following → Entry → Following → Type 0
Joins old (Received event) new = Joined old event new
Joins old (Processed j) new = new ≡ record old { processed = old.processed + 1 }
