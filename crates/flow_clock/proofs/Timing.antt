-- The times of keys, as their map gives them.
use Rattle.std.proofs.Common.{◌≡◌, ℕ, Bool, true, false, not, List, [], ◌∷◌, length, filter, refl, sym, ◌∙◌, ap, ap₂, subst, arith}
use Rattle.std.specs.Prelude.{Option, Some, None, IsSome, option_map, nat_eq, nat_lt, ◌&&◌, ◌||◌, if◌then◌else◌}
use Rattle.std.specs.BTreeMap.{BTreeMap, get, is_at}
use Rattle.std.specs.List.{list_any}
use Rattle.std.specs.Map.{lookup, values_of}
use Rattle.std.specs.Option.{option_cmp}
use Rattle.std.specs.Ordering.{nat_cmp, ordering_then, is_eq}
use Rattle.std.specs.declared.cmp.Ordering.{Ordering}
use Rattle.std.specs.declared.cmp.Ordering.TheVariants.{Less, Equal, Greater}
use Rattle.std.proofs.Math.Bool.{and_assoc}
use Rattle.std.proofs.lemmas.Bool.{ne_eqb, ltb-true}
use Rattle.of_types.specs.declared.message.Match.{Match}
use Rattle.of_types.specs.declared.message.Row.{Row}
use Rattle.of_types.specs.declared.message.Masked48.{Masked48}
use Rattle.of_types.specs.declared.message.Masked32.{Masked32}
use Rattle.of_types.specs.Matching.{same_value, same_address48, same_address32, same_match}
use Rattle.flow_table.specs.Table.{same_key}
use Rattle.flow_clock.specs.declared.times.Key.{Key}
use Rattle.flow_clock.specs.declared.times.Times.{Times}
use Rattle.flow_clock.specs.contracts.times.KeyOrd.TheImpl.{ghosts}
use Rattle.flow_clock.specs.Clocked.{key_of, counted_hit, leaves, is_over_at}
use Rattle.flow_clock.proofs.Kept.{TimesOf, IsSetAt, one_key, itself}

-- what a map has
abbrev pub times_in : BTreeMap Key Times → TimesOf
times_in times = get ghosts.cmp times

-- two keys are one
abbrev pub is_key : Key → Key → Bool
is_key a b = is_at (ghosts.cmp a) b

-- ---- the order of keys tells them apart

then_both : (o p : Ordering) → is_eq (ordering_then o p) ≡ (is_eq o && is_eq p)
then_both Less p = refl
then_both Equal p = refl
then_both Greater p = refl

number_is : (a b : ℕ) → is_eq (nat_cmp a b) ≡ nat_eq a b
number_is a b = by_less (nat_lt a b) refl
  where
    by_equal : (t : Bool) → is_eq (if t then Equal else Greater) ≡ t
    by_equal true = refl
    by_equal false = refl

    by_less : (t : Bool) → nat_lt a b ≡ t → is_eq (if t then Less else if nat_eq a b then Equal else Greater) ≡ nat_eq a b
    by_less true is = sym (ne_eqb a b (λ same. absurd (omega (arith, ltb-true a b is, same))))
    by_less false is = by_equal (nat_eq a b)

value_is : (a b : Option ℕ) → is_eq (option_cmp nat_cmp a b) ≡ same_value a b
value_is None None = refl
value_is None (Some b) = refl
value_is (Some a) None = refl
value_is (Some a) (Some b) = number_is a b

abbrev masked48_cmp : Masked48 → Masked48 → Ordering
masked48_cmp a b = ordering_then (nat_cmp a.value b.value) (nat_cmp a.mask b.mask)

abbrev masked32_cmp : Masked32 → Masked32 → Ordering
masked32_cmp a b = ordering_then (nat_cmp a.value b.value) (nat_cmp a.mask b.mask)

address48_is : (a b : Option Masked48) → is_eq (option_cmp masked48_cmp a b) ≡ same_address48 a b
address48_is None None = refl
address48_is None (Some b) = refl
address48_is (Some a) None = refl
address48_is (Some a) (Some b) = then_both (nat_cmp a.value b.value) (nat_cmp a.mask b.mask) ∙ ap₂ (λ (s t : Bool). s && t) (number_is a.value b.value) (number_is a.mask b.mask)

address32_is : (a b : Option Masked32) → is_eq (option_cmp masked32_cmp a b) ≡ same_address32 a b
address32_is None None = refl
address32_is None (Some b) = refl
address32_is (Some a) None = refl
address32_is (Some a) (Some b) = then_both (nat_cmp a.value b.value) (nat_cmp a.mask b.mask) ∙ ap₂ (λ (s t : Bool). s && t) (number_is a.value b.value) (number_is a.mask b.mask)

-- one field, and the rest
then_is : (o p : Ordering) (s t : Bool) → is_eq o ≡ s → is_eq p ≡ t → is_eq (ordering_then o p) ≡ (s && t)
then_is o p s t first rest = then_both o p ∙ ap₂ (λ (x y : Bool). x && y) first rest

grouped : (a b c d e f g h i j k : Bool) → (a && (b && (c && (d && (e && (f && (g && (h && (i && (j && k)))))))))) ≡ (a && b && c && d && e && f && g && h && i && j && k)
grouped false b c d e f g h i j k = simp and_assoc refl
grouped true b c d e f g h i j k = simp and_assoc refl

match_is : (a b : Match) → is_eq (ordering_then (option_cmp nat_cmp a.in_port b.in_port) (ordering_then (option_cmp masked48_cmp a.eth_dst b.eth_dst) (ordering_then (option_cmp masked48_cmp a.eth_src b.eth_src) (ordering_then (option_cmp nat_cmp a.eth_type b.eth_type) (ordering_then (option_cmp nat_cmp a.ip_proto b.ip_proto) (ordering_then (option_cmp masked32_cmp a.ipv4_src b.ipv4_src) (ordering_then (option_cmp masked32_cmp a.ipv4_dst b.ipv4_dst) (ordering_then (option_cmp nat_cmp a.tcp_src b.tcp_src) (ordering_then (option_cmp nat_cmp a.tcp_dst b.tcp_dst) (ordering_then (option_cmp nat_cmp a.udp_src b.udp_src) (option_cmp nat_cmp a.udp_dst b.udp_dst)))))))))))
    ≡ same_match a b
match_is a b =
    then_is _ _ _ _ (value_is a.in_port b.in_port) (then_is _ _ _ _ (address48_is a.eth_dst b.eth_dst) (then_is _ _ _ _ (address48_is a.eth_src b.eth_src) (then_is _ _ _ _ (value_is a.eth_type b.eth_type) (then_is _ _ _ _ (value_is a.ip_proto b.ip_proto)
    (then_is _ _ _ _ (address32_is a.ipv4_src b.ipv4_src) (then_is _ _ _ _ (address32_is a.ipv4_dst b.ipv4_dst) (then_is _ _ _ _ (value_is a.tcp_src b.tcp_src) (then_is _ _ _ _ (value_is a.tcp_dst b.tcp_dst) (then_is _ _ _ _ (value_is a.udp_src b.udp_src) (value_is a.udp_dst b.udp_dst))))))))))
    ∙ grouped (same_value a.in_port b.in_port) (same_address48 a.eth_dst b.eth_dst) (same_address48 a.eth_src b.eth_src) (same_value a.eth_type b.eth_type) (same_value a.ip_proto b.ip_proto) (same_address32 a.ipv4_src b.ipv4_src) (same_address32 a.ipv4_dst b.ipv4_dst) (same_value a.tcp_src b.tcp_src) (same_value a.tcp_dst b.tcp_dst) (same_value a.udp_src b.udp_src) (same_value a.udp_dst b.udp_dst)

pub tells_keys : (a b : Row) → is_key (key_of a) (key_of b) ≡ same_key a b
tells_keys a b = then_is _ _ _ _ (number_is a.priority b.priority) (match_is a.matching b.matching)

-- a row of a key
abbrev row_at : Key → Row
row_at key = record { priority = key.priority; cookie = 0; matching = key.matching; actions = [] }

pub one_key_at : (a b : Key) → is_key a b ≡ true → a ≡ b
one_key_at a b is = one_key (row_at a) (row_at b) (sym (tells_keys (row_at a) (row_at b)) ∙ is)

pub key_itself : (a : Key) → is_key a a ≡ true
key_itself a = tells_keys (row_at a) (row_at a) ∙ itself (row_at a)

-- ---- changes of the times of a key

-- nothing is counted at a key that has no times
pub none_counted : (times : TimesOf) (key : Key) (now octets : ℕ) → times key ≡ None → IsSetAt is_key key (option_map (counted_hit now octets) (times key)) times times
none_counted times key now octets none q = by_test (is_key key q) refl
  where
    by_test : (b : Bool) → is_key key q ≡ b → times q ≡ (if b then option_map (counted_hit now octets) (times key) else times q)
    by_test true is = ap times (sym (one_key_at key q is)) ∙ none ∙ sym (ap (option_map (counted_hit now octets)) none)
    by_test false is = refl

-- what is put back is as it was
pub put_undone : (old mid new : TimesOf) (key : Key) (put earlier : Option Times) → earlier ≡ old key → IsSetAt is_key key put old mid → IsSetAt is_key key earlier mid new → (q : Key) → new q ≡ old q
put_undone old mid new key put earlier was set back q = back q ∙ by_test (is_key key q) refl
  where
    by_test : (b : Bool) → is_key key q ≡ b → (if b then earlier else mid q) ≡ old q
    by_test true is = was ∙ ap old (one_key_at key q is)
    by_test false is = set q ∙ rw is refl

pub put_there : (old new : TimesOf) (key : Key) (put : Times) → IsSetAt is_key key (Some put) old new → IsSome (new key)
put_there old new key put set = subst (λ (o : Option Times). IsSome o) (sym there) refl
  where
    there : new key ≡ Some put
    there = set key ∙ rw (key_itself key) refl

-- ---- what is left where the times are forgotten that are over

abbrev pub is_live : ℕ → Key × Times → Bool
is_live now e = not (is_over_at now e.1)

unlike : false ≡ true → ⊥
unlike h = cc

pub none_over : (test : Key → Bool) (now : ℕ) (es : List (Key × Times)) → list_any (is_over_at now) (values_of es) ≡ false → leaves now (lookup test es) ≡ false
none_over test now [] none = refl
none_over test now (e ∷ es) none = by_over (is_over_at now e.1) refl (none_over test now es) none
  where
    by_key : (b : Bool) → is_over_at now e.1 ≡ false → leaves now (lookup test es) ≡ false → leaves now (if b then Some e.1 else lookup test es) ≡ false
    by_key true here rest = here
    by_key false here rest = rest

    by_over : (o : Bool) → is_over_at now e.1 ≡ o → (list_any (is_over_at now) (values_of es) ≡ false → leaves now (lookup test es) ≡ false) → (o || list_any (is_over_at now) (values_of es)) ≡ false → leaves now (lookup test (e ∷ es)) ≡ false
    by_over true is rest over = absurd cc
    by_over false is rest none = by_key (test e.0) is (rest none)

pub live_stays : (test : Key → Bool) (now : ℕ) (es : List (Key × Times)) → leaves now (lookup test es) ≡ false → lookup test (filter (is_live now) es) ≡ lookup test es
live_stays test now [] live = refl
live_stays test now (e ∷ es) live = by_key (test e.0) refl (live_stays test now es) live
  where
    by_key : (b : Bool) → test e.0 ≡ b → (leaves now (lookup test es) ≡ false → lookup test (filter (is_live now) es) ≡ lookup test es)
        → leaves now (if b then Some e.1 else lookup test es) ≡ false
        → lookup test (if is_live now e then e ∷ filter (is_live now) es else filter (is_live now) es) ≡ (if b then Some e.1 else lookup test es)
    by_key true is rest here = rw here (rw is refl)
    by_key false is rest there = by_live (is_live now e) (rest there)
      where
        by_live : (t : Bool) → lookup test (filter (is_live now) es) ≡ lookup test es → lookup test (if t then e ∷ filter (is_live now) es else filter (is_live now) es) ≡ lookup test es
        by_live true same = rw is same
        by_live false same = same

-- what is left of some times, where those are forgotten that are over
pub purged_same : (times left : BTreeMap Key Times) (now : ℕ) → left.entries ≡ filter (is_live now) times.entries → (q : Key) → leaves now (times_in times q) ≡ false → times_in left q ≡ times_in times q
purged_same times left now are q live = ap (λ (es : List (Key × Times)). lookup (is_key q) es) are ∙ live_stays (is_key q) now times.entries live

-- a map without entries has no times
pub untimed : (times : BTreeMap Key Times) → length times.entries ≡ 0 → (q : Key) → times_in times q ≡ None
untimed times none q = by_entries times.entries none
  where
    by_entries : (es : List (Key × Times)) → length es ≡ 0 → lookup (is_at (ghosts.cmp q)) es ≡ None
    by_entries [] e = refl
    by_entries (e ∷ es) h = absurd cc
