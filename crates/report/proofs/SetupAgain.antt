-- The lines of a setup are read as they are written.
use Rattle.std.proofs.Common.{rules, ◌≡◌, ℕ, zero, suc, ◌+◌, ◌-◌, ◌%◌, ◌^◌, ◌≤◌, ◌<◌, true, false, nat_le, ◌&&◌, ◌==◌, List, [], ◌∷◌, ◌++◌, length, get_or, Ok, refl, sym, ap, subst, ◌∙◌, append_assoc, arith}
use Rattle.std.specs.Prelude.{Option, Some, None, codes, Contains, slice_index, IfSome}
use Rattle.std.specs.List.{All, AllByRecursion, list_any}
use Rattle.std.proofs.lemmas.Bool.{eq-eqb, le-leb, lt-ltb}
use Rattle.std.proofs.lemmas.Option.{get_or_from_slice_get, slice_get_within}
use Rattle.of_types.specs.declared.setup.Link.{Link}
use Rattle.of_types.specs.declared.setup.Prefix.{Prefix}
use Rattle.of_types.specs.declared.setup.Rule.{Rule}
use Rattle.of_types.specs.declared.setup.Setup.{Setup}
use Rattle.of_types.specs.Setups.{is_group, IsPort, IsAddressPrefix, IsRule, IsSetup, AreApart, ends_of}
use Rattle.report.specs.Lines.{line_at}
use Rattle.report.specs.OneLine.{begins, is_port_number, may_join_line, is_asked, counts_at, ports_in_text, link_in_text, link_words_at, prefix_in_text, rule_words_at, rule_at}
use Rattle.report.specs.Reading.{port_counts_at, links_at, rules_at, setup_at}
use Rattle.report.specs.Records.{FitsRule}
use Rattle.report.specs.Report.{word, newline, line, number_text, address_word, number_or_dash, port_line, port_lines, link_line, deny_line, lines_of, setup_line, setup_lines}
use Rattle.report.specs.Spelled.{◌>>=◌, dash_or, number16_at}
use Rattle.wires.specs.Wires.{is_taken}
use Rattle.wires.proofs.Apart.{same_end, ends_any, IsFree, free_link}
use Rattle.report.proofs.ListsAgain.{lines_then, line_then, fits_line, while_again, AllBehind}
use Rattle.report.proofs.Readers.{after_then, again_then, test_then, end_then, parted, parted_end, line_is}
use Rattle.report.proofs.WordsAgain.{number8, number32, number64, number16_or_dash, or_dash, address}
use Rattle.report.proofs.Texts.{IsParted}

-- ---- counts

group_again : (n : ℕ) → Contains (1 ∷ 3 ∷ 5 ∷ 7 ∷ []) n → (is_group n ≡ true) × (n < 2 ^ 8)
group_again n (zero, less, e) = rw (sym e) (refl, omega arith)
group_again n (suc zero, less, e) = rw (sym e) (refl, omega arith)
group_again n (suc (suc zero), less, e) = rw (sym e) (refl, omega arith)
group_again n (suc (suc (suc zero)), less, e) = rw (sym e) (refl, omega arith)
group_again n (suc (suc (suc (suc k))), less, e) = absurd (omega (arith, less))

counts_is : (c n : ℕ) (rest : List ℕ) → Contains (1 ∷ 3 ∷ 5 ∷ 7 ∷ []) c → 1 ≤ n → n ≤ 64 → counts_at (line (codes "setup") (number_text c ∷ number_text n ∷ []) ++ rest) ≡ Some ((c, n), rest)
unfolding counts_at
counts_is c n rest group some few =
    let is = group_again c group in
    let within : (is_group c && nat_le 1 n && nat_le n 64) ≡ true = rw (is.0, le-leb 1 n some, le-leb n 64 few) refl in
    ap counts_at (line_is (codes "setup") (number_text c ∷ number_text n ∷ []) rest)
    ∙ after_then (codes "setup") _ _ _
    (again_then number8 c _ _ _ is.1 (parted (number_text n) _)
    (again_then number64 n _ _ _ (omega (arith, few)) (parted_end rest)
    (end_then rest _ _ (test_then _ _ _ within refl))))

port_count_is : (s n : ℕ) (rest : List ℕ) → s < 2 ^ 64 → 1 ≤ n → n ≤ 48 → ports_in_text s (port_line s n ++ rest) ≡ Some (n, rest)
unfolding ports_in_text port_line
port_count_is s n rest small some few =
    let within : (s == s && nat_le 1 n && nat_le n 48) ≡ true = rw (eq-eqb s s refl, le-leb 1 n some, le-leb n 48 few) refl in
    ap (ports_in_text s) (line_is (codes "ports") (number_text s ∷ number_text n ∷ []) rest)
    ∙ after_then (codes "ports") _ _ _
    (again_then number64 s _ _ _ small (parted (number_text n) _)
    (again_then number32 n _ _ _ (omega (arith, few)) (parted_end rest)
    (end_then rest _ _ (test_then _ _ _ within refl))))

pub more_ports : (s n : ℕ) (counts rest : List ℕ) → port_lines s (n ∷ counts) ++ rest ≡ port_line s n ++ (port_lines (s + 1) counts ++ rest)
unfolding port_lines
more_ports s n counts rest = append_assoc (port_line s n) (port_lines (s + 1) counts) rest

pub no_ports : (s : ℕ) (rest : List ℕ) → port_lines s [] ++ rest ≡ rest
unfolding port_lines
no_ports s rest = refl

ports_again : (counts : List ℕ) (s : ℕ) (rest : List ℕ) → s + length counts < 2 ^ 64 → All (λ n. (1 ≤ n) × (n ≤ 48)) counts → port_counts_at (length counts) s (port_lines s counts ++ rest) ≡ Ok (counts, rest)
unfolding port_counts_at
ports_again [] s rest small are = ap (λ (l : List ℕ). Ok ([], l)) (no_ports s rest)
ports_again (n ∷ counts) s rest small are =
    let is = are 0 0 (omega arith) in
    ap (port_counts_at (suc (length counts)) s) (more_ports s n counts rest)
    ∙ line_then _ _ _ _ _ (port_count_is s n (port_lines (s + 1) counts ++ rest) (omega (arith, small)) is.0 is.1)
    (lines_then _ _ _ _ (ports_again counts (s + 1) rest (omega (arith, small)) (λ k d less. are (suc k) d (omega (arith, less)))) refl)

-- ---- wires

port_again : (setup : Setup) (s p : ℕ) → IsPort setup s p → is_port_number setup.ports s p ≡ true
port_again setup s p is =
    let index : slice_index setup.ports s ≡ is.1.0 = get_or_from_slice_get setup.ports s is.1.0 0 is.1.1 in
    rw (lt-ltb s (length setup.ports) (slice_get_within setup.ports s is.1.0 is.1.1), le-leb 1 p is.0, index, le-leb p is.1.0 is.1.2) refl

free_again : (s p : ℕ) (links : List Link) → list_any (same_end (s, p)) (ends_of links) ≡ false → is_taken s p links ≡ false
free_again s p links e = sym (ends_any (same_end (s, p)) links) ∙ e

joins_again : (setup : Setup) (before : List Link) (l : Link) → IsPort setup l.switch l.port → IsPort setup l.peer l.peer_port → IsFree before l → may_join_line setup.ports before l ≡ true
joins_again setup before l one other free =
    let apart : (l.switch == l.peer && l.port == l.peer_port) ≡ false = free.two in
    rw (
      port_again setup l.switch l.port one,
      port_again setup l.peer l.peer_port other,
      apart,
      free_again l.switch l.port before free.one,
      free_again l.peer l.peer_port before free.other,
    ) refl

record FitsLink (l : Link) : Type 0 where
  pub switch : l.switch < 2 ^ 8
  pub port : l.port < 2 ^ 32
  pub peer : l.peer < 2 ^ 8
  pub peer_port : l.peer_port < 2 ^ 32

link_words_is : (l : Link) (rest : List ℕ) → FitsLink l → link_words_at (link_line l ++ rest) ≡ Some (l, rest)
unfolding link_words_at
link_words_is l rest fits =
    ap link_words_at (line_is (codes "link") (number_text l.switch ∷ number_text l.port ∷ number_text l.peer ∷ number_text l.peer_port ∷ []) rest)
    ∙ after_then (codes "link") _ _ _
    (again_then number8 l.switch _ _ _ fits.switch (parted (number_text l.port) _)
    (again_then number32 l.port _ _ _ fits.port (parted (number_text l.peer) _)
    (again_then number8 l.peer _ _ _ fits.peer (parted (number_text l.peer_port) _)
    (again_then number32 l.peer_port _ _ _ fits.peer_port (parted_end rest)
    (end_then rest _ _ refl)))))

-- a wire that may stand behind these
record MayStand (ports : List ℕ) (before : List Link) (l : Link) : Type 0 where
  pub fits : FitsLink l
  pub joins : may_join_line ports before l ≡ true

link_is : (ports : List ℕ) (before : List Link) (l : Link) (rest : List ℕ) → MayStand ports before l → link_in_text ports before (link_line l ++ rest) ≡ Some (l, rest)
unfolding link_in_text
link_is ports before l rest may = rw (link_words_is l rest may.fits, may.joins) refl

begins_link : (l : Link) (rest : List ℕ) → begins (codes "link") (link_line l ++ rest) ≡ true
unfolding line
begins_link l rest = refl

small_port : (setup : Setup) (s p : ℕ) → IsSetup setup → IsPort setup s p → (s < 2 ^ 8) × (p < 2 ^ 32)
small_port setup s p is port =
    let there = slice_get_within setup.ports s port.1.0 port.1.1 in
    let few = is.few in
    let index : get_or setup.ports s 0 ≡ port.1.0 = get_or_from_slice_get setup.ports s port.1.0 0 port.1.1 in
    let count = is.ports s 0 there in
    let most = count.1 in
    let below = port.1.2 in
    (omega (arith, there, few), omega (arith, index, most, below))

stand : (setup : Setup) → IsSetup setup → (before links : List Link) → AllByRecursion (λ l. IsPort setup l.switch l.port × IsPort setup l.peer l.peer_port) links → AreApart (ends_of (before ++ links)) →
    AllBehind (MayStand setup.ports) before links
stand setup is before [] ports apart = tt
stand setup is before (l ∷ links) ports apart =
    let one = small_port setup l.switch l.port is ports.0.0 in
    let other = small_port setup l.peer l.peer_port is ports.0.1 in (
      record {
        fits = record { switch = one.0; port = one.1; peer = other.0; peer_port = other.1 };
        joins = joins_again setup before l ports.0.0 ports.0.1 (free_link before l links apart);
      },
      stand setup is (before ++ l ∷ []) links ports.1 (subst (λ all. AreApart (ends_of all)) (sym (append_assoc before (l ∷ []) links)) apart),
    )

links_again : (setup : Setup) (rest : List ℕ) → IsSetup setup → begins (codes "link") rest ≡ false → links_at setup.ports (lines_of link_line setup.links ++ rest) ≡ Ok (setup.links, rest)
unfolding links_at
links_again setup rest is ends =
    while_again (begins (codes "link")) (λ before rest. line_at rest (link_in_text setup.ports before rest)) link_line (MayStand setup.ports)
    (λ before l rest may. begins_link l rest)
    (λ before l rest may. fits_line (link_line l ++ rest) _ _ (link_is setup.ports before l rest may))
    1024 [] setup.links rest is.few_links (stand setup is [] setup.links is.links is.apart) ends

-- ---- rules

prefix_then : {R : Type 0} (p : Prefix) (rest : List ℕ) (more : Prefix × List ℕ → Option R) (y : Option R) → p.address < 2 ^ 32 → IsAddressPrefix p → IsParted rest → more (p, rest) ≡ y →
    (prefix_in_text (word (address_word p.address) ++ (word (number_text p.length) ++ rest)) >>= more) ≡ y
unfolding prefix_in_text
prefix_then p rest more y fits is follows e =
    let short = is.short in
    let within : (nat_le p.length 32 && p.address % 2 ^ (32 - p.length) == 0) ≡ true = rw (le-leb p.length 32 short, is.clean) refl in
    let read : prefix_in_text (word (address_word p.address) ++ (word (number_text p.length) ++ rest)) ≡ Some (p, rest) =
    again_then address p.address _ _ _ fits (parted (number_text p.length) _)
    (again_then number8 p.length _ _ _ (omega (arith, short)) follows
    (test_then _ _ _ within refl)) in
    rw read e

pub port_word : (port : Option ℕ) → number_or_dash port ≡ or_dash number_text port
unfolding number_or_dash number_text
port_word None = refl
port_word (Some p) = refl

port_then : {R : Type 0} (port : Option ℕ) (rest : List ℕ) (more : Option ℕ × List ℕ → Option R) (y : Option R) → IfSome port (λ p. p < 2 ^ 16) → more (port, newline ++ rest) ≡ y →
    (dash_or number16_at (word (number_or_dash port) ++ (newline ++ rest)) >>= more) ≡ y
port_then port rest more y fits e =
    subst (λ text. (dash_or number16_at (word text ++ (newline ++ rest)) >>= more) ≡ y) (sym (port_word port))
    (again_then number16_or_dash port (newline ++ rest) more y fits (parted_end rest) e)

small_proto : (n : ℕ) → Contains (0 ∷ 6 ∷ 17 ∷ []) n → n < 2 ^ 8
small_proto n (zero, less, e) = omega (arith, e)
small_proto n (suc zero, less, e) = omega (arith, e)
small_proto n (suc (suc zero), less, e) = omega (arith, e)
small_proto n (suc (suc (suc k)), less, e) = absurd (omega (arith, less))

rule_words_is : (r : Rule) (rest : List ℕ) → IsRule r → FitsRule r → rule_words_at (deny_line r ++ rest) ≡ Some (r, rest)
unfolding rule_words_at
rule_words_is r rest is fits =
    ap rule_words_at (line_is (codes "deny") (number_text r.proto ∷ address_word r.src.address ∷ number_text r.src.length ∷ address_word r.dst.address ∷ number_text r.dst.length ∷ number_or_dash r.port ∷ []) rest)
    ∙ after_then (codes "deny") _ _ _
    (again_then number8 r.proto _ _ _ (small_proto r.proto is.proto) (parted (address_word r.src.address) _)
    (prefix_then r.src _ _ _ fits.source is.source (parted (address_word r.dst.address) _)
    (prefix_then r.dst _ _ _ fits.destination is.destination (parted (number_or_dash r.port) _)
    (port_then r.port rest _ _ fits.port (end_then rest _ _ refl)))))

asked_again : (n : ℕ) (port : Option ℕ) → Contains (0 ∷ 6 ∷ 17 ∷ []) n → (n ≡ 0 → port ≡ None) → is_asked n port ≡ true
asked_again n None (zero, less, e) portless = rw (sym e) refl
asked_again n None (suc zero, less, e) portless = rw (sym e) refl
asked_again n None (suc (suc zero), less, e) portless = rw (sym e) refl
asked_again n None (suc (suc (suc k)), less, e) portless = absurd (omega (arith, less))
asked_again n (Some p) (zero, less, e) portless = absurd (no_port (portless (sym e)))
  where
    no_port : Some p ≡ None → ⊥
    no_port e = cc
asked_again n (Some p) (suc zero, less, e) portless = rw (sym e) refl
asked_again n (Some p) (suc (suc zero), less, e) portless = rw (sym e) refl
asked_again n (Some p) (suc (suc (suc k)), less, e) portless = absurd (omega (arith, less))

pub record MayDeny (r : Rule) : Type 0 where
  pub is : IsRule r
  pub fits : FitsRule r

rule_is : (r : Rule) (rest : List ℕ) → MayDeny r → rule_at (deny_line r ++ rest) ≡ Some (r, rest)
unfolding rule_at
rule_is r rest may = rw (rule_words_is r rest may.is may.fits, asked_again r.proto r.port may.is.proto may.is.portless) refl

begins_deny : (r : Rule) (rest : List ℕ) → begins (codes "deny") (deny_line r ++ rest) ≡ true
unfolding line
begins_deny r rest = refl

may_deny : (before rules : List Rule) → AllByRecursion IsRule rules → AllByRecursion FitsRule rules → AllBehind (λ before r. MayDeny r) before rules
may_deny before [] is fits = tt
may_deny before (r ∷ rules) is fits = (record { is = is.0; fits = fits.0 }, may_deny (before ++ r ∷ []) rules is.1 fits.1)

rules_again : (rules : List Rule) (rest : List ℕ) → length rules ≤ 16 → AllByRecursion IsRule rules → AllByRecursion FitsRule rules → begins (codes "deny") rest ≡ false → rules_at (lines_of deny_line rules ++ rest) ≡ Ok (rules, rest)
unfolding rules_at
rules_again rules rest few is fits ends =
    while_again (begins (codes "deny")) (λ _ rest. line_at rest (rule_at rest)) deny_line (λ before r. MayDeny r)
    (λ before r rest may. begins_deny r rest)
    (λ before r rest may. fits_line (deny_line r ++ rest) _ _ (rule_is r rest may))
    16 [] rules rest few (may_deny [] rules is fits) ends

-- ---- the setup

-- no wire stands where a rule does
deny_no_link : (rules : List Rule) (rest : List ℕ) → begins (codes "link") rest ≡ false → begins (codes "link") (lines_of deny_line rules ++ rest) ≡ false
unfolding line lines_of
deny_no_link [] rest ends = ends
deny_no_link (r ∷ rules) rest ends = refl

pub setup_parts : (s : Setup) (rest : List ℕ) → setup_lines s ++ rest ≡ setup_line s ++ (port_lines 0 s.ports ++ (lines_of link_line s.links ++ (lines_of deny_line s.deny ++ rest)))
unfolding setup_lines
setup_parts s rest =
    append_assoc (setup_line s) (port_lines 0 s.ports ++ (lines_of link_line s.links ++ lines_of deny_line s.deny)) rest
    ∙ ap (λ l. setup_line s ++ l) (append_assoc (port_lines 0 s.ports) (lines_of link_line s.links ++ lines_of deny_line s.deny) rest
    ∙ ap (λ l. port_lines 0 s.ports ++ l) (append_assoc (lines_of link_line s.links) (lines_of deny_line s.deny) rest))

setup_line_is : (s : Setup) (rest : List ℕ) → IsSetup s → counts_at (setup_line s ++ rest) ≡ Some ((s.controllers, length s.ports), rest)
unfolding setup_line
setup_line_is s rest is = counts_is s.controllers (length s.ports) rest is.group is.some is.few

pub setup_again : (s : Setup) (rest : List ℕ) → IsSetup s → AllByRecursion FitsRule s.deny → begins (codes "link") rest ≡ false → begins (codes "deny") rest ≡ false → setup_at (setup_lines s ++ rest) ≡ Ok (s, rest)
unfolding setup_at
setup_again s rest is fits no_link no_deny =
    let few = is.few in
    ap setup_at (setup_parts s rest)
    ∙ line_then _ _ _ _ _ (setup_line_is s _ is)
    (lines_then _ _ _ _ (ports_again s.ports 0 _ (omega (arith, few)) is.ports)
    (lines_then _ _ _ _ (links_again s _ is (deny_no_link s.deny rest no_link))
    (lines_then _ _ _ _ (rules_again s.deny rest is.few_rules is.rules fits no_deny) refl)))
