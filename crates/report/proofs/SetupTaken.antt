-- A setup is written as it was read, and is within the limits.
use Rattle.std.proofs.Common.{◌≡◌, ◌≤◌, ◌<◌, ◌+◌, ◌^◌, ◌&&◌, ◌==◌, nat_le, ℕ, zero, suc, true, List, [], ◌∷◌, ◌++◌, length, Ok, refl, sym, ap, subst, ◌∙◌, arith}
use Rattle.std.specs.Prelude.{Option, Some, codes}
use Rattle.std.specs.List.{All, AllByRecursion}
use Rattle.std.proofs.lemmas.Bool.{and_parts, leb-true, eqb-true}
use Rattle.of_types.specs.declared.setup.Link.{Link}
use Rattle.of_types.specs.declared.setup.Prefix.{Prefix}
use Rattle.of_types.specs.declared.setup.Rule.{Rule}
use Rattle.of_types.specs.declared.setup.Setup.{Setup}
use Rattle.of_types.specs.Setups.{is_group, IsAddressPrefix, IsRule, IsSetup}
use Rattle.journal.proofs.All.{all_append, all_weaker}
use Rattle.report.specs.Lines.{line_at}
use Rattle.report.specs.OneLine.{begins, may_join_line, is_asked, counts_at, ports_in_text, link_in_text, link_words_at, prefix_in_text, rule_words_at, rule_at}
use Rattle.report.specs.Reading.{port_counts_at, links_at, rules_at, setup_at}
use Rattle.report.specs.Records.{FitsRule}
use Rattle.report.specs.Report.{word, line, number_text, address_word, number_or_dash, port_line, port_lines, link_line, deny_line, lines_of, setup_line, setup_lines}
use Rattle.report.specs.Spelled.{◌>>=◌}
use Rattle.report.proofs.ListsTaken.{Kept, while_takes}
use Rattle.report.proofs.Readers.{line_is}
use Rattle.report.proofs.SetupAgain.{MayDeny, more_ports, no_ports, port_word, setup_parts}
use Rattle.report.proofs.SetupTests.{AreLinks, joined_link, group_is, prefix_is, asked_proto, asked_portless}
use Rattle.report.proofs.Takers.{then, then_lines, tested, fits, both_are, took, took_text, took_end, closes, Spelt}
use Rattle.report.proofs.WordsTaken.{number8_takes, number32_takes, number64_takes, number16_or_dash_takes, address_takes}

-- ---- the counts of controllers, switches and ports

record AreCounts (c : ℕ × ℕ) : Type 0 where
  pub group : is_group c.0 ≡ true
  pub some : 1 ≤ c.1
  pub few : c.1 ≤ 64

counts_are : (bytes : List ℕ) (c : ℕ × ℕ) (rest : List ℕ) → counts_at bytes ≡ Some (c, rest) → Spelt (λ c. line (codes "setup") (number_text c.0 ∷ number_text c.1 ∷ [])) AreCounts bytes c rest
unfolding counts_at
counts_are bytes c rest e =
    took_text (codes "setup") bytes _ _ e (λ b0 e0 e.
    took number8_takes b0 _ _ e (λ controllers b1 e1 f1 e.
    took number64_takes b1 _ _ e (λ switches b2 e2 f2 e.
    took_end b2 _ _ e (λ end e3 e.
    tested (Spelt (λ c. line (codes "setup") (number_text c.0 ∷ number_text c.1 ∷ [])) AreCounts bytes) _ (controllers, switches) end c rest e (λ within.
    (rw (e0, e1, e2, e3) (sym (line_is (codes "setup") (number_text controllers ∷ number_text switches ∷ []) end)), made controllers switches within))))))
  where
    made : (c n : ℕ) → (is_group c && nat_le 1 n && nat_le n 64) ≡ true → AreCounts (c, n)
    made c n e =
        let two = and_parts (is_group c && nat_le 1 n) (nat_le n 64) e in
        let one = and_parts (is_group c) (nat_le 1 n) two.0 in
        record { group = one.0; some = leb-true 1 n one.1; few = leb-true n 64 two.1 }

abbrev IsCount : ℕ → Type 0
IsCount count = (1 ≤ count) × (count ≤ 48)

port_count_is : (switch : ℕ) (bytes : List ℕ) (n : ℕ) (rest : List ℕ) → ports_in_text switch bytes ≡ Some (n, rest) → Spelt (port_line switch) IsCount bytes n rest
unfolding ports_in_text port_line
port_count_is switch bytes n rest e =
    took_text (codes "ports") bytes _ _ e (λ b0 e0 e.
    took number64_takes b0 _ _ e (λ of b1 e1 f1 e.
    took number32_takes b1 _ _ e (λ count b2 e2 f2 e.
    took_end b2 _ _ e (λ end e3 e.
    tested (Spelt (λ n. line (codes "ports") (number_text switch ∷ number_text n ∷ [])) IsCount bytes) _ count end n rest e (λ within.
    let all = and_parts (of == switch && nat_le 1 count) (nat_le count 48) within in
    let two = and_parts (of == switch) (nat_le 1 count) all.0 in
    (rw (e0, e1, e2, e3, eqb-true of switch two.0) (sym (line_is (codes "ports") (number_text switch ∷ number_text count ∷ []) end)), (leb-true 1 count two.1, leb-true count 48 all.1)))))))

one_more : (n : ℕ) (counts : List ℕ) → IsCount n → All IsCount counts → All IsCount (n ∷ counts)
one_more n counts is all zero d lt = is
one_more n counts is all (suc k) d lt = all k d (omega (arith, lt))

record ArePorts (count switch : ℕ) (bytes counts rest : List ℕ) : Type 0 where
  pub spelled : bytes ≡ port_lines switch counts ++ rest
  pub many : length counts ≡ count
  pub each : All IsCount counts

ports_are : (count switch : ℕ) (bytes counts rest : List ℕ) → port_counts_at count switch bytes ≡ Ok (counts, rest) → ArePorts count switch bytes counts rest
unfolding port_counts_at
ports_are zero switch bytes counts rest e =
    both_are (ArePorts 0 switch bytes) [] counts bytes rest e (record { spelled = sym (no_ports switch bytes); many = refl; each = λ k d lt. absurd (omega (arith, lt)) })
ports_are (suc n) switch bytes counts rest e =
    then_lines (line_at bytes (ports_in_text switch bytes)) _ _ e (λ first here e.
    then_lines (port_counts_at n (switch + 1) first.1) _ _ e (λ others there e.
    let is = port_count_is switch bytes first.0 first.1 (fits bytes (ports_in_text switch bytes) first here) in
    let more = ports_are n (switch + 1) first.1 others.0 others.1 there in
    both_are (ArePorts (suc n) switch bytes) (first.0 ∷ others.0) counts others.1 rest e (record {
      spelled = is.0 ∙ ap (λ l. port_line switch first.0 ++ l) more.spelled ∙ sym (more_ports switch first.0 others.0 others.1);
      many = ap suc more.many;
      each = one_more first.0 others.0 is.1 more.each;
    })))

-- ---- wires

link_words_are : (bytes : List ℕ) (l : Link) (rest : List ℕ) → link_words_at bytes ≡ Some (l, rest) → bytes ≡ link_line l ++ rest
unfolding link_words_at
link_words_are bytes l rest e =
    took_text (codes "link") bytes _ _ e (λ b0 e0 e.
    took number8_takes b0 _ _ e (λ switch b1 e1 f1 e.
    took number32_takes b1 _ _ e (λ port b2 e2 f2 e.
    took number8_takes b2 _ _ e (λ peer b3 e3 f3 e.
    took number32_takes b3 _ _ e (λ peer_port b4 e4 f4 e.
    closes (λ l rest. bytes ≡ link_line l ++ rest) (record { switch = switch; port = port; peer = peer; peer_port = peer_port }) b4 l rest e (λ end e5.
    rw (e0, e1, e2, e3, e4, e5) (sym (line_is (codes "link") (number_text switch ∷ number_text port ∷ number_text peer ∷ number_text peer_port ∷ []) end))))))))

joins : (ports : List ℕ) (before : List Link) (bytes : List ℕ) (l : Link) (rest : List ℕ) → link_in_text ports before bytes ≡ Some (l, rest) → (bytes ≡ link_line l ++ rest) × (may_join_line ports before l ≡ true)
unfolding link_in_text
joins ports before bytes l rest e =
    then (link_words_at bytes) _ _ e (λ link here e.
    tested (λ l rest. (bytes ≡ link_line l ++ rest) × (may_join_line ports before l ≡ true)) (may_join_line ports before link.0) link.0 link.1 l rest e (λ holds. (link_words_are bytes link.0 link.1 here, holds)))

links_are : (setup : Setup) (bytes : List ℕ) (links : List Link) (rest : List ℕ) → links_at setup.ports bytes ≡ Ok (links, rest) → Kept link_line (AreLinks setup) 1024 [] bytes links rest
unfolding links_at
links_are setup bytes links rest e =
    while_takes (begins (codes "link")) (λ before rest. line_at rest (link_in_text setup.ports before rest)) link_line (AreLinks setup)
    (λ before bytes l rest so_far e. let j = joins setup.ports before bytes l rest (fits bytes (link_in_text setup.ports before bytes) (l, rest) e) in (j.0, joined_link setup before l so_far j.1))
    1024 [] bytes links rest (record { between = tt; apart = tt }) e

-- ---- rules

abbrev prefix_words : Prefix → List ℕ → List ℕ
prefix_words p rest = word (address_word p.address) ++ (word (number_text p.length) ++ rest)

record IsPrefix (bytes : List ℕ) (p : Prefix) (rest : List ℕ) : Type 0 where
  pub spelled : bytes ≡ prefix_words p rest
  pub small : p.address < 2 ^ 32
  pub is : IsAddressPrefix p

prefix_takes : (bytes : List ℕ) (p : Prefix) (rest : List ℕ) → prefix_in_text bytes ≡ Some (p, rest) → IsPrefix bytes p rest
unfolding prefix_in_text
prefix_takes bytes p rest e =
    took address_takes bytes _ _ e (λ address b1 e1 f1 e.
    took number8_takes b1 _ _ e (λ len b2 e2 f2 e.
    tested (IsPrefix bytes) _ (record { address = address; length = len }) b2 p rest e (λ holds.
    record { spelled = rw (e1, e2) refl; small = f1; is = prefix_is (record { address = address; length = len }) holds })))

took_prefix : {R G : Type 0} (bytes : List ℕ) (more : Prefix × List ℕ → Option R) (r : R) → (prefix_in_text bytes >>= more) ≡ Some r →
    ((p : Prefix) (rest : List ℕ) → IsPrefix bytes p rest → more (p, rest) ≡ Some r → G) → G
took_prefix bytes more r e goal = then (prefix_in_text bytes) more r e (λ p is e. goal p.0 p.1 (prefix_takes bytes p.0 p.1 is) e)

record HasPrefixes (r : Rule) : Type 0 where
  pub source : IsAddressPrefix r.src
  pub destination : IsAddressPrefix r.dst
  pub fits : FitsRule r

words_are : (bytes : List ℕ) (r : Rule) (rest : List ℕ) → rule_words_at bytes ≡ Some (r, rest) → Spelt deny_line HasPrefixes bytes r rest
unfolding rule_words_at
words_are bytes r rest e =
    took_text (codes "deny") bytes _ _ e (λ b0 e0 e.
    took number8_takes b0 _ _ e (λ proto b1 e1 f1 e.
    took_prefix b1 _ _ e (λ src b2 source e.
    took_prefix b2 _ _ e (λ dst b3 destination e.
    took number16_or_dash_takes b3 _ _ e (λ port b4 e4 f4 e.
    closes (Spelt deny_line HasPrefixes bytes) (record { proto = proto; src = src; dst = dst; port = port }) b4 r rest e (λ end e5. (
      rw (e0, e1, source.spelled, destination.spelled, e4, e5, ← port_word port)
          (sym (line_is (codes "deny") (number_text proto ∷ address_word src.address ∷ number_text src.length ∷ address_word dst.address ∷ number_text dst.length ∷ number_or_dash port ∷ []) end)),
      record { source = source.is; destination = destination.is; fits = record { source = source.small; destination = destination.small; port = f4 } },
    )))))))

rule_is : (bytes : List ℕ) (r : Rule) (rest : List ℕ) → rule_at bytes ≡ Some (r, rest) → Spelt deny_line MayDeny bytes r rest
unfolding rule_at
rule_is bytes r rest e =
    then (rule_words_at bytes) _ _ e (λ rule here e.
    tested (Spelt deny_line MayDeny bytes) (is_asked rule.0.proto rule.0.port) rule.0 rule.1 r rest e (λ holds.
    let w = words_are bytes rule.0 rule.1 here in (
      w.0,
      record {
        is = record {
          proto = asked_proto rule.0.proto rule.0.port holds;
          portless = asked_portless rule.0.proto rule.0.port holds;
          source = w.1.source;
          destination = w.1.destination;
        };
        fits = w.1.fits;
      },
    )))

rules_are : (bytes : List ℕ) (rules : List Rule) (rest : List ℕ) → rules_at bytes ≡ Ok (rules, rest) → Kept deny_line (AllByRecursion MayDeny) 16 [] bytes rules rest
unfolding rules_at
rules_are bytes rules rest e =
    while_takes (begins (codes "deny")) (λ _ rest. line_at rest (rule_at rest)) deny_line (AllByRecursion MayDeny)
    (λ before bytes r rest so_far e. let is = rule_is bytes r rest (fits bytes (rule_at bytes) (r, rest) e) in (is.0, all_append MayDeny before (r ∷ []) so_far (is.1, tt)))
    16 [] bytes rules rest tt e

-- ---- the setup

-- a setup that is written in these bytes
pub record IsSetupText (bytes : List ℕ) (s : Setup) (rest : List ℕ) : Type 0 where
  pub spelled : bytes ≡ setup_lines s ++ rest
  pub is : IsSetup s
  pub rules : AllByRecursion FitsRule s.deny

setup_line_of : (s : Setup) (n : ℕ) (rest : List ℕ) → length s.ports ≡ n → line (codes "setup") (number_text s.controllers ∷ number_text n ∷ []) ++ rest ≡ setup_line s ++ rest
unfolding setup_line
setup_line_of s n rest many = ap (λ n. line (codes "setup") (number_text s.controllers ∷ number_text n ∷ []) ++ rest) (sym many)

pub setup_takes : (bytes : List ℕ) (s : Setup) (rest : List ℕ) → setup_at bytes ≡ Ok (s, rest) → IsSetupText bytes s rest
unfolding setup_at
setup_takes bytes s rest e =
    then_lines (line_at bytes (counts_at bytes)) _ _ e (λ counts counts_e e.
    then_lines (port_counts_at counts.0.1 0 counts.1) _ _ e (λ ports ports_e e.
    then_lines (links_at ports.0 ports.1) _ _ e (λ links links_e e.
    then_lines (rules_at links.1) _ _ e (λ deny deny_e e.
    let made : Setup = record { controllers = counts.0.0; ports = ports.0; links = links.0; deny = deny.0 } in
    let are_counts = counts_are bytes counts.0 counts.1 (fits bytes (counts_at bytes) counts counts_e) in
    let are_ports = ports_are counts.0.1 0 counts.1 ports.0 ports.1 ports_e in
    let are_links = links_are made ports.1 links.0 links.1 links_e in
    let are_rules = rules_are links.1 deny.0 deny.1 deny_e in
    let many = are_ports.many in
    let some = are_counts.1.some in
    let few = are_counts.1.few in
    let links_same : are_links.further ≡ links.0 = sym are_links.all_is in
    let rules_same : are_rules.further ≡ deny.0 = sym are_rules.all_is in
    both_are (IsSetupText bytes) made s deny.1 rest e (record {
      spelled =
          are_counts.0 ∙ setup_line_of made counts.0.1 counts.1 many
          ∙ ap (λ l. setup_line made ++ l) (are_ports.spelled
          ∙ ap (λ l. port_lines 0 ports.0 ++ l) (are_links.spelled ∙ ap (λ all. lines_of link_line all ++ links.1) links_same
          ∙ ap (λ l. lines_of link_line links.0 ++ l) (are_rules.spelled ∙ ap (λ all. lines_of deny_line all ++ deny.1) rules_same)))
          ∙ sym (setup_parts made deny.1);
      is = record {
        group = group_is counts.0.0 are_counts.1.group;
        some = omega (arith, many, some);
        few = omega (arith, many, few);
        ports = are_ports.each;
        few_links = subst (λ (all : List Link). length all ≤ 1024) links_same are_links.few;
        links = are_links.holds.between;
        apart = are_links.holds.apart;
        few_rules = subst (λ (all : List Rule). length all ≤ 16) rules_same are_rules.few;
        rules = all_weaker MayDeny IsRule (λ r may. may.is) deny.0 are_rules.holds;
      };
      rules = all_weaker MayDeny FitsRule (λ r may. may.fits) deny.0 are_rules.holds;
    })))))
