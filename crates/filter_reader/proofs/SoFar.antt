-- A rule joins those of a list that were read so far.
use Rattle.std.proofs.Common.{◌≡◌, ◌∷◌, ◌++◌, ℕ, ◌+◌, ◌<◌, ◌≤◌, List, Bool, true, false, cond, [], ap, refl, sym, subst, ◌∙◌, arith, add-zero, add_comm, length, Some, None, All, Option, option_copied, unwrap_or, IsTrue, IfSome, Bor, bytes_eq}
use Rattle.std.proofs.Math.Nat.{le_trans}
use Rattle.std.specs.Int.{from_bool}
use Rattle.std.specs.List.{AllByRecursion}
use Rattle.std.proofs.lemmas.Bool.{or_left, or_right, cond_both}
use Rattle.std.proofs.lemmas.List.{map-append, length-map, length-append}
use Rattle.std.proofs.lemmas.List.Elements.{recursion_from_All, All-push, All-weaker}
use Rattle.std.proofs.lemmas.List.Sums.{fold-append}
use Rattle.std.proofs.lemmas.Slice.Eq.{bytes_eq-Decides}
use Rattle.field_boxes.specs.declared.rule.Rule as code
use Rattle.field_boxes.specs.Headline.Classifier.{Rule}
use Rattle.field_boxes.specs.NamedRules.{IsNumberedBy, named_rule, named_rules}
use Rattle.field_boxes.specs.Headline.Names.{text_of}
use Rattle.field_boxes.specs.Names.{is_decision_word, is_known, name_at, with_name}
use Rattle.field_boxes.specs.Rules.{sets_of}
use Rattle.filter_reader.specs.declared.line.LineRule.{LineRule}
use Rattle.filter_reader.specs.Headline.FilterList.{named, own_name}
use Rattle.field_boxes.specs.FilterRules.{IsFilterRule}
use Rattle.filter_reader.specs.FirstSeen.{first_seen}
use Rattle.filter_reader.specs.Growing.{IsListSoFar}
use Rattle.filter_reader.specs.LineRules.{IsLineRule, spelled_rule}
use Rattle.filter_reader.specs.OwnNames.{IsNameOf, HaveNames}
use Rattle.field_boxes.specs.Prefixes.{IsPrefix}
use Rattle.field_boxes.specs.Protocols.{IsProtocol}
use Rattle.filter_reader.specs.Reading.{flags_of, read_so_far, with_rule}

-- the first names keep their numbers
abbrev pub KeepsNames : List (List ℕ) → List (List ℕ) → Type 0
KeepsNames old new = (k : ℕ) → k ≤ length old → name_at new k ≡ name_at old k

pub same_rules : (old new : List (List ℕ)) → KeepsNames old new → (rules : List code.Rule) → AllByRecursion (IsNumberedBy old) rules → named_rules new rules ≡ named_rules old rules
same_rules old new keeps [] h = refl
same_rules old new keeps (r ∷ rules) h =
    ap (λ (o : Option (List ℕ)). let rule : Rule (List ℕ) = record { sets = sets_of r; decision = text_of o } in rule ∷ named_rules new rules) (keeps r.decision h.0.1)
    ∙ ap (λ rs. named_rule old r ∷ rs) (same_rules old new keeps rules h.1)

-- a rule behind those that were read, with its name among the names
one_more : (old new : List (List ℕ)) (rules : List code.Rule) (r : code.Rule) (name : List ℕ) → All (IsNumberedBy old) rules → KeepsNames old new → name_at new r.decision ≡ Some name →
    named_rules new (rules ++ r ∷ []) ≡ named_rules old rules ++ record { sets = sets_of r; decision = name } ∷ []
one_more old new rules r name numbered keeps at =
    map-append (named_rule new) rules (r ∷ [])
    ∙ ap (λ rs. rs ++ named_rule new r ∷ []) (same_rules old new keeps rules (recursion_from_All (IsNumberedBy old) rules numbered))
    ∙ ap (λ (o : Option (List ℕ)). let rule : Rule (List ℕ) = record { sets = sets_of r; decision = text_of o } in named_rules old rules ++ rule ∷ []) at

-- the name that a rule of a line gets as rule k
abbrev pub name_of_line : LineRule → ℕ → List ℕ
name_of_line rule k = unwrap_or (option_copied rule.word) (own_name k)

-- what interning the name of a line's rule gives
pub record IsInterned (old new : List (List ℕ)) (name : List ℕ) (n : ℕ) : Type 0 where
  pub names : new ≡ with_name old name
  pub number : name_at new n ≡ Some name
  pub within : (0 < n) × (n ≤ length new)
  pub kept : KeepsNames old new

-- a rule that joins those that were read so far
pub record Joins (old new : List (List ℕ)) (rules : List code.Rule) (rule : LineRule) (r : code.Rule) : Type 0 where
  pub sets : sets_of r ≡ (spelled_rule rule).sets
  pub interned : IsInterned old new (name_of_line rule (length rules + 1)) r.decision

-- the rules with one more
rules_with : (old new : List (List ℕ)) (rules : List code.Rule) (rule : LineRule) (r : code.Rule) → All (IsNumberedBy old) rules → Joins old new rules rule r →
    named_rules new (rules ++ r ∷ []) ≡ named_rules old rules ++ named (length rules + 1) (spelled_rule rule) ∷ []
rules_with old new rules rule r numbered joins =
    let name = name_of_line rule (length rules + 1) in
    one_more old new rules r name numbered joins.interned.kept joins.interned.number
    ∙ ap (λ sets. let x : Rule (List ℕ) = record { sets = sets; decision = name } in named_rules old rules ++ x ∷ []) joins.sets

read_with : (old new : List (List ℕ)) (rules : List code.Rule) (flagged flag : ℕ) (rule : LineRule) (r : code.Rule) → All (IsNumberedBy old) rules → Joins old new rules rule r → flag ≡ flags_of (spelled_rule rule) →
    read_so_far new (rules ++ r ∷ []) (flagged + flag) ≡ with_rule (read_so_far old rules flagged) (spelled_rule rule)
read_with old new rules flagged flag rule r numbered joins e = rw (length-map rules (named_rule old), rules_with old new rules rule r numbered joins, e) refl

pub with_name-longer : (names : List (List ℕ)) (name : List ℕ) → (length names ≤ length (with_name names name)) × (length (with_name names name) ≤ length names + 1)
with_name-longer names name =
    cond_both (is_known names name) names (names ++ name ∷ []) (λ new. (length names ≤ length new) × (length new ≤ length names + 1)) (λ e. (omega arith, omega arith))
    (λ e. (simp length-append (omega arith), simp length-append (omega arith)))

have_more : (k : ℕ) (rules : List (Rule (List ℕ))) (rule : Rule (List ℕ)) → HaveNames k rules → IsNameOf (k + length rules) rule.decision → HaveNames k (rules ++ rule ∷ [])
have_more k [] rule h e = (rw add-zero at e, tt)
have_more k (r ∷ rules) rule h e =
    let same : k + length (r ∷ rules) ≡ k + 1 + length rules = omega arith in
    (h.0, have_more (k + 1) rules rule h.1 (subst (λ n. IsNameOf n rule.decision) same e))

fits_by : (word : Option (Bor (List ℕ))) (k : ℕ) → IfSome word (λ w. IsTrue (is_decision_word w.now)) → IsNameOf k (unwrap_or (option_copied word) (own_name k))
fits_by (Some word) k h = or_left (is_decision_word word.now) (bytes_eq word.now (own_name k)) h
fits_by None k h = or_right (is_decision_word (own_name k)) (bytes_eq (own_name k) (own_name k)) ((bytes_eq-Decides (own_name k) (own_name k)).1 refl)

-- what is kept of a list keeps true with one more rule
so_far_with : (old new : List (List ℕ)) (rules : List code.Rule) (flagged flag : ℕ) (rule : LineRule) (r : code.Rule) → IsListSoFar old rules flagged → IsLineRule rule → IsFilterRule r → Joins old new rules rule r →
    length rules < 65536 → flag ≤ 1 → IsListSoFar new (rules ++ r ∷ []) (flagged + flag)
so_far_with old new rules flagged flag rule r so line filter joins room flags =
    let name = name_of_line rule (length rules + 1) in
    let longer = with_name-longer old name in
    let low : length old ≤ length new = rw joins.interned.names longer.0 in
    let high : length new ≤ length old + 1 = rw joins.interned.names longer.1 in
    let fewer_names = so.fewer_names in
    let fewer_flags = so.fewer_flags in
    let more : length (rules ++ r ∷ []) ≡ length rules + 1 = simp length-append refl in
    let joined = rules_with old new rules rule r so.numbered joins in
    let before = named_rules old rules in
    let seen : new ≡ first_seen (before ++ named (length rules + 1) (spelled_rule rule) ∷ []) =
    joins.interned.names ∙ ap (λ names. with_name names name) so.seen ∙ sym (fold-append (λ (names : List (List ℕ)) (x : Rule (List ℕ)). with_name names x.decision) [] before (named (length rules + 1) (spelled_rule rule) ∷ [])) in
    let place : length rules + 1 ≡ 1 + length before = add_comm (length rules) 1 ∙ ap (λ n. 1 + n) (sym (length-map rules (named_rule old))) in
    record {
      few = omega arith;
      fewer_names = omega arith;
      fewer_flags = omega arith;
      spelled = All-push IsFilterRule rules r so.spelled filter;
      numbered = All-push (IsNumberedBy new) rules r (All-weaker (IsNumberedBy old) (IsNumberedBy new) (λ x p. (p.0, le_trans p.1 low)) rules so.numbered) joins.interned.within;
      seen = seen ∙ ap first_seen (sym joined);
      named = subst (HaveNames 1) (sym joined) (have_more 1 before (named (length rules + 1) (spelled_rule rule)) so.named (subst (λ n. IsNameOf n name) place (fits_by rule.word (length rules + 1) line.word)));
    }

-- a rule with the sets of a line's rule is a filter rule
filter_rule : (rule : LineRule) (r : code.Rule) → IsLineRule rule → r.source ≡ rule.source → r.destination ≡ rule.destination → r.ports ≡ rule.ports → r.protocol ≡ rule.protocol → IsFilterRule r
filter_rule rule r line s d p t = record {
  source = subst (IsPrefix 32) (sym s) line.source;
  destination = subst (IsPrefix 32) (sym d) line.destination;
  source_ports = rw p (∣ line.source_ports ∣₁);
  destination_ports = rw p (∣ line.destination_ports ∣₁);
  protocol = subst IsProtocol (sym t) line.protocol;
}

-- the rule of the code is the rule of the line, with the number of its decision
pub record IsRuleOf (rule : LineRule) (r : code.Rule) : Type 0 where
  pub source : r.source ≡ rule.source
  pub destination : r.destination ≡ rule.destination
  pub ports : r.ports ≡ rule.ports
  pub protocol : r.protocol ≡ rule.protocol

same_sets : (rule : LineRule) (r : code.Rule) → IsRuleOf rule r → sets_of r ≡ (spelled_rule rule).sets
same_sets rule r same = rw (same.source, same.destination, same.ports, same.protocol) refl

-- the list with a rule that was pushed
pub read_pushed : {old new : List (List ℕ)} {rules items : List code.Rule} {r : code.Rule} → items ≡ rules ++ r ∷ [] → (flagged flag : ℕ) (rule : LineRule) → IsListSoFar old rules flagged → IsRuleOf rule r →
    IsInterned old new (name_of_line rule (length rules + 1)) r.decision → flag ≡ flags_of (spelled_rule rule) → read_so_far new items (flagged + flag) ≡ with_rule (read_so_far old rules flagged) (spelled_rule rule)
read_pushed {old} {new} {rules} {items} {r} pushed flagged flag rule so same interned e =
    rw pushed (read_with old new rules flagged flag rule r so.numbered (record { sets = same_sets rule r same; interned = interned }) e)

pub so_far_pushed : {old new : List (List ℕ)} {rules items : List code.Rule} {r : code.Rule} → items ≡ rules ++ r ∷ [] → (flagged flag : ℕ) (rule : LineRule) → IsListSoFar old rules flagged → IsLineRule rule → IsRuleOf rule r →
    IsInterned old new (name_of_line rule (length rules + 1)) r.decision → length rules < 65536 → flag ≤ 1 → IsListSoFar new items (flagged + flag)
so_far_pushed {old} {new} {rules} {items} {r} pushed flagged flag rule so line same interned room e =
    rw pushed (so_far_with old new rules flagged flag rule r so line (filter_rule rule r line same.source same.destination same.ports same.protocol) (record { sets = same_sets rule r same; interned = interned }) room e)

-- a flag as a number
pub flag_counts : (flag : Bool) → (from_bool flag ≡ cond flag 1 0) × (from_bool flag ≤ 1)
flag_counts true = (refl, omega arith)
flag_counts false = (refl, omega arith)
