-- Lists are read as they are written.
use Rattle.std.proofs.Common.{◌≡◌, ◌∷◌, ◌++◌, ℕ, zero, suc, ◌+◌, ◌-◌, ◌<◌, ◌≤◌, List, Bool, true, false, cond, [], ap, refl, sym, subst, ◌∙◌, arith, add-zero, append-nil, append_assoc, length, drop, Some, None, Option, ◌&&◌, ◌||◌, Ok, Result, map, ◌==◌, nat_eq, unwrap_or, if◌then◌else◌, bytes_eq, All, slice_index_or}
use Rattle.std.specs.Cmp.Lexicographic.{pointwise}
use Rattle.std.specs.Char.{is_ascii}
use Rattle.std.proofs.lemmas.Bool.{and_parts, ne_eqb, eqb-false, not-true}
use Rattle.std.proofs.lemmas.Slice.Eq.{bytes_eq-Decides}
use Rattle.std.specs.Coded.{le_prop}
use Rattle.std.specs.List.{AllByRecursion, list_all}
use Rattle.std.proofs.Math.Logic.{∥∥₁_elim}
use Rattle.std.proofs.lemmas.List.{length-append}
use Rattle.std.proofs.lemmas.List.Elements.{recursion_from_All}
use Rattle.field_boxes.specs.declared.rule.Rule as code
use Rattle.field_boxes.specs.Headline.Classifier.{Interval, Rule}
use Rattle.field_boxes.specs.NamedRules.{named_rules}
use Rattle.field_boxes.specs.Headline.Names.{text_of}
use Rattle.field_boxes.specs.Names.{is_decision_word, name_at}
use Rattle.field_boxes.specs.Ports.{ArePorts}
use Rattle.field_boxes.specs.Rules.{sets_of}
use Rattle.field_boxes.specs.Spans.{interval_of}
use Rattle.field_boxes.specs.Unions.{RiseApart}
use Rattle.field_boxes.specs.FilterRules.{IsFilterRule}
use Rattle.filter_reader.proofs.AddressTexts.{prefix_texts}
use Rattle.filter_reader.specs.declared.reason.Reason.{Reason}
use Rattle.field_boxes.specs.Headline.FilterList.{FilterList}
use Rattle.filter_reader.specs.Headline.FilterList.{list_of, own_name, with_line}
use Rattle.text_lines.specs.Headline.Fallible.{◌>>=◌}
use Rattle.text_lines.specs.Headline.Lines.{text_lines, without_return}
use Rattle.text_lines.specs.Headline.Reading.{BadLine, at_line, read_from}
use Rattle.text_lines.proofs.Joins.{all_wider, is_other, lines_of-line}
use Rattle.filter_reader.specs.ListText.{columns_text, decision_text, list_text, rule_text}
use Rattle.filter_reader.specs.OwnNames.{HaveNames, IsNameOf}
use Rattle.filter_reader.specs.Reading.{with_rule}
use Rattle.filter_reader.specs.Headline.RuleLine.{SpelledRule, rule_line}
use Rattle.filter_reader.proofs.Bytes.{is_line_byte}
use Rattle.filter_reader.proofs.LineTexts.{ArePortSets, CanSpell, five, line_bytes, rule_of_tokens-text}
use Rattle.filter_reader.proofs.TailTexts.{IsTail, tail_none, tail_word}

all_dropped : (p : ℕ → Bool) (k : ℕ) (xs : List ℕ) → list_all p xs ≡ true → list_all p (drop k xs) ≡ true
all_dropped p zero xs h = h
all_dropped p (suc k) [] h = refl
all_dropped p (suc k) (x ∷ xs) h = all_dropped p k xs (and_parts (p x) (list_all p xs) h).1

not_return : (ys : List ℕ) → list_all (is_other 13) ys ≡ true → pointwise nat_eq (13 ∷ []) ys ≡ false
not_return [] h = refl
not_return (y ∷ ys) h =
    let other = not-true (y == 13) (and_parts (is_other 13 y) (list_all (is_other 13) ys) h).0 in
    let e : nat_eq 13 y ≡ false = ne_eqb 13 y (λ same. eqb-false y 13 other (sym same)) in
    rw e refl

without_return-none : (line : List ℕ) → list_all (is_other 13) line ≡ true → without_return line ≡ line
without_return-none line h = rw (not_return (drop (length line - 1) line) (all_dropped (is_other 13) (length line - 1) line h)) refl

line_parts : (b : ℕ) → is_line_byte b ≡ true → (is_ascii b ≡ true) × (is_other 10 b ≡ true) × (is_other 13 b ≡ true)
line_parts b h =
    let outer = and_parts (is_ascii b) (is_other 10 b && is_other 13 b) h in
    let inner = and_parts (is_other 10 b) (is_other 13 b) outer.1 in
    (outer.0, inner.0, inner.1)

-- a line of such bytes, and then its end and a rest
text_lines-line : (line rest : List ℕ) → list_all is_line_byte line ≡ true → text_lines (line ++ 10 ∷ rest) ≡ line ∷ text_lines rest
text_lines-line line rest h =
    ap (map without_return) (lines_of-line line rest (all_wider is_line_byte (is_other 10) (λ b e. (line_parts b e).1) line h))
    ∙ ap (λ l. l ∷ text_lines rest) (without_return-none line (all_wider is_line_byte (is_other 13) (λ b e. (line_parts b e).2) line h))

-- the word of a rule with this name
abbrev pub word_of : List ℕ → Option (List ℕ)
word_of name = cond (is_decision_word name) (Some name) None

tail_by : (name : List ℕ) (t : Bool) → is_decision_word name ≡ t → IsTail (if t then 9 ∷ name else []) (cond t (Some name) None)
tail_by name true e = tail_word name e
tail_by name false e = tail_none

tail_of : (name : List ℕ) → IsTail (decision_text name) (word_of name)
tail_of name = tail_by name (is_decision_word name) refl

name_by : (k : ℕ) (name : List ℕ) (t : Bool) → (t || bytes_eq name (own_name k)) ≡ true → unwrap_or (cond t (Some name) None) (own_name k) ≡ name
name_by k name true h = refl
name_by k name false h = sym ((bytes_eq-Decides name (own_name k)).0 h)

-- the name that a written rule gets
name_read : (k : ℕ) (name : List ℕ) → IsNameOf k name → unwrap_or (word_of name) (own_name k) ≡ name
name_read k name h = name_by k name (is_decision_word name) h

line_read : (before : ℕ) (s d : Interval) (sp dp : List Interval) (p : Interval) (name : List ℕ) → CanSpell s d sp dp p → before < 65536 →
    rule_line before (columns_text (five s d sp dp p) ++ decision_text name) ≡ Ok (record { sets = five s d sp dp p; word = word_of name; flagged = false })
unfolding rule_line
line_read before s d sp dp p name h room =
    let other : nat_eq before 65536 ≡ false = ne_eqb before 65536 (λ e. omega (arith, e)) in
    let bytes = line_bytes s d sp dp p (decision_text name) (word_of name) h (tail_of name) in
    let ascii = all_wider is_line_byte is_ascii (λ b e. (line_parts b e).0) (columns_text (five s d sp dp p) ++ decision_text name) bytes in
    rw (other, ascii) (rule_of_tokens-text s d sp dp p (decision_text name) (word_of name) h (tail_of name))

-- a written rule goes behind those of a list
pub read_from-rule : (list : FilterList) (number : ℕ) (s d : Interval) (sp dp : List Interval) (p : Interval) (name rest : List ℕ) → CanSpell s d sp dp p → length list.rules < 65536 →
    read_from with_line list number (text_lines (rule_text (record { sets = five s d sp dp p; decision = name }) ++ rest))
    ≡ read_from with_line (with_rule list (record { sets = five s d sp dp p; word = word_of name; flagged = false })) (number + 1) (text_lines rest)
read_from-rule list number s d sp dp p name rest h room =
    let line = columns_text (five s d sp dp p) ++ decision_text name in
    ap (λ (text : List ℕ). read_from with_line list number (text_lines text)) (append_assoc line (10 ∷ []) rest)
    ∙ ap (read_from with_line list number) (text_lines-line line rest (line_bytes s d sp dp p (decision_text name) (word_of name) h (tail_of name)))
    ∙ ap (λ (read : Result SpelledRule Reason). at_line number (read >>= (λ spelled. Ok (with_rule list spelled))) >>= (λ next. read_from with_line next (number + 1) (text_lines rest))) (line_read (length list.rules) s d sp dp p name h room)

RiseApart-prop : (low top : ℕ) (set : List Interval) → IsProp (RiseApart low top set)
RiseApart-prop low top [] = hlevel
RiseApart-prop low top (i ∷ set) = hlevel (le_prop, RiseApart-prop (i.hi + 2) top set)

-- a set of ports is one to sixteen ranges that rise with gaps
port_sets : (set : List Interval) → ∥ ArePorts set ∥₁ → ArePortSets set
port_sets set h = ∥∥₁_elim h (hlevel (le_prop, RiseApart-prop 0 65535 set)) (λ ports. record { some = ports.some; few = ports.few; rise = ports.rise })

can_spell : (r : code.Rule) → IsFilterRule r → CanSpell (interval_of r.source) (interval_of r.destination) (slice_index_or r.ports 0 []) (slice_index_or r.ports 1 []) (interval_of r.protocol)
can_spell r h = record {
  source = prefix_texts r.source h.source;
  destination = prefix_texts r.destination h.destination;
  source_ports = port_sets (slice_index_or r.ports 0 []) h.source_ports;
  destination_ports = port_sets (slice_index_or r.ports 1 []) h.destination_ports;
  protocol = h.protocol;
}

-- rules behind those of a list
rules_read : (before : List (Rule (List ℕ))) (flagged number : ℕ) (names : List (List ℕ)) (rules : List code.Rule) → AllByRecursion IsFilterRule rules → HaveNames (length before + 1) (named_rules names rules) → length before + length rules ≤ 65536 →
    read_from with_line (record { rules = before; flagged = flagged }) number (text_lines (list_text (named_rules names rules))) ≡ Ok (record { rules = before ++ named_rules names rules; flagged = flagged })
rules_read before flagged number names [] spelled have few =
    ap (λ (rs : List (Rule (List ℕ))). let list : FilterList = record { rules = rs; flagged = flagged } in let whole : Result FilterList (BadLine Reason) = Ok list in whole) (sym (append-nil before))
rules_read before flagged number names (r ∷ rules) spelled have few =
    let name = text_of (name_at names r.decision) in
    let set = λ (k : ℕ). slice_index_or r.ports k [] in
    let rest = text_lines (list_text (named_rules names rules)) in
    let first : Rule (List ℕ) = record { sets = sets_of r; decision = name } in
    let many : length (before ++ first ∷ []) ≡ length before + 1 = length-append before (first ∷ []) in
    let list : FilterList = record { rules = before; flagged = flagged } in
    read_from-rule list number (interval_of r.source) (interval_of r.destination) (set 0) (set 1) (interval_of r.protocol) name (list_text (named_rules names rules)) (can_spell r spelled.0) (omega arith)
    ∙ ap (λ (n : List ℕ). let x : Rule (List ℕ) = record { sets = sets_of r; decision = n } in
    let next : FilterList = record { rules = before ++ x ∷ []; flagged = flagged + 0 } in read_from with_line next (number + 1) rest) (name_read (length before + 1) name have.0)
    ∙ ap (λ (f : ℕ). let next : FilterList = record { rules = before ++ first ∷ []; flagged = f } in read_from with_line next (number + 1) rest) (add-zero flagged)
    ∙ rules_read (before ++ first ∷ []) flagged (number + 1) names rules spelled.1 (subst (λ k. HaveNames (k + 1) (named_rules names rules)) (sym many) have.1) (omega (arith, many))
    ∙ ap (λ (rs : List (Rule (List ℕ))). let read : FilterList = record { rules = rs; flagged = flagged } in let whole : Result FilterList (BadLine Reason) = Ok read in whole) (append_assoc before (first ∷ []) (named_rules names rules))

-- the text of rules with names spells them
pub list_of-text : (names : List (List ℕ)) (rules : List code.Rule) → All IsFilterRule rules → HaveNames 1 (named_rules names rules) → length rules ≤ 65536 →
    list_of (list_text (named_rules names rules)) ≡ Ok (record { rules = named_rules names rules; flagged = 0 })
list_of-text names rules spelled named few = rules_read [] 0 1 names rules (recursion_from_All IsFilterRule rules spelled) named (omega arith)
