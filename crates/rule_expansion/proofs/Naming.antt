-- The words of rules with numbers, by the names of their decisions.
use Rattle.std.proofs.Common.{◌≡◌, ◌∷◌, ◌++◌, ℕ, zero, suc, ◌+◌, ◌<◌, ◌≤◌, List, [], Some, length, map, ap, refl, sym, ◌∙◌, arith, subst}
use Rattle.std.specs.Prelude.{All, Option}
use Rattle.std.specs.List.{AllByRecursion}
use Rattle.std.proofs.lemmas.List.{length-map, length-append, map-append}
use Rattle.std.proofs.lemmas.List.Elements.{All-from_recursion, recursion_from_All}
use Rattle.std.proofs.lemmas.List.Sums.{sum_by-cons}
use Rattle.std.proofs.lemmas.Simd.{map-map}
use Rattle.std.proofs.lemmas.Option.{slice_get-get_or}
use Rattle.field_boxes.specs.declared.rule.Rule as code
use Rattle.field_boxes.specs.Headline.Classifier.{Rule}
use Rattle.field_boxes.specs.Headline.Fields.{stated}
use Rattle.field_boxes.specs.Headline.Names.{text_of}
use Rattle.field_boxes.specs.Names.{name_at}
use Rattle.field_boxes.specs.NamedRules.{IsNumberedBy, named_rule, named_rules}
use Rattle.field_boxes.specs.Rules.{rule_of}
use Rattle.ternary_words.specs.declared.entry.Entry as code_entry
use Rattle.ternary_words.specs.Headline.Table.{Entry}
use Rattle.ternary_words.specs.Headline.Word.{Trit}
use Rattle.rule_expansion.specs.Entries.{decided_of, AreEntriesOf}
use Rattle.rule_expansion.specs.Expansion.{covers, decided_words, expansion, expanded_count, product_of_lengths, rule_entries, rule_words}
use Rattle.rule_expansion.proofs.Deciding.{length-rule_words}

-- a word with a number, by name
abbrev named_word : List (List ℕ) → List Trit × ℕ → Entry
named_word names pair = record { word = pair.0; decision = name_at names pair.1 }

with_number : ℕ → List Trit → List Trit × ℕ
with_number decision word = (word, decision)

with_name : List ℕ → List Trit → Entry
with_name name word = record { word = word; decision = Some name }

name_there : (names : List (List ℕ)) (n : ℕ) → 0 < n → n ≤ length names → name_at names n ≡ Some (text_of (name_at names n))
name_there names zero some le = absurd (omega arith)
name_there names (suc k) some le = let e = slice_get-get_or names k [] (omega arith) in e ∙ ap (λ o. Some (text_of o)) (sym e)

-- one rule's words
one_rule : (names : List (List ℕ)) (decision : ℕ) (words : List (List Trit)) → 0 < decision → decision ≤ length names → map (named_word names) (map (with_number decision) words) ≡ map (with_name (text_of (name_at names decision))) words
unfolding with_number with_name
one_rule names decision [] some le = refl
one_rule names decision (word ∷ words) some le =
    ap (λ (o : Option (List ℕ)). let e : Entry = record { word = word; decision = o } in e ∷ map (named_word names) (map (with_number decision) words)) (name_there names decision some le)
    ∙ ap (λ es. with_name (text_of (name_at names decision)) word ∷ es) (one_rule names decision words some le)

all_rules : (names : List (List ℕ)) (rules : List code.Rule) → AllByRecursion (IsNumberedBy names) rules → map (named_word names) (decided_words (map rule_of rules)) ≡ expansion (named_rules names rules)
unfolding with_number with_name
all_rules names [] h = refl
all_rules names (r ∷ rules) h =
    map-append (named_word names) (map (with_number r.decision) (rule_words (rule_of r))) (decided_words (map rule_of rules))
    ∙ ap (λ es. es ++ map (named_word names) (decided_words (map rule_of rules))) (one_rule names r.decision (rule_words (rule_of r)) h.0.0 h.0.1)
    ∙ ap (λ es. rule_entries (named_rule names r) ++ es) (all_rules names rules h.1)

few_in_row : (count decision : ℕ) (words : List (List Trit)) → decision ≤ count → AllByRecursion (λ (p : List Trit × ℕ). p.1 ≤ count) (map (with_number decision) words)
unfolding with_number
few_in_row count decision [] le = tt
few_in_row count decision (word ∷ words) le = (le, few_in_row count decision words le)

joined : (count : ℕ) (ps qs : List (List Trit × ℕ)) → AllByRecursion (λ (p : List Trit × ℕ). p.1 ≤ count) ps → AllByRecursion (λ (p : List Trit × ℕ). p.1 ≤ count) qs → AllByRecursion (λ (p : List Trit × ℕ). p.1 ≤ count) (ps ++ qs)
joined count [] qs h k = k
joined count (p ∷ ps) qs h k = (h.0, joined count ps qs h.1 k)

few_words : (names : List (List ℕ)) (rules : List code.Rule) → AllByRecursion (IsNumberedBy names) rules → AllByRecursion (λ (p : List Trit × ℕ). p.1 ≤ length names) (decided_words (map rule_of rules))
unfolding with_number
few_words names [] h = tt
few_words names (r ∷ rules) h = joined (length names) (map (with_number r.decision) (rule_words (rule_of r))) (decided_words (map rule_of rules)) (few_in_row (length names) r.decision (rule_words (rule_of r)) h.0.1) (few_words names rules h.1)

few_entries : (count : ℕ) (entries : List code_entry.Entry) → AllByRecursion (λ (p : List Trit × ℕ). p.1 ≤ count) (map decided_of entries) → AllByRecursion (λ (e : code_entry.Entry). e.decision ≤ count) entries
few_entries count [] h = tt
few_entries count (e ∷ entries) h = (h.0, few_entries count entries h.1)

many_words : (rules : List code.Rule) → length (decided_words (map rule_of rules)) ≡ expanded_count (map rule_of rules)
unfolding with_number
many_words [] = refl
many_words (r ∷ rules) =
    let rule = rule_of r in
    length-append (map (with_number rule.decision) (rule_words rule)) (decided_words (map rule_of rules))
    ∙ ap (λ n. n + length (decided_words (map rule_of rules))) (length-map (rule_words rule) (with_number rule.decision) ∙ length-rule_words rule)
    ∙ ap (λ n. product_of_lengths (covers stated rule) + n) (many_words rules)
    ∙ sym (sum_by-cons (λ (x : Rule ℕ). product_of_lengths (covers stated x)) rule (map rule_of rules))

pub same_count : (names : List (List ℕ)) (rules : List code.Rule) → expanded_count (map rule_of rules) ≡ expanded_count (named_rules names rules)
same_count names [] = refl
same_count names (r ∷ rules) =
    sum_by-cons (λ (x : Rule ℕ). product_of_lengths (covers stated x)) (rule_of r) (map rule_of rules)
    ∙ ap (λ n. product_of_lengths (covers stated (rule_of r)) + n) (same_count names rules)
    ∙ sym (sum_by-cons (λ (x : Rule (List ℕ)). product_of_lengths (covers stated x)) (named_rule names r) (named_rules names rules))

pub are_entries : (names : List (List ℕ)) (rules : List code.Rule) (entries : List code_entry.Entry) → map decided_of entries ≡ decided_words (map rule_of rules) → All (IsNumberedBy names) rules → AreEntriesOf names rules entries
are_entries names rules entries same numbered =
    let all = recursion_from_All (IsNumberedBy names) rules numbered in
    record {
      named = sym (map-map (named_word names) decided_of entries) ∙ ap (map (named_word names)) same ∙ all_rules names rules all;
      numbered = All-from_recursion (λ (e : code_entry.Entry). e.decision ≤ length names) entries (few_entries (length names) entries (subst (AllByRecursion (λ (p : List Trit × ℕ). p.1 ≤ length names)) (sym same) (few_words names rules all)));
      many = sym (length-map entries decided_of) ∙ ap length same ∙ many_words rules;
      counted = same_count names rules;
    }
