-- What the entries of rules decide, and how many they are.
use Rattle.std.proofs.Common.{◌≡◌, ◌∷◌, ◌++◌, ℕ, ◌+◌, ◌≤◌, List, [], Bool, true, false, cond, Some, length, map, ap, refl, sym, ◌∙◌, arith}
use Rattle.std.specs.Prelude.{◌||◌, find, Option, option_map, option_and_then}
use Rattle.std.specs.List.{list_any, AllByRecursion}
use Rattle.std.proofs.lemmas.List.{length-map, length-append}
use Rattle.std.proofs.lemmas.Simd.{map-map}
use Rattle.std.proofs.lemmas.List.Sums.{sum_by-cons}
use Rattle.field_boxes.specs.declared.prefix.Prefix.{Prefix}
use Rattle.field_boxes.specs.Headline.Fields.{width, stated, IsHeader}
use Rattle.field_boxes.specs.Headline.Classifier.{Rule, matches, source}
use Rattle.ternary_words.specs.Prefixes.{FitFields, fields_trits, all_hold}
use Rattle.ternary_words.specs.Headline.Table.{Entry, entry_matches, answer}
use Rattle.ternary_words.specs.Headline.Word.{agrees, header_bits}
use Rattle.rule_expansion.specs.Expansion.{combinations, covers, product_of_lengths, rule_entries, rule_words, expansion, expanded_count}
use Rattle.rule_expansion.proofs.Combinations.{HaveCovers, length-combinations, any_combination, fit_combinations}

-- a word of five prefixes that fit matches the headers that they hold
abbrev pub PrefixesMatch : Type 0
PrefixesMatch = (prefixes : List Prefix) (values : List ℕ) → FitFields stated prefixes → IsHeader values → agrees (fields_trits stated prefixes) (header_bits values) ≡ all_hold stated prefixes values

-- the entry with these prefixes
abbrev pub entry_with : List ℕ → List Prefix → Entry
entry_with name prefixes = record { word = fields_trits stated prefixes; decision = Some name }

pub narrow : AllByRecursion (λ f. width f ≤ 32) stated
narrow = (omega arith, (omega arith, (omega arith, (omega arith, (omega arith, tt)))))

entries_with : (rule : Rule (List ℕ)) → rule_entries rule ≡ map (entry_with rule.decision) (combinations (covers stated rule))
entries_with rule = map-map (λ word. record { word = word; decision = Some rule.decision }) (fields_trits stated) (combinations (covers stated rule))

any_entry : PrefixesMatch → (name values : List ℕ) (pss : List (List Prefix)) → IsHeader values → AllByRecursion (FitFields stated) pss →
    list_any (entry_matches values) (map (entry_with name) pss) ≡ list_any (λ ps. all_hold stated ps values) pss
any_entry law name values [] is fit = refl
any_entry law name values (ps ∷ pss) is fit =
    ap (λ t. t || list_any (entry_matches values) (map (entry_with name) pss)) (law ps values fit.0 is)
    ∙ ap (λ t. all_hold stated ps values || t) (any_entry law name values pss is fit.1)

decided_first : (t rest : Bool) (name : List ℕ) (e : Entry) (found : Option Entry) (later : Option (List ℕ)) → e.decision ≡ Some name →
    option_and_then (λ x. x.decision) found ≡ cond rest (Some name) later → option_and_then (λ x. x.decision) (cond t (Some e) found) ≡ cond (t || rest) (Some name) later
decided_first true rest name e found later same h = same
decided_first false rest name e found later same h = h

-- entries of one decision in front of others
one_decision : (name values : List ℕ) (pss : List (List Prefix)) (others : List Entry) →
    answer (map (entry_with name) pss ++ others) values ≡ cond (list_any (entry_matches values) (map (entry_with name) pss)) (Some name) (answer others values)
one_decision name values [] others = refl
one_decision name values (ps ∷ pss) others =
    decided_first (entry_matches values (entry_with name ps)) (list_any (entry_matches values) (map (entry_with name) pss)) name (entry_with name ps) (find (entry_matches values) (map (entry_with name) pss ++ others)) (answer others values) refl
    (one_decision name values pss others)

first_rule : (t : Bool) (rule : Rule (List ℕ)) (rules : Option (Rule (List ℕ))) → cond t (Some rule.decision) (option_map (λ r. r.decision) rules) ≡ option_map (λ r. r.decision) (cond t (Some rule) rules)
first_rule true rule rules = refl
first_rule false rule rules = refl

pub answers : HaveCovers → PrefixesMatch → (rules : List (Rule (List ℕ))) (values : List ℕ) → IsHeader values → answer (expansion rules) values ≡ source stated values rules
answers have match [] values is = refl
answers have match (rule ∷ rules) values is =
    let pss = combinations (covers stated rule) in
    ap (λ es. answer (es ++ expansion rules) values) (entries_with rule)
    ∙ one_decision rule.decision values pss (expansion rules)
    ∙ ap (λ t. cond t (Some rule.decision) (answer (expansion rules) values)) (any_entry match rule.decision values pss is (fit_combinations have stated rule narrow) ∙ any_combination have stated values rule narrow is)
    ∙ ap (λ o. cond (matches stated values rule) (Some rule.decision) o) (answers have match rules values is)
    ∙ first_rule (matches stated values rule) rule (find (matches stated values) rules)

pub length-rule_words : {A : Type 0} (rule : Rule A) → length (rule_words rule) ≡ product_of_lengths (covers stated rule)
length-rule_words rule = length-map (combinations (covers stated rule)) (fields_trits stated) ∙ length-combinations (covers stated rule)

pub length-rule_entries : (rule : Rule (List ℕ)) → length (rule_entries rule) ≡ product_of_lengths (covers stated rule)
length-rule_entries rule = ap length (entries_with rule) ∙ length-map (combinations (covers stated rule)) (entry_with rule.decision) ∙ length-combinations (covers stated rule)

pub counted : (rules : List (Rule (List ℕ))) → length (expansion rules) ≡ expanded_count rules
counted [] = refl
counted (rule ∷ rules) =
    length-append (rule_entries rule) (expansion rules)
    ∙ ap (λ n. n + length (expansion rules)) (length-rule_entries rule)
    ∙ ap (λ n. product_of_lengths (covers stated rule) + n) (counted rules)
    ∙ sym (sum_by-cons (λ r. product_of_lengths (covers stated r)) rule rules)
