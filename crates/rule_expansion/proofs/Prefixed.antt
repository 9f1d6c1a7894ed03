-- The words of rules are prefixes in each field.
use Rattle.std.proofs.Common.{◌≡◌, ◌∷◌, ℕ, List, [], length, map, refl, subst, sym}
use Rattle.std.specs.Prelude.{All}
use Rattle.std.specs.List.{AllByRecursion}
use Rattle.std.proofs.lemmas.List.Elements.{All-from_recursion}
use Rattle.field_boxes.specs.declared.prefix.Prefix.{Prefix}
use Rattle.field_boxes.specs.declared.rule.Rule as code
use Rattle.field_boxes.specs.Headline.Classifier.{Rule}
use Rattle.field_boxes.specs.Headline.Fields.{stated}
use Rattle.field_boxes.specs.Rules.{rule_of}
use Rattle.ternary_words.specs.declared.entry.Entry as code_entry
use Rattle.ternary_words.specs.Prefixes.{FitFields, IsPrefixInEach, fields_trits}
use Rattle.ternary_words.specs.Views.{word_of}
use Rattle.ternary_words.specs.Headline.Word.{Trit}
use Rattle.rule_expansion.specs.Entries.{decided_of}
use Rattle.rule_expansion.specs.Expansion.{combinations, covers, decided_words, rule_words}
use Rattle.rule_expansion.proofs.Combinations.{AllByRecursion-append, HaveCovers, fit_combinations, long_combinations}
use Rattle.rule_expansion.proofs.Deciding.{narrow}

-- a word with a number is a prefix in each field
abbrev IsPrefixPair : List Trit × ℕ → Type 0
IsPrefixPair pair = IsPrefixInEach pair.0

prefix_words : (pss : List (List Prefix)) → AllByRecursion (FitFields stated) pss → AllByRecursion (λ (ps : List Prefix). length ps ≡ 5) pss → AllByRecursion IsPrefixInEach (map (fields_trits stated) pss)
prefix_words [] fit long = tt
prefix_words (ps ∷ pss) fit long = ((ps, record { five = long.0; fit = fit.0; same = refl }), prefix_words pss fit.1 long.1)

with_decision : (decision : ℕ) (words : List (List Trit)) → AllByRecursion IsPrefixInEach words → AllByRecursion IsPrefixPair (map (λ (word : List Trit). (word, decision)) words)
with_decision decision [] h = tt
with_decision decision (word ∷ words) h = (h.0, with_decision decision words h.1)

one_rule : HaveCovers → (rule : Rule ℕ) → AllByRecursion IsPrefixInEach (rule_words rule)
one_rule law rule = prefix_words (combinations (covers stated rule)) (fit_combinations law stated rule narrow) (long_combinations stated rule)

all_rules : HaveCovers → (rules : List code.Rule) → AllByRecursion IsPrefixPair (decided_words (map rule_of rules))
all_rules law [] = tt
all_rules law (r ∷ rules) =
    AllByRecursion-append IsPrefixPair (map (λ (word : List Trit). (word, r.decision)) (rule_words (rule_of r))) (decided_words (map rule_of rules))
    (with_decision r.decision (rule_words (rule_of r)) (one_rule law (rule_of r))) (all_rules law rules)

of_entries : (entries : List code_entry.Entry) → AllByRecursion IsPrefixPair (map decided_of entries) → AllByRecursion (λ (e : code_entry.Entry). IsPrefixInEach (word_of e.word)) entries
of_entries [] h = tt
of_entries (e ∷ entries) h = (h.0, of_entries entries h.1)

-- the entries of rules have such words
pub are_prefixes : HaveCovers → (rules : List code.Rule) (entries : List code_entry.Entry) → map decided_of entries ≡ decided_words (map rule_of rules) → All (λ (e : code_entry.Entry). IsPrefixInEach (word_of e.word)) entries
are_prefixes law rules entries same =
    All-from_recursion (λ (e : code_entry.Entry). IsPrefixInEach (word_of e.word)) entries (of_entries entries (subst (AllByRecursion IsPrefixPair) (sym same) (all_rules law rules)))
