use Rattle.std.proofs.Common.{◌≡◌, ◌∷◌, ◌++◌, ◌-◌, List, [], ℕ, Vec, Global, ap, append-nil, length, map, take, sym, arith, ◌∙◌}
use Rattle.std.proofs.lemmas.List.{length-map}
use Rattle.std.proofs.lemmas.Simd.{map-map}
use Rattle.std.proofs.lemmas.Result.{on_ok_weaker}
use Rattle.field_boxes.specs.declared.prefix.Prefix.{Prefix}
use Rattle.field_boxes.specs.Headline.Classifier.{Rule}
use Rattle.field_boxes.specs.Headline.Fields.{stated}
use Rattle.field_boxes.specs.Rules.{rule_of}
use Rattle.ternary_words.specs.Prefixes.{fields_trits}
use Rattle.ternary_words.specs.Headline.Word.{Trit}
use Rattle.rule_expansion.specs.Entries.{decided_of, prefixes_of, with_words}
use Rattle.rule_expansion.specs.Expansion.{combinations, covers, decided_words}
use Rattle.rule_expansion.proofs.entries.add_rule.Goals as goal

with_decision : ℕ → List Trit → List Trit × ℕ
with_decision decision word = (word, decision)

-- the words of a rule's covers
words_of : (rule : Rule ℕ) (all : List (Vec Prefix Global)) (chosen : List Prefix) → prefixes_of all ≡ covers stated rule → with_words rule.decision (take (5 - length all) chosen) (combinations (prefixes_of all)) ≡ decided_words (rule ∷ [])
unfolding with_decision
words_of rule all chosen same =
    let many : length all ≡ 5 = sym (length-map all (λ cover. cover.items)) ∙ ap length same in
    let none : 5 - length all ≡ 0 = omega arith in
    ap (λ n. with_words rule.decision (take n chosen) (combinations (prefixes_of all))) none
    ∙ ap (λ cs. with_words rule.decision [] (combinations cs)) same
    ∙ sym (map-map (with_decision rule.decision) (fields_trits stated) (combinations (covers stated rule)))
    ∙ sym (append-nil (map (with_decision rule.decision) (map (fields_trits stated) (combinations (covers stated rule)))))

pub returns : goal.returns
returns c =
    on_ok_weaker c.add_combinations.result
    (λ h. h ∙ ap (λ ws. map decided_of c.args.entries.now.items ++ ws) (words_of (rule_of c.args.rule.now) c.cover_rule.new.lists _ c.in_ok-cover_rule.ensures.covers))
    c.add_combinations.ensures
