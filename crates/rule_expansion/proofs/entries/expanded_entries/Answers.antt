use Rattle.std.proofs.Common.{◌≡◌, ◌∷◌, ◌++◌, ◌<◌, ◌+◌, List, [], ℕ, ap, get_or, length, map, sym, take, ◌∙◌}
use Rattle.std.proofs.lemmas.Grind.{flat_map-append}
use Rattle.std.proofs.lemmas.List.{map-append, take_more}
use Rattle.field_boxes.specs.declared.rule.Rule as code
use Rattle.field_boxes.specs.Headline.Classifier.{Rule}
use Rattle.field_boxes.specs.Rules.{rule_of}
use Rattle.ternary_words.specs.Headline.Word.{Trit}
use Rattle.rule_expansion.specs.Expansion.{decided_words, rule_words}
use Rattle.rule_expansion.proofs.entries.expanded_entries.Goals as goal

one_more : (rules : List code.Rule) (i : ℕ) (d : code.Rule) → i < length rules →
    decided_words (map rule_of (take (i + 1) rules)) ≡ decided_words (map rule_of (take i rules)) ++ decided_words (rule_of (get_or rules i d) ∷ [])
one_more rules i d within =
    ap (λ rs. decided_words (map rule_of rs)) (take_more rules i d within)
    ∙ ap decided_words (map-append rule_of (take i rules) (get_or rules i d ∷ []))
    ∙ flat_map-append (λ (rule : Rule ℕ). map (λ word. let pair : List Trit × ℕ = (word, rule.decision) in pair) (rule_words rule)) (map rule_of (take i rules)) (rule_of (get_or rules i d) ∷ [])

pub loop-rule-preserved : goal.loop-rule-preserved
loop-rule-preserved c =
    let rules = c.args.rules.now in
    let i = c.loop-rule.rule-index in
    let rule = c.rule-item.result in
    c.in_ok-add_rule.ensures
    ∙ ap (λ (ws : List (List Trit × ℕ)). ws ++ decided_words (rule_of rule ∷ [])) c.loop-rule.invariant
    ∙ ap (λ (r : code.Rule). decided_words (map rule_of (take i rules)) ++ decided_words (rule_of r ∷ [])) c.rule-item.is
    ∙ sym (one_more rules i rule c.loop-rule-test.true)
