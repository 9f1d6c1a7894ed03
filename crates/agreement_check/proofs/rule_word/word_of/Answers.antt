use Rattle.std.proofs.Common.{◌≡◌, ◌∷◌, ◌^◌, ◌<◌, ◌∙◌, ℕ, List, [], ap, arith, refl, slice_index_or, subst, sym}
use Rattle.field_boxes.specs.Headline.Classifier.{Interval}
use Rattle.field_boxes.specs.Rules.{sets_of}
use Rattle.agreement_check.specs.RuleWords.{least_in_set, prefix_of_set, word_of_rule}
use Rattle.agreement_check.proofs.Rules.{cube_by, least-small, set-at, word-cube}
use Rattle.agreement_check.proofs.rule_word.word_of.Goals as goal

pub prefix_of-requires-clause-small : goal.prefix_of-requires-clause-small
prefix_of-requires-clause-small c =
    subst (λ (set : List Interval). least_in_set set < 2 ^ 32) (sym (set-at c.args.rule.now c.sets.result 0 c.index-sets-0.result c.sets.ensures.sets (omega arith))) (least-small 32 (slice_index_or (sets_of c.args.rule.now) 0 []) (c.sets.ensures.inside 0 (omega arith)))

pub prefix_of-requires-2-clause-small : goal.prefix_of-requires-2-clause-small
prefix_of-requires-2-clause-small c =
    subst (λ (set : List Interval). least_in_set set < 2 ^ 32) (sym (set-at c.args.rule.now c.sets.result 1 c.index-sets-1.result c.sets.ensures.sets (omega arith))) (least-small 32 (slice_index_or (sets_of c.args.rule.now) 1 []) (c.sets.ensures.inside 1 (omega arith)))

pub prefix_of-requires-3-clause-small : goal.prefix_of-requires-3-clause-small
prefix_of-requires-3-clause-small c =
    subst (λ (set : List Interval). least_in_set set < 2 ^ 16) (sym (set-at c.args.rule.now c.sets.result 2 c.index-sets-2.result c.sets.ensures.sets (omega arith))) (least-small 16 (slice_index_or (sets_of c.args.rule.now) 2 []) (c.sets.ensures.inside 2 (omega arith)))

pub prefix_of-requires-4-clause-small : goal.prefix_of-requires-4-clause-small
prefix_of-requires-4-clause-small c =
    subst (λ (set : List Interval). least_in_set set < 2 ^ 16) (sym (set-at c.args.rule.now c.sets.result 3 c.index-sets-3.result c.sets.ensures.sets (omega arith))) (least-small 16 (slice_index_or (sets_of c.args.rule.now) 3 []) (c.sets.ensures.inside 3 (omega arith)))

pub prefix_of-requires-5-clause-small : goal.prefix_of-requires-5-clause-small
prefix_of-requires-5-clause-small c =
    subst (λ (set : List Interval). least_in_set set < 2 ^ 8) (sym (set-at c.args.rule.now c.sets.result 4 c.index-sets-4.result c.sets.ensures.sets (omega arith))) (least-small 8 (slice_index_or (sets_of c.args.rule.now) 4 []) (c.sets.ensures.inside 4 (omega arith)))

pub returns : goal.returns
returns c =
    let rule = c.args.rule.now in
    let set : ℕ → List Interval = λ k. slice_index_or (sets_of rule) k [] in
    let p = c.prefix_of.result in
    let q = c.prefix_of-2.result in
    let r = c.prefix_of-3.result in
    let s = c.prefix_of-4.result in
    let t = c.prefix_of-5.result in
    let e0 : p ≡ prefix_of_set 32 (set 0) = c.prefix_of.ensures.is ∙ ap (prefix_of_set 32) (set-at rule c.sets.result 0 c.index-sets-0.result c.sets.ensures.sets (omega arith)) in
    let e1 : q ≡ prefix_of_set 32 (set 1) = c.prefix_of-2.ensures.is ∙ ap (prefix_of_set 32) (set-at rule c.sets.result 1 c.index-sets-1.result c.sets.ensures.sets (omega arith)) in
    let e2 : r ≡ prefix_of_set 16 (set 2) = c.prefix_of-3.ensures.is ∙ ap (prefix_of_set 16) (set-at rule c.sets.result 2 c.index-sets-2.result c.sets.ensures.sets (omega arith)) in
    let e3 : s ≡ prefix_of_set 16 (set 3) = c.prefix_of-4.ensures.is ∙ ap (prefix_of_set 16) (set-at rule c.sets.result 3 c.index-sets-3.result c.sets.ensures.sets (omega arith)) in
    let e4 : t ≡ prefix_of_set 8 (set 4) = c.prefix_of-5.ensures.is ∙ ap (prefix_of_set 8) (set-at rule c.sets.result 4 c.index-sets-4.result c.sets.ensures.sets (omega arith)) in
    let same : cube_by (p ∷ q ∷ r ∷ s ∷ t ∷ []) ≡ word_of_rule rule = rw (e0, e1, e2, e3, e4) refl in
    word-cube p q r s t c.of.result (c.prefix_of.ensures.fits, (c.prefix_of-2.ensures.fits, (c.prefix_of-3.ensures.fits, (c.prefix_of-4.ensures.fits, (c.prefix_of-5.ensures.fits, tt))))) c.of.ensures.trits ∙ same
