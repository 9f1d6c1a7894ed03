use Rattle.std.proofs.Common.{◌≤◌, ℕ, List, length, ap, sym, subst, ◌∙◌}
use Rattle.field_boxes.specs.Headline.Classifier.{Interval, union_holds}
use Rattle.field_boxes.specs.Headline.Fields.{width}
use Rattle.field_boxes.specs.Rules.{sets_of}
use Rattle.range_prefix.specs.Shortest.{shortest_cover}
use Rattle.range_prefix.specs.Spans.{union_of}
use Rattle.std.specs.Prelude.{[], slice_index_or}
use Rattle.rule_expansion.proofs.Places.{at_place, set_there, few_prefixes, narrow_field}
use Rattle.rule_expansion.proofs.sets.set_count.Goals as goal

pub returns-clause-count : goal.returns-clause-count
returns-clause-count c =
    c.count_all.ensures.value
    ∙ ap (λ (w : ℕ). length (shortest_cover w (union_of (slice_index_or c.sets-sets.result c.args.field c.index-sets-field.result).now))) c.width.ensures
    ∙ ap (λ (set : List Interval). length (shortest_cover (width c.args.field) (λ v. union_holds v set))) (set_there c.args.rule.now c.sets-sets.result c.args.field c.index-sets-field.result c.sets-sets.ensures.sets c.requires)

pub returns-clause-few : goal.returns-clause-few
returns-clause-few c =
    few_prefixes (slice_index_or c.sets-sets.result c.args.field c.index-sets-field.result).now (slice_index_or (sets_of c.args.rule.now) c.args.field []) c.width.result c.count_all.result
    (at_place c.args.rule.now c.sets-sets.result c.args.field c.index-sets-field.result c.sets-sets.ensures.sets c.requires)
    (c.sets-sets.ensures.few c.args.field c.requires)
    (subst (λ (w : ℕ). w ≤ 32) (sym c.width.ensures) (narrow_field c.args.field c.requires))
    c.count_all.ensures.few
