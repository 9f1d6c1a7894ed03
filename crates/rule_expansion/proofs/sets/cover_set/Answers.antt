use Rattle.std.proofs.Common.{ℕ, List, ap, ◌∙◌}
use Rattle.std.specs.Prelude.{slice_index_or}
use Rattle.std.proofs.lemmas.Result.{on_ok_weaker}
use Rattle.field_boxes.specs.Headline.Classifier.{Interval, union_holds}
use Rattle.field_boxes.specs.Headline.Fields.{width}
use Rattle.range_prefix.specs.Shortest.{shortest_cover}
use Rattle.range_prefix.specs.Spans.{union_of}
use Rattle.rule_expansion.proofs.Places.{set_there}
use Rattle.rule_expansion.proofs.sets.cover_set.Goals as goal

pub returns-clause-cover : goal.returns-clause-cover
returns-clause-cover c =
    on_ok_weaker c.cover_all_into.result
    (λ h. h
    ∙ ap (λ (w : ℕ). shortest_cover w (union_of (slice_index_or c.sets-sets.result c.args.field c.index-sets-field.result).now)) c.width.ensures
    ∙ ap (λ (set : List Interval). shortest_cover (width c.args.field) (λ v. union_holds v set)) (set_there c.args.rule.now c.sets-sets.result c.args.field c.index-sets-field.result c.sets-sets.ensures.sets c.requires))
    c.cover_all_into.ensures.value
