use Rattle.std.proofs.Common.{◌<◌, ℕ, []}
use Rattle.std.specs.Prelude.{IsTrue, slice_index_or}
use Rattle.field_boxes.specs.declared.span.Span.{Span}
use Rattle.field_boxes.specs.Fields.{greatest_of}
use Rattle.field_boxes.specs.Headline.Classifier.{union_holds}
use Rattle.field_boxes.specs.Boxes.{EachValue}
use Rattle.field_boxes.specs.Rules.{sets_of}
use Rattle.field_boxes.proofs.rule.Rule.covers.Given as goal

abbrev pub invariant-loop-field : goal.invariant-loop-field
invariant-loop-field l = (k : ℕ) (d : Span) → k < l.field → EachValue (greatest_of k) (slice_index_or l.spans k d) (λ v. IsTrue (union_holds v (slice_index_or (sets_of l.self) k [])))
