use Rattle.std.proofs.Common.{◌≡◌, ◌∙◌, sym}
use Rattle.std.proofs.lemmas.Bool.{OnTrue_from, OnFalse_from}
use Rattle.std.specs.Prelude.{◌&&◌, nat_le}
use Rattle.field_boxes.specs.Headline.Classifier.{Interval}
use Rattle.field_boxes.specs.Spans.{interval_of, intervals_of}
use Rattle.field_boxes.proofs.FirstSeen.{list_any-map}
use Rattle.field_boxes.proofs.Unions.{has_common, common, none_common, within, holds_between, between}
use Rattle.field_boxes.proofs.boxes.has_any.Goals as goal
use Rattle.field_boxes.proofs.boxes.has_any.Goals.{After-one_meets}

-- the test, over intervals
tested : (c : After-one_meets) → has_common c.args.span.lo c.args.span.hi (intervals_of c.args.set.now) ≡ c.one_meets.result
tested c = list_any-map (λ (i : Interval). nat_le i.lo c.args.span.hi && nat_le c.args.span.lo i.hi) interval_of c.args.set.now ∙ sym c.one_meets.ensures

pub returns-clause-yes : goal.returns-clause-yes
returns-clause-yes c = OnTrue_from c.one_meets.result _ (λ e.
    let found = common 0 c.args.greatest c.args.span.lo c.args.span.hi (intervals_of c.args.set.now) c.args.span.ordered c.requires (tested c ∙ e) in
    (found.0, within 0 c.args.greatest found.0 (intervals_of c.args.set.now) c.requires found.3, holds_between found.0 (interval_of c.args.span) found.1 found.2, found.3))

pub returns-clause-no : goal.returns-clause-no
returns-clause-no c = OnFalse_from c.one_meets.result _ (λ e v top inside.
    let at = between v (interval_of c.args.span) inside in
    none_common c.args.span.lo c.args.span.hi v (intervals_of c.args.set.now) (tested c ∙ e) at.0 at.1)
