use Rattle.std.proofs.Common.{◌≡◌, ◌∙◌, sym, arith}
use Rattle.std.proofs.lemmas.Bool.{OnTrue_from, OnFalse_from}
use Rattle.std.specs.Prelude.{◌&&◌, nat_le}
use Rattle.field_boxes.specs.Headline.Classifier.{Interval}
use Rattle.field_boxes.specs.Spans.{interval_of, intervals_of}
use Rattle.field_boxes.proofs.FirstSeen.{list_any-map}
use Rattle.field_boxes.proofs.Unions.{has_both, held_by_one, missing, holds_between, between}
use Rattle.field_boxes.proofs.boxes.has_all.Goals as goal
use Rattle.field_boxes.proofs.boxes.has_all.Goals.{After-one_reaches}

-- the test, over intervals
tested : (c : After-one_reaches) → has_both c.args.span.lo c.min.result (intervals_of c.args.set.now) ≡ c.one_reaches.result
tested c = list_any-map (λ (i : Interval). nat_le i.lo c.args.span.lo && nat_le c.min.result i.hi) interval_of c.args.set.now ∙ sym c.one_reaches.ensures

pub returns-clause-yes : goal.returns-clause-yes
returns-clause-yes c = OnTrue_from c.one_reaches.result _ (λ e v top inside.
    let at = between v (interval_of c.args.span) inside in
    let low = at.0 in
    let high = at.1 in
    held_by_one c.args.span.lo c.min.result v (intervals_of c.args.set.now) (tested c ∙ e) low (omega (arith, c.min.ensures)))

pub returns-clause-no : goal.returns-clause-no
returns-clause-no c = OnFalse_from c.one_reaches.result _ (λ e.
    let ordered = c.args.span.ordered in
    let found = missing 0 c.args.greatest c.args.span.lo c.min.result (intervals_of c.args.set.now) (omega (arith, c.min.ensures, c.requires.begins)) c.requires.rise (tested c ∙ e) in
    let low = found.1 in
    let high = found.2 in
    (found.0, omega (arith, c.min.ensures), holds_between found.0 (interval_of c.args.span) low (omega (arith, c.min.ensures)), found.3))
