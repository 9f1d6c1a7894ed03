use Rattle.std.proofs.Common.{◌∷◌, ◌++◌, ◌<◌, List, [], sym, ap, ◌∙◌, arith, length, length-append}
use Rattle.field_boxes.specs.Headline.Classifier.{Interval}
use Rattle.filter_reader.specs.Headline.Ports.{ranges_of}
use Rattle.filter_reader.specs.Ranges.{range_view}
use Rattle.filter_reader.specs.Headline.Tokens.{tokens}
use Rattle.filter_reader.proofs.RangeLists.{behind_ranges, by_comma, behind_nothing, behind_one_more, none_left, one_left}
use Rattle.filter_reader.proofs.ranges.read_ranges.Goals as goal

more_than_none : (front : List Interval) (range : Interval) → 0 < length (front ++ range ∷ [])
more_than_none front range = simp length-append (omega arith)

pub columns-init : goal.columns-init
columns-init c = ([], c.new-ranges.ensures, behind_nothing (ranges_of (tokens c.args.line.now)))

pub returns-in_default : goal.returns-in_default
returns-in_default c = c.columns.invariant.2 ∙ none_left c.columns.invariant.0 (tokens c.columns.rest.now) c.in_default.ensures.range

pub columns-preserved : goal.columns-preserved
columns-preserved c =
    let front = c.columns.invariant.0 in
    let behind = tokens c.in-Some.after.now in
    let first = one_left (tokens c.columns.rest.now) (range_view c.in-Some.range) behind c.in-Some.ensures.range in (
      front ++ first.0 ∷ [],
      c.push.ensures front first.0 c.columns.invariant.1 first.1.0,
      c.columns.invariant.2 ∙ ap (behind_ranges front) (first.1.1 ∙ ap (by_comma first.0 behind) (sym c.in-Some-behind_comma.ensures.rest)) ∙ behind_one_more front first.0 (ranges_of (tokens c.in-Some-behind_comma.next.now)),
    )

pub returns-in-None : goal.returns-in-None
returns-in-None c =
    let front = c.columns.invariant.0 in
    let behind = tokens c.in-Some.after.now in
    let first = one_left (tokens c.columns.rest.now) (range_view c.in-Some.range) behind c.in-Some.ensures.range in (
      front ++ first.0 ∷ [],
      c.push.ensures front first.0 c.columns.invariant.1 first.1.0,
      more_than_none front first.0,
      c.columns.invariant.2 ∙ ap (behind_ranges front) (first.1.1 ∙ ap (by_comma first.0 behind) (sym c.in-None.ensures.rest)),
    )
