use Rattle.std.proofs.Common.{ap, sym, ◌∙◌}
use Rattle.filter_reader.specs.Ranges.{range_view}
use Rattle.filter_reader.specs.Headline.Tokens.{tokens}
use Rattle.filter_reader.proofs.RangeLists.{by_comma, one_left}
use Rattle.filter_reader.proofs.ranges.only_range.Goals as goal

pub returns-in-None : goal.returns-in-None
returns-in-None c =
    let behind = tokens c.in_ok-range.rest.now in
    let first = one_left (tokens c.args.line.now) (range_view c.in_ok-range.range) behind c.in_ok-range.ensures.range in
    (first.0, first.1.0, first.1.1 ∙ ap (by_comma first.0 behind) (sym c.in-None.ensures.rest))
