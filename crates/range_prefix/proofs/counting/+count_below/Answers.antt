use Rattle.std.proofs.Common.{ap, arith, length, length-append}
use Rattle.range_prefix.specs.Shortest.{shortest_below}
use Rattle.range_prefix.specs.Spans.{union_of}
use Rattle.range_prefix.proofs.Few.{within_below}
use Rattle.range_prefix.proofs.counting.+count_below.Goals as goal

pub overflow_add-result : goal.overflow_add-result
overflow_add-result t c =
    let width = c.args.width in
    let h = c.in-Part.halved in
    let set = union_of h.spans.now in
    omega (
      arith,
      within_below width (union_of c.args.spans.now) c.args.prefix c.requires.fits.wide,
      ap length c.in-Part.ensures.joined,
      length-append (shortest_below width set h.low) (shortest_below width set h.high),
      c.count_below.ensures,
      c.count_below-in-Part.ensures,
    )
