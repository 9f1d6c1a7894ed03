use Rattle.std.proofs.Common.{◌≡◌, ◌∙◌, ap, arith, rules, length, slice_index}
use Rattle.field_boxes.specs.Headline.Bits.{bits}
use Rattle.ternary_words.proofs.Joined.{bits-header}
use Rattle.tcam_sim.proofs.KeyNumbers.{in_two}
use Rattle.tcam_sim.proofs.key.Key.of.Goals as goal

pub returns : goal.returns
returns c =
    let values = c.args.header.now.values in
    let small = c.args.header.now.in_fields in
    let five : length values ≡ 5 = search rules in
    rw (c.joined.ensures, c.joined-2.ensures, c.joined-both_ports.ensures, c.joined-ports.ensures, c.from.ensures, c.from-2.ensures)
    (ap (bits 104) (in_two (slice_index values 0) (slice_index values 1) (slice_index values 2) (slice_index values 3) (slice_index values 4))
    ∙ bits-header values five (small 1 (omega arith)) (small 2 (omega arith)) (small 3 (omega arith)) (small 4 (omega arith)))
