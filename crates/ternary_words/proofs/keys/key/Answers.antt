use Rattle.std.proofs.Common.{length, ◌≡◌, arith, rules}
use Rattle.ternary_words.proofs.Joined.{bits-header}
use Rattle.ternary_words.proofs.keys.key.Goals as goal

pub returns-clause-bits : goal.returns-clause-bits
returns-clause-bits c =
    let small = c.requires in
    let five : length c.args.values ≡ 5 = search rules in
    rw (c.joined.ensures, c.joined-with_ports.ensures, c.joined-with_source_port.ensures, c.joined-addresses.ensures, c.from.ensures)
    (bits-header c.args.values five (small 1 (omega arith)) (small 2 (omega arith)) (small 3 (omega arith)) (small 4 (omega arith)))
