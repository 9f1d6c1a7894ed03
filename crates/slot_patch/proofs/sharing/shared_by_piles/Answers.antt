use Rattle.std.proofs.Common.{length, arith}
use Rattle.slot_patch.proofs.Counts.{below-all}
use Rattle.slot_patch.proofs.Rows.{bounded-least}
use Rattle.slot_patch.proofs.sharing.shared_by_piles.Goals as goal

pub returns-clause-most : goal.returns-clause-most
returns-clause-most c =
    let old = c.args.old.now in
    let new = c.args.new.now in
    let places = c.in_ok-piles.piles.places.items in
    let least = bounded-least old new places c.in_ok-piles.ensures.bounded in
    let all = below-all (length new) places in
    let many = c.in_ok-pairs.ensures.many old new c.in_ok-piles.ensures.stacked in
    omega (arith, least, all, many)
