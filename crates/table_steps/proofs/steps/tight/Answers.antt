use Rattle.std.proofs.Common.{◌≤◌, ◌-◌, ◌+◌, ◌≡◌, length, arith, rules}
use Rattle.table_steps.proofs.Parted.{shortened-start, shortened-next}
use Rattle.table_steps.proofs.steps.tight.Goals as goal

pub loop-place-init : goal.loop-place-init
loop-place-init c =
    let within : c.len-place.result ≤ length c.args.table.now.items = search rules in (within, shortened-start c.args.table.now.items)

pub loop-place-preserved : goal.loop-place-preserved
loop-place-preserved c =
    let l = c.loop-place in
    let k = l.place - 1 in
    let next : k + 1 ≡ l.place = omega (arith, c.loop-place-test.true) in
    shortened-next c.args.table.now.items l.table.items c.take_out.new.table.items l.place k c.in_ok-take_out.field-0 next l.invariant.0
    c.in_ok-take_out.ensures.taken c.in_ok-take_out.ensures.shortened l.invariant.1
