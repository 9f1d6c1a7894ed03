use Rattle.std.proofs.Common.{◌≡◌, ◌∙◌, ◌+◌, ◌-◌, ℕ, suc, ap, refl, length, slice_get, arith}
use Rattle.bank_update.specs.Standing.{entries_in}
use Rattle.bank_update.specs.Whole.{layout}
use Rattle.bank_update.specs.Writes.{write_count}
use Rattle.bank_update.proofs.WholeSwaps.{count-writes, get-clear, get-put}
use Rattle.bank_update.proofs.block.BlockStandingTable.write.Goals as goal

pub overflow_sub-left-2 : goal.overflow_sub-left-2
overflow_sub-left-2 c =
    let many = count-writes c.args.self.now c.args.plan.now.start c.args.plan.now.table.entries.items in
    let same = ap length c.entries-old.ensures.entries in
    omega (arith, many, same, c.len-new.ensures, c.requires.place)

pub returns-then-place-new : goal.returns-then-place-new
returns-then-place-new c =
    let plan = c.args.plan.now in
    get-put (layout c.args.self.now plan.start plan.table.entries.items) c.args.place (plan.start + c.args.place) c.entry_at.result (omega (arith, c.if-place-new.true, c.len-new.ensures)) refl
    (c.entry_at.ensures ∙ ap (λ es. slice_get es c.args.place) c.deref.ensures.value)

pub returns : goal.returns
returns c =
    let plan = c.args.plan.now in
    let table = c.args.self.now in
    let l = layout table plan.start plan.table.entries.items in
    let same = c.entries-old.ensures.entries in
    let long = ap length same in
    let new = c.len-new.ensures in
    let many = count-writes table plan.start plan.table.entries.items in
    let small = c.requires.place in
    let most = c.if-place-new.false in
    let start = c.start.ensures.start in
    let left : ℕ = length c.entries-old.result.now + c.len-new.result - 1 - c.args.place in
    get-clear l c.args.place (c.start.result + left) c.entry_at-2.result (omega (arith, most, new)) (omega (arith, small, many)) (omega (arith, start, long, new))
    (c.entry_at-2.ensures ∙ ap (λ es. slice_get es left) same ∙ ap (slice_get (entries_in table.slots)) (let e : left ≡ write_count l - suc c.args.place = omega (arith, long, new) in e))
