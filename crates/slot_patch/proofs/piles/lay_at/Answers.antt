use Rattle.std.proofs.Common.{◌≡◌, ◌<◌, ◌∙◌, arith, length}
use Rattle.slot_patch.proofs.Counts.{push-laid, set-laid}
use Rattle.slot_patch.proofs.piles.lay_at.Goals as goal

pub returns-in_ok-push : goal.returns-in_ok-push
returns-in_ok-push c =
    let xs = c.args.items.now.items in
    let last : c.args.place ≡ length xs = omega (arith, c.if-place-len.true, c.len.ensures) in
    c.in_ok-push.ensures.items ∙ push-laid xs c.args.place c.args.item last

pub returns-else-place-len : goal.returns-else-place-len
returns-else-place-len c =
    let xs = c.args.items.now.items in
    let inside : c.args.place < length xs = omega (arith, c.requires, c.if-place-len.false, c.len.ensures) in
    set-laid xs c.args.place c.args.item inside
