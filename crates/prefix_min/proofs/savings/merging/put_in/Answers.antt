use Rattle.std.proofs.Common.{◌≡◌, ◌+◌, ◌∙◌, ap, arith, length, set}
use Rattle.prefix_min.proofs.Joined.{read-at}
use Rattle.prefix_min.proofs.Paired.{before-last}
use Rattle.prefix_min.proofs.savings.merging.put_in.Goals as goal

pub returns-then-place-len-2 : goal.returns-then-place-len-2
returns-then-place-len-2 c =
    let es = c.args.savings.now.items in
    let size : c.args.place + 1 ≡ length es = omega (arith, c.if-place-len-2.true, c.len-2.ensures, c.args.savings.now.ok.0) in
    ap (λ zs. set zs c.args.place c.args.entry) c.in_ok-push-2.ensures.items
    ∙ before-last c.args.place es c.args.entry _ size (read-at es c.args.place (omega (arith, size)) c.index.ensures)
