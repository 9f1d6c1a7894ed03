use Rattle.std.proofs.Common.{◌≡◌, List, ℕ, length, rules, subst}
use Rattle.razor_base.specs.Output.{Writes}
use Rattle.razor_core.proofs.DifferText.{shown_differ}
use Rattle.razor_core.proofs.commands.check.proof.write_differ.Goals as goal

pub returns : goal.returns
returns g c = λ first second l r.
    let values = c.args.header.now.values in
    let five : length values ≡ 5 = search rules in
    subst (λ (t : List ℕ). Writes g.K.Sink.written g.K.Sink.faults c.args.out.now c.write_parts.new.sink t c.write_parts.result)
    (shown_differ values first second c.args.left.now c.args.right.now c.args.pairs five l r)
    (rw (c.from.ensures, c.from-2.ensures, c.from-3.ensures, c.from-4.ensures, c.from-5.ensures, c.from-6.ensures) at c.write_parts.ensures)
