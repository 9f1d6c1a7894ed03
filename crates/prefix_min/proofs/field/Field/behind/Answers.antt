use Rattle.std.proofs.Common.{arith}
use Rattle.prefix_min.proofs.Grown.{behind-next}
use Rattle.prefix_min.proofs.field.Field.behind.Goals as goal

pub returns-then-from-limit : goal.returns-then-from-limit
returns-then-from-limit c = λ v le lt next.
    let s = c.args.self.now in
    behind-next s.weights.now s.pieces.now c.requires.fit c.args.place v c.args.limit c.requires.inside le lt (omega (arith, c.if-from-limit.true, c.from.ensures, c.requires.reached)) next
