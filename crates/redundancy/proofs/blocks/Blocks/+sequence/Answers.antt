use Rattle.std.proofs.Common.{◌/◌, length}
use Rattle.std.proofs.lemmas.Result.{IfOk-weaker}
use Rattle.redundancy.proofs.BlockRows.{halves_built}
use Rattle.redundancy.proofs.blocks.Blocks.+sequence.Goals as goal

pub returns : goal.returns
returns t c =
    IfOk-weaker c.two.result _ _
    (λ number k. halves_built c.args.sets.now c.sequence.new.sets c.sequence-2.new.sets c.two.new.sets c.args.self.now c.sequence.new.self c.sequence-2.new.self c.two.new.self c.args.level.now
    (length c.args.numbers.now / 2) c.in_ok-first.first c.in_ok-second.second number c.args.numbers.now _ _ c.split_at.ensures.front c.split_at.ensures.back c.requires.numbers
    c.in_ok-first.ensures c.in_ok-second.ensures k)
    c.two.ensures
