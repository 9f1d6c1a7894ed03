use Rattle.std.proofs.Common.{refl}
use Rattle.std.proofs.lemmas.Result.{IfOk-weaker}
use Rattle.redundancy.proofs.Builds.{last_built}
use Rattle.redundancy.proofs.blocks.Blocks.last.Goals as goal

pub returns : goal.returns
returns c = IfOk-weaker c.add.result _ _ (λ number a. last_built c.args.sets.now c.args.self.now c.add.new.self c.args.full _ c.args.decision number c.requires.blocks refl c.requires.level c.requires.full a) c.add.ensures
