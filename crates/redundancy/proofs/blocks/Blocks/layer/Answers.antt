use Rattle.std.proofs.Common.{◌∙◌, ◌++◌, ap}
use Rattle.std.proofs.lemmas.Result.{IfOk-weaker}
use Rattle.redundancy.proofs.Builds.{layer_of}
use Rattle.redundancy.proofs.blocks.Blocks.layer.Goals as goal

pub returns : goal.returns
returns c =
    let is = c.in_ok-extend_from_slice.ensures.items ∙ ap (λ rs. rs ++ c.args.runs.now) c.new-own.ensures.items in
    IfOk-weaker c.add.result _ _
    (λ number a. layer_of c.args.sets.now c.layer_set.new.sets c.args.self.now c.add.new.self c.in_ok-set.set c.args.level number c.extend_from_slice.new.self c.args.runs.now is
    c.in_ok-set.ensures.grows c.requires.blocks c.requires.level c.requires.runs c.requires.apart c.in_ok-set.ensures.level c.in_ok-set.ensures.cover a)
    c.add.ensures
