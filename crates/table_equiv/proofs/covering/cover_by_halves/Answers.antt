use Rattle.std.proofs.Common.{List, subst}
use Rattle.agreement_check.specs.declared.step.Step.{Step}
use Rattle.word_cover.specs.Cubes.{cube_of}
use Rattle.agreement_check.specs.Views.{claim_of, sides_in}
use Rattle.table_equiv.specs.Claimed.{Adds}
use Rattle.table_equiv.proofs.Covered.{adds-cover}
use Rattle.table_equiv.proofs.covering.cover_by_halves.Goals as goal

pub returns : goal.returns
returns c =
    let s = sides_in c.args.sides.now in
    let claim = claim_of c.args.task.now in
    let steps = c.put_cover.new.steps.items in
    adds-cover s claim steps (subst (λ (old : List Step). Adds s claim (cube_of c.args.task.now.cube) old steps) c.new-steps.ensures.items c.in_ok-put_cover.ensures)
