use Rattle.std.proofs.Common.{ap, arith, subst}
use Rattle.ternary_words.specs.declared.word.Word.{Word}
use Rattle.word_cover.specs.Cubes.{Cube, cube_of}
use Rattle.agreement_check.specs.Views.{claim_of, sides_in}
use Rattle.table_equiv.specs.Claimed.{Serves}
use Rattle.table_equiv.proofs.Covered.{adds-one, adds-parts, served-wider}
use Rattle.table_equiv.proofs.Outcomes.{on_ok}
use Rattle.table_equiv.proofs.covering.+put_cover.Goals as goal

pub returns-in_default : goal.returns-in_default
returns-in_default t c =
    let s = sides_in c.args.sides.now in
    let claim = claim_of c.args.task.now in
    adds-one s claim (cube_of c.args.word.now) c.next_step-step.result c.args.steps.now.items c.push.new.self.items c.in_default.not-Halved
    (subst (λ (w : Word). Serves s claim (cube_of w) c.next_step-step.result) c.cube_of-cube.ensures c.next_step-step.ensures) c.in_ok-push.ensures.items

pub put_cover-requires : goal.put_cover-requires
put_cover-requires t c =
    let s = sides_in c.args.sides.now in
    let claim = claim_of c.args.task.now in
    let more = served-wider s claim (cube_of c.args.word.now) c.next_step-step.result c.in-Halved.bit c.zero_half-zero.result.mask c.in-Halved.is
    (subst (λ (w : Word). Serves s claim (cube_of w) c.next_step-step.result) c.cube_of-cube.ensures c.next_step-step.ensures) (ap (λ (x : Cube). x.mask) c.zero_half-zero.ensures) in
    omega (arith, c.decreases, more, c.zero_half-zero.result.narrow)

pub put_cover-requires-2 : goal.put_cover-requires-2
put_cover-requires-2 t c =
    let s = sides_in c.args.sides.now in
    let claim = claim_of c.args.task.now in
    let more = served-wider s claim (cube_of c.args.word.now) c.next_step-step.result c.in-Halved.bit c.one_half-one.result.mask c.in-Halved.is
    (subst (λ (w : Word). Serves s claim (cube_of w) c.next_step-step.result) c.cube_of-cube.ensures c.next_step-step.ensures) (ap (λ (x : Cube). x.mask) c.one_half-one.ensures) in
    omega (arith, c.decreases, more, c.one_half-one.result.narrow)

pub returns : goal.returns
returns t c =
    let s = sides_in c.args.sides.now in
    let claim = claim_of c.args.task.now in
    on_ok c.put_cover-2.result _ _ (adds-parts s claim c.args.word.now c.zero_half-zero.result c.one_half-one.result c.next_step-step.result c.in-Halved.bit c.args.steps.now.items
    c.push.new.self.items c.put_cover.new.steps.items c.put_cover-2.new.steps.items c.in-Halved.is
    (subst (λ (w : Word). Serves s claim (cube_of w) c.next_step-step.result) c.cube_of-cube.ensures c.next_step-step.ensures)
    c.in_ok-push.ensures.items c.zero_half-zero.ensures c.one_half-one.ensures c.in_ok-put_cover.ensures) c.put_cover-2.ensures
