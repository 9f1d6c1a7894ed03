use Rattle.std.proofs.Common.{◌∷◌, ◌∙◌, ap}
use Rattle.agreement_check.specs.Covering.{cubes_left}
use Rattle.word_cover.specs.Cubes.{cube_of, zero_half}
use Rattle.agreement_check.proofs.Covering.{left-push}
use Rattle.agreement_check.proofs.cover.halve.Goals as goal

pub returns-clause-yes : goal.returns-clause-yes
returns-clause-yes c =
    let old = c.args.left.now.items in
    let mid = c.push.new.self.items in (
      c.is_open.ensures.0 c.if-not-is_open.false,
      ap cubes_left c.in_ok-push-2.ensures.items ∙ left-push mid c.zero_half.result ∙ ap (λ x. x ∷ cubes_left mid) c.zero_half.ensures
          ∙ ap (λ xs. zero_half (cube_of c.args.cube.now) c.args.bit ∷ xs) (ap cubes_left c.in_ok-push.ensures.items ∙ left-push old c.one_half.result ∙ ap (λ x. x ∷ cubes_left old) c.one_half.ensures),
    )
