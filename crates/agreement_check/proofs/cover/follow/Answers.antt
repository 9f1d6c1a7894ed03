use Rattle.std.proofs.Common.{◌≡◌, ◌∷◌, ◌∙◌, List, ap, arith, length, subst, sym}
use Rattle.partition_check.proofs.Outcomes.{on_false, on_true}
use Rattle.agreement_check.specs.declared.step.Step.{Step}
use Rattle.agreement_check.specs.declared.step.Step.TheVariants.{Halved}
use Rattle.agreement_check.specs.Covering.{Breaks, Follows, cubes_left}
use Rattle.word_cover.specs.Cubes.{Cube, cube_of}
use Rattle.agreement_check.specs.Views.{claim_of, sides_in}
use Rattle.agreement_check.proofs.Covering.{alone-of, due-alone, halved-follows, left-push, shown-follows, unhalved-breaks, unshown-breaks}
use Rattle.agreement_check.proofs.Outcomes.{decided-no, decided-yes, ok-map}
use Rattle.agreement_check.proofs.cover.follow.Goals as goal

pub returns-in-Halved-clause-yes : goal.returns-in-Halved-clause-yes
returns-in-Halved-clause-yes c =
    let s = sides_in c.args.sides.now in
    let task = claim_of c.args.task.now in
    let cube = cube_of c.in-Some.cube in
    let rest = cubes_left c.pop.new.self.items in
    let popped : cubes_left c.args.left.now.items ≡ cube ∷ rest = ap cubes_left c.in-Some.ensures.items ∙ left-push c.pop.new.self.items c.in-Some.cube in
    let after = cubes_left c.halve.new.left.items in
    ok-map c.halve.result _ _ (λ yes. on_true yes _ _ (λ h.
    subst (λ (x : Step). Follows s task x (cubes_left c.args.left.now.items) after) (sym c.in-Halved.is)
    (subst (λ (xs : List Cube). Follows s task (Halved c.in-Halved.bit) xs after) (sym popped)
    (subst (Follows s task (Halved c.in-Halved.bit) (cube ∷ rest)) (sym h.1) (halved-follows s task cube rest c.in-Halved.bit h.0))))) c.halve.ensures.yes

pub returns-in-Halved-clause-no : goal.returns-in-Halved-clause-no
returns-in-Halved-clause-no c =
    let s = sides_in c.args.sides.now in
    let task = claim_of c.args.task.now in
    let cube = cube_of c.in-Some.cube in
    let rest = cubes_left c.pop.new.self.items in
    let popped : cubes_left c.args.left.now.items ≡ cube ∷ rest = ap cubes_left c.in-Some.ensures.items ∙ left-push c.pop.new.self.items c.in-Some.cube in
    ok-map c.halve.result _ _ (λ yes. on_false yes _ _ (λ h.
    subst (λ (x : Step). Breaks s task x (cubes_left c.args.left.now.items)) (sym c.in-Halved.is)
    (subst (λ (xs : List Cube). Breaks s task (Halved c.in-Halved.bit) xs) (sym popped) (unhalved-breaks s task cube rest c.in-Halved.bit h)))) c.halve.ensures.no

pub returns-in_default-step : goal.returns-in_default-step
returns-in_default-step c =
    let s = sides_in c.args.sides.now in
    let task = claim_of c.args.task.now in
    let cube = cube_of c.in-Some.cube in
    let step = c.args.step in
    let rest = cubes_left c.pop.new.self.items in
    let popped : cubes_left c.args.left.now.items ≡ cube ∷ rest = ap cubes_left c.in-Some.ensures.items ∙ left-push c.pop.new.self.items c.in-Some.cube in
    let alone = alone-of step c.in_default-step.not-Halved in
    record {
      yes = decided-yes c.shows.result _ _ c.shows.ensures (λ h. subst (λ (xs : List Cube). Follows s task step xs rest) (sym popped) (shown-follows s task cube rest step h));
      no = decided-no c.shows.result _ _ c.shows.ensures (λ h. subst (λ (xs : List Cube). Breaks s task step xs) (sym popped) (unshown-breaks s task cube rest step alone h));
      count = decided-yes c.shows.result _ _ c.shows.ensures (λ h. omega (arith, c.in-Some.ensures.cases, due-alone (length c.args.left.now.items) step alone));
    }
