-- Covers that are found.
use Rattle.std.specs.Prelude.{◌≡◌, List}
use Rattle.agreement_check.specs.declared.step.Step.{Step}
use Rattle.agreement_check.specs.Covers.{Sides, Claim}
use Rattle.word_cover.specs.Cubes.{Cube}
use Rattle.agreement_check.specs.Proofs.{Cover, Holds, steps_in}

-- the steps are those of a cover of the cube
pub record AreStepsOf (s : Sides) (c : Claim) (cube : Cube) (steps : List Step) : Type 0 where
  pub cover : Cover
  pub holds : Holds s c cube cover
  pub are : steps ≡ steps_in cover
