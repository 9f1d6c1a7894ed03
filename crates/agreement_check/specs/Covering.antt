-- A cover of which some steps were taken.
use Rattle.std.specs.Prelude.{◌≡◌, ℕ, ◌+◌, ◌-◌, List, [], ◌∷◌, ◌++◌, length, min}
use Rattle.std.specs.Bool.{OnTrue, OnFalse}
use Rattle.ternary_words.specs.declared.word.Word.{Word}
use Rattle.agreement_check.specs.declared.cover.Cover.{Cover}
use Rattle.agreement_check.specs.declared.step.Step.{Step}
use Rattle.agreement_check.specs.declared.step.Step.TheVariants.{Halved}
use Rattle.word_cover.specs.Cubes.{Cube, cube_of}
use Rattle.agreement_check.specs.Covers.{Sides, Claim, AreCovered, IsCover, rules_named, entries_named}
use Rattle.agreement_check.specs.Steps.{are_covers}
use Rattle.agreement_check.specs.Views.{claim_of}

-- the words as cubes, the last one first, in front of others
abbrev pub cubes_before : List Word → List Cube → List Cube
cubes_before [] cubes = cubes
cubes_before (w ∷ words) cubes = cubes_before words (cube_of w ∷ cubes)

abbrev pub cubes_left : List Word → List Cube
cubes_left words = cubes_before words []

-- how many covers are still to come behind a step of the first of so many
abbrev pub due_after : ℕ → Step → ℕ
due_after n (Halved bit) = n + 1
due_after n step = n - 1

-- with the step the first cubes are covered exactly where the second are without it
pub record Follows (s : Sides) (c : Claim) (step : Step) (before after : List Cube) : Type 0 where
  pub enough : (more : List Step) → AreCovered s c after more → AreCovered s c before (step ∷ more)
  pub needed : (more : List Step) → AreCovered s c before (step ∷ more) → AreCovered s c after more

-- with the step they are never covered
abbrev pub Breaks : Sides → Claim → Step → List Cube → Type 0
Breaks s c step cubes = (more : List Step) → AreCovered s c cubes (step ∷ more) → ⊥

-- behind these steps further ones are a cover of what is claimed exactly where they cover the cubes that are left
pub record GoesOn (s : Sides) (c : Claim) (steps : List Step) (cover : Cover) : Type 0 where
  pub enough : (more : List Step) → AreCovered s c (cubes_left cover.left.items) more → IsCover s c (steps ++ more)
  pub needed : (more : List Step) → IsCover s c (steps ++ more) → AreCovered s c (cubes_left cover.left.items) more
  pub each_due : cover.due ≡ length cover.left.items
  pub rules : cover.rules ≡ min (rules_named steps) 4294967295
  pub entries : cover.entries ≡ min (entries_named steps) 4294967295

-- what is kept of a cover stands for what is claimed and for these steps: where they hold so far it goes on, and else no steps behind them
-- make them a cover
pub record StandsFor (s : Sides) (c : Claim) (steps : List Step) (cover : Cover) : Type 0 where
  pub claim : claim_of cover.task ≡ c
  pub form : (more : List Step) → are_covers 1 (steps ++ more) ≡ are_covers cover.due more
  pub holds : OnTrue cover.holds (GoesOn s c steps cover)
  pub fails : OnFalse cover.holds ((more : List Step) → ¬ IsCover s c (steps ++ more))
