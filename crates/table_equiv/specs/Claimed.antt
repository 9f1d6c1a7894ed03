-- Covers by halves: of which claims they are, and what they add to steps.
use Rattle.std.specs.Prelude.{◌≡◌, ◌⊎◌, ◌∷◌, ◌++◌, ℕ, ◌<◌, true, List}
use Rattle.field_boxes.specs.Headline.Fields.{IsHeader}
use Rattle.ternary_words.specs.Word.{key_of}
use Rattle.partition_check.specs.Claims.{entry_matches, rule_matches}
use Rattle.agreement_check.specs.declared.step.Step.{Step}
use Rattle.agreement_check.specs.declared.step.Step.TheVariants.{Halved}
use Rattle.agreement_check.specs.Covers.{AreCovered, Claim, Shows, Sides}
use Rattle.word_cover.specs.Cubes.{Cube, IsOpen, SameBits}
use Rattle.table_equiv.specs.Places.{SomeBefore, has_at}

-- a header below the bound that the rule has which is covered
pub record IsAsked (s : Sides) (c : Claim) (header : List ℕ) : Type 0 where
  pub is : IsHeader header
  pub before : key_of header < s.bound
  pub of : has_at (rule_matches header) s.list.rules.items c.of ≡ true

-- one of the rules that may be named has it, or one of the entries
abbrev pub IsNamed : Sides → Claim → List ℕ → Type 0
IsNamed s c header = SomeBefore (rule_matches header) s.list.rules.items c.rules ⊎ SomeBefore (entry_matches header) s.table.entries.items c.entries

-- the claim is true of the cube: so it is with each header that is asked for
abbrev pub HoldsOf : Sides → Claim → Cube → Type 0
HoldsOf s c cube = (header : List ℕ) → IsAsked s c header → SameBits cube.mask (key_of header) cube.value → IsNamed s c header

-- the step shows what is claimed of the cube, if that is true, or halves it
abbrev pub Serves : Sides → Claim → Cube → Step → Type 0
Serves s c cube (Halved bit) = IsOpen cube bit
Serves s c cube step = HoldsOf s c cube → Shows s c cube step

-- what was put behind the steps covers the cube, if what is claimed is true of it
pub record Adds (s : Sides) (c : Claim) (cube : Cube) (old new : List Step) : Type 0 where
  pub steps : List Step
  pub put : new ≡ old ++ steps
  pub cover : HoldsOf s c cube → (cubes : List Cube) (more : List Step) → AreCovered s c cubes more → AreCovered s c (cube ∷ cubes) (steps ++ more)
