-- Functions from headers that give the same, and where two of them first differ.
-- The order of headers is by the stated order of the fields.
use Rattle.std.specs.Prelude.{◌≡◌, ◌≢◌, ℕ, ◌<◌, List, length, Option}
use Rattle.std.specs.List.{remove}
use Rattle.field_boxes.specs.Headline.Fields.{stated, AreValues, IsHeader}
use Rattle.field_boxes.specs.Fields.{ComesBefore}
use Rattle.field_boxes.specs.Headline.Classifier.{Rule, source}

-- both give the same for all values of these fields
abbrev pub AreAlikeOver : {A : Type 0} → List ℕ → (List ℕ → A) → (List ℕ → A) → Type 0
AreAlikeOver fields f g = (values : List ℕ) → AreValues fields values → f values ≡ g values

-- both give the same for every header
abbrev pub AreAlike : {A : Type 0} → (List ℕ → A) → (List ℕ → A) → Type 0
AreAlike f g = AreAlikeOver stated f g

-- the least values of these fields for which they give something else
pub record IsFirstDifferenceOver {A : Type 0} (fields : List ℕ) (f g : List ℕ → A) (values : List ℕ) : Type 0 where
  pub in_fields : AreValues fields values
  pub differ : f values ≢ g values
  pub least : (others : List ℕ) → AreValues fields others → ComesBefore others values → f others ≡ g others

-- the least header for which they give something else
abbrev pub IsFirstDifference : {A : Type 0} → (List ℕ → A) → (List ℕ → A) → List ℕ → Type 0
IsFirstDifference f g header = IsFirstDifferenceOver stated f g header

-- some header for which they give something else
abbrev pub AreApart : {A : Type 0} → (List ℕ → A) → (List ℕ → A) → Type 0
AreApart f g = (header : List ℕ) × IsHeader header × (f header ≢ g header)

-- each item alone, left out, changes what the items give for some header
abbrev pub IsTight : {X A : Type 0} → (List X → List ℕ → A) → List X → Type 0
IsTight given items = (place : ℕ) → place < length items → AreApart (given (remove items place)) (given items)

-- what rules give for a header: the decision of the first that matches
abbrev pub source_of : {A : Type 0} → List (Rule A) → List ℕ → Option A
source_of rules header = source stated header rules
