-- Stretches of a span that lead to pairs of nodes.
use Rattle.std.specs.Prelude.{◌≡◌, ◌⊎◌, ℕ, suc, ◌<◌, true, List, [], ◌∷◌, All, Some, length, map, nat_le, if◌then◌else◌, slice_get, slice_index_or}
use Rattle.smallvec.specs.SmallVec.{SmallVec}
use Rattle.field_boxes.specs.Headline.Classifier.{Interval, interval_holds}
use Rattle.node_store.specs.declared.split.Part.{Part}
use Rattle.node_store.specs.Diagram.{Node}
use Rattle.redundancy_laws.specs.declared.context.Context.{Context}
use Rattle.redundancy_laws.specs.Sifted.{context_at, context_below}
use Rattle.redundancy.specs.declared.contexts.Stretch.{Stretch}

abbrev pub context_of : Part → Context
context_of p = record { after = p.left; met = p.right }

-- a stretch for each part from the low value on, at whose place in the list the pair of the part stands
abbrev pub AreStretches : List Context → ℕ → List Part → List Stretch → Type 0
AreStretches lower lo [] [] = Unit {0}
AreStretches lower lo [] (s ∷ ss) = ⊥
AreStretches lower lo (p ∷ ps) [] = ⊥
AreStretches lower lo (p ∷ ps) (s ∷ ss) = (s.span.lo ≡ lo) × (s.span.hi ≡ p.hi) × (slice_get lower s.place ≡ Some (context_of p)) × AreStretches lower (suc p.hi) ps ss

-- pairs keep their places, and those that come behind them are among the first so many of the list
pub record Gains (list : List Context) (count : ℕ) (old new : List Context) : Type 0 where
  pub stay : (k : ℕ) (pair : Context) → slice_get old k ≡ Some pair → slice_get new k ≡ Some pair
  pub own : (d : ℕ) → d < length new → (d < length old) ⊎ ((j : ℕ) × (j < count) × (context_at list j ≡ context_at new d))

-- the place of the pair to which the value leads
abbrev pub stretch_at : List Stretch → ℕ → ℕ
stretch_at [] v = 0
stretch_at (s ∷ ss) v = if nat_le v s.span.hi then s.place else stretch_at ss v

-- the stretches fill the values from lo to hi
abbrev pub FillSpan : ℕ → ℕ → List Stretch → Type 0
FillSpan lo hi [] = lo ≡ suc hi
FillSpan lo hi (s ∷ ss) = (s.span.lo ≡ lo) × FillSpan (suc s.span.hi) hi ss

-- the stretches of a context
abbrev pub stretches_at : List (SmallVec Stretch) → ℕ → List Stretch
stretches_at lists c = slice_index_or (map (λ (own : SmallVec Stretch). own.items) lists) c []

-- the stretches fill the span, and the pairs at their places are those to which the pair leads there
pub record AreStretchesOf (nodes : List Node) (span : Interval) (pair : Context) (lower : List Context) (own : List Stretch) : Type 0 where
  pub fill : FillSpan span.lo span.hi own
  pub within : All (λ (s : Stretch). s.place < length lower) own
  pub leads : (v : ℕ) → interval_holds v span ≡ true → (stretch_at own v < length lower) × (context_at lower (stretch_at own v) ≡ context_below nodes v pair)

-- so are the stretches of the first so many contexts, and the list has no other pairs
pub record AreListed (nodes : List Node) (span : Interval) (pairs : List Context) (count : ℕ) (lower : List Context) (lists : List (SmallVec Stretch)) : Type 0 where
  pub number : length lists ≡ count
  pub each : (c : ℕ) → c < count → AreStretchesOf nodes span (context_at pairs c) lower (stretches_at lists c)
  pub reached : (d : ℕ) → d < length lower → (c : ℕ) × (v : ℕ) × (c < count) × (interval_holds v span ≡ true) × (context_at lower d ≡ context_below nodes v (context_at pairs c))
