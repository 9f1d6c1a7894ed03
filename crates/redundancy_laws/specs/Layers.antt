-- Layers: runs whose intervals of the level's field rise and are apart, each in front of a block of the next level.
use Rattle.node_store.specs.Levels.{next, top_of}
use Rattle.std.specs.Prelude.{◌≡◌, ℕ, ◌<◌, ◌≤◌, ◌+◌, Bool, true, false, cond, List, [], ◌∷◌, ◌++◌, length, map}
use Rattle.std.specs.List.{list_any}
use Rattle.field_boxes.specs.Headline.Fields.{AreValues}
use Rattle.field_boxes.specs.Headline.Classifier.{Interval, interval_holds}
use Rattle.redundancy_laws.specs.Rows.{Row, matches, in_front}
use Rattle.redundancy_laws.specs.Marks.{marked}
use Rattle.redundancy_laws.specs.Contexts.{Contexts, IsRight}

-- rows of the next level behind an interval
pub record Run : Type 0 where
  pub span : Interval
  pub rows : List Row

-- all rows, each with its interval in front
abbrev pub rows_of_runs : List Run → List Row
rows_of_runs [] = []
rows_of_runs (r ∷ runs) = map (in_front r.span) r.rows ++ rows_of_runs runs

-- the intervals rise from the least value on, and are apart
abbrev pub AreApart : ℕ → List Run → Type 0
AreApart least [] = Unit {0}
AreApart least (r ∷ runs) = (least ≤ r.span.lo) × (r.span.lo ≤ r.span.hi) × AreApart (r.span.hi + 1) runs

-- none of the rows matches a value of the interval
abbrev pub AreApartFrom : Interval → List Row → Type 0
AreApartFrom span rows = (v : ℕ) (values : List ℕ) → interval_holds v span ≡ true → list_any (matches (v ∷ values)) rows ≡ false

-- the context d of the next level stands for the context c at the value of the level's field
pub record StandsBehind (level : List ℕ) (cs ds : Contexts) (c v d : ℕ) : Type 0 where
  pub after : (values : List ℕ) → AreValues (next level) values → ds.after d values ≡ cs.after c (v ∷ values)
  pub met : (values : List ℕ) → AreValues (next level) values → ds.met d values ≡ cs.met c (v ∷ values)

-- each context at each value of the interval has one that stands for it, and each of these stands for some
pub record AreSplit (level : List ℕ) (span : Interval) (cs ds : Contexts) (to : ℕ → ℕ → ℕ) : Type 0 where
  pub covered : (c v : ℕ) → c < cs.count → v ≤ top_of level → interval_holds v span ≡ true → (to c v < ds.count) × StandsBehind level cs ds c v (to c v)
  pub reached : (d : ℕ) → d < ds.count → (c : ℕ) × (v : ℕ) × (c < cs.count) × (v ≤ top_of level) × (interval_holds v span ≡ true) × StandsBehind level cs ds c v d

-- what each context answers with a run more: at a value of its interval what the one that stands for it does, else what it
-- did without the run
pub record AreJoined (level : List ℕ) (span : Interval) (count : ℕ) (to : ℕ → ℕ → ℕ) (inner before out : ℕ → List ℕ → ℕ) : Type 0 where
  pub inside : (c v : ℕ) (values : List ℕ) → c < count → v ≤ top_of level → AreValues (next level) values → interval_holds v span ≡ true → out c (v ∷ values) ≡ inner (to c v) values
  pub outside : (c v : ℕ) (values : List ℕ) → c < count → v ≤ top_of level → AreValues (next level) values → interval_holds v span ≡ false → out c (v ∷ values) ≡ before c (v ∷ values)

-- a run that was gone through: a flag for each of its rows, and the contexts of its block with what they answer
pub record SiftedRun : Type 0 where
  pub run : Run
  pub flags : List Bool
  pub contexts : Contexts
  pub to : ℕ → ℕ → ℕ
  pub inner : ℕ → List ℕ → ℕ

-- its contexts stand for those of the layer at the values of its interval, and its flags and answers are right for them
pub record IsSiftedRun (level : List ℕ) (cs : Contexts) (s : SiftedRun) : Type 0 where
  pub count : length s.flags ≡ length s.run.rows
  pub split : AreSplit level s.run.span cs s.contexts s.to
  pub right : IsRight (next level) s.contexts (marked s.run.rows s.flags) s.inner

abbrev pub AreSiftedRuns : List ℕ → Contexts → List SiftedRun → Type 0
AreSiftedRuns level cs [] = Unit {0}
AreSiftedRuns level cs (s ∷ runs) = IsSiftedRun level cs s × AreSiftedRuns level cs runs

abbrev pub runs_of : List SiftedRun → List Run
runs_of runs = map (λ s. s.run) runs

-- the flags of all rows
abbrev pub flags_of : List SiftedRun → List Bool
flags_of [] = []
flags_of (s ∷ runs) = s.flags ++ flags_of runs

-- what the context answers: what it does in the run whose interval holds the value, or the other number where none does
abbrev pub answer_in : List SiftedRun → ℕ → ℕ → List ℕ → ℕ → ℕ
answer_in [] c v values other = other
answer_in (s ∷ runs) c v values other = cond (interval_holds v s.run.span) (s.inner (s.to c v) values) (answer_in runs c v values other)

-- what each context answers before the layer
abbrev pub AreLayerAnswers : List ℕ → Contexts → List SiftedRun → (ℕ → List ℕ → ℕ) → Type 0
AreLayerAnswers level cs runs out = (c v : ℕ) (values : List ℕ) → c < cs.count → v ≤ top_of level → AreValues (next level) values →
    out c (v ∷ values) ≡ answer_in runs c v values (cs.after c (v ∷ values))

-- the first value above all runs
abbrev pub end_of : ℕ → List Run → ℕ
end_of least [] = least
end_of least (r ∷ runs) = end_of (r.span.hi + 1) runs
