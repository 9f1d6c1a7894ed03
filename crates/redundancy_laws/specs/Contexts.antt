-- Blocks of rows, of which the same are kept for several contexts at once.
use Rattle.field_boxes.specs.Headline.Fields.{AreValues}
use Rattle.std.specs.Prelude.{◌≡◌, ◌≢◌, ◌||◌, ℕ, ◌<◌, Bool, true, false, List, [], ◌∷◌}
use Rattle.std.specs.List.{list_any}
use Rattle.redundancy_laws.specs.Rows.{Row, matches, answer_or}
use Rattle.redundancy_laws.specs.Marks.{Mark, kept_of}

-- contexts by number: what is answered behind a block, and whether a row before it matches
pub record Contexts : Type 0 where
  pub count : ℕ
  pub after : ℕ → List ℕ → ℕ
  pub met : ℕ → List ℕ → Bool

-- the one context of a whole list
abbrev pub whole : Contexts
whole = record { count = 1; after = λ c values. 0; met = λ c values. false }

-- the contexts of a block that stands before one with these answers
abbrev pub before_block : Contexts → (ℕ → List ℕ → ℕ) → Contexts
before_block cs out = record { count = cs.count; after = out; met = cs.met }

-- the contexts of a block that stands after these rows
abbrev pub after_block : Contexts → List Row → Contexts
after_block cs rows = record { count = cs.count; after = cs.after; met = λ c values. cs.met c values || list_any (matches values) rows }

-- the row is the first that matches, where the others stand before it
abbrev pub IsFirst : List ℕ → List Row → Row → Type 0
IsFirst values before r = (list_any (matches values) before ≡ false) × (matches values r ≡ true)

-- the values, in the context, meet the row first, where earlier holds the rows of its block before it, the nearest first
abbrev pub MeetFirst : List ℕ → Contexts → List Row → Row → ℕ → List ℕ → Type 0
MeetFirst level cs earlier r c values = (c < cs.count) × AreValues level values × (cs.met c values ≡ false) × IsFirst values earlier r

-- a row is kept exactly where some values in some context meet it first and what follows answers something else
abbrev pub IsRightMark : List ℕ → Contexts → List Row → Bool → Row → List Row → Type 0
IsRightMark level cs earlier true r later =
    (c : ℕ) × (values : List ℕ) × MeetFirst level cs earlier r c values × (answer_or values later (cs.after c values) ≢ r.decision)
IsRightMark level cs earlier false r later =
    (c : ℕ) → (values : List ℕ) → MeetFirst level cs earlier r c values → answer_or values later (cs.after c values) ≡ r.decision

-- so is each of these rows
abbrev pub AreRightMarks : List ℕ → Contexts → List Row → List Mark → Type 0
AreRightMarks level cs earlier [] = Unit {0}
AreRightMarks level cs earlier (m ∷ marks) = IsRightMark level cs earlier m.kept m.row (kept_of marks) × AreRightMarks level cs (m.row ∷ earlier) marks

-- what each context answers with the kept rows in front
abbrev pub AreAnswers : List ℕ → Contexts → List Mark → (ℕ → List ℕ → ℕ) → Type 0
AreAnswers level cs marks out = (c : ℕ) → c < cs.count → (values : List ℕ) → AreValues level values → out c values ≡ answer_or values (kept_of marks) (cs.after c values)

-- what is kept of a block over the fields from the level on, and what each context then answers, are right
pub record IsRight (level : List ℕ) (cs : Contexts) (marks : List Mark) (out : ℕ → List ℕ → ℕ) : Type 0 where
  pub answers : AreAnswers level cs marks out
  pub each : AreRightMarks level cs [] marks

-- with no field left, the row is kept exactly where some context that meets it answers something else
abbrev pub IsWanted : Contexts → Bool → Row → Type 0
IsWanted cs true r = (c : ℕ) × (c < cs.count) × (cs.met c [] ≡ false) × (cs.after c [] ≢ r.decision)
IsWanted cs false r = (c : ℕ) → c < cs.count → cs.met c [] ≡ false → cs.after c [] ≡ r.decision

-- the context d answers and meets as the context c
pub record StandsFor (level : List ℕ) (cs ds : Contexts) (c d : ℕ) : Type 0 where
  pub after : (values : List ℕ) → AreValues level values → ds.after d values ≡ cs.after c values
  pub met : (values : List ℕ) → AreValues level values → ds.met d values ≡ cs.met c values

-- the same contexts but for their order and number
pub record AreMerged (level : List ℕ) (cs ds : Contexts) (to : ℕ → ℕ) : Type 0 where
  pub covered : (c : ℕ) → c < cs.count → (to c < ds.count) × StandsFor level cs ds c (to c)
  pub reached : (d : ℕ) → d < ds.count → (c : ℕ) × (c < cs.count) × StandsFor level cs ds c d
