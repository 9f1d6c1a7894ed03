-- Blocks in sequence.
use Rattle.field_boxes.specs.Headline.Fields.{AreValues}
use Rattle.std.proofs.Common.{◌≡◌, ◌∷◌, ◌++◌, ℕ, List, [], ◌<◌, Bool, true, false, refl, ap, sym, ◌∙◌, inl}
use Rattle.std.specs.Prelude.{◌||◌, cond}
use Rattle.std.specs.List.{list_any}
use Rattle.std.proofs.Math.Bool.{or-false}
use Rattle.redundancy_laws.specs.Rows.{Row, matches, answer_or}
use Rattle.redundancy_laws.specs.Marks.{Mark, all_of, kept_of}
use Rattle.redundancy_laws.specs.Contexts.{Contexts, before_block, after_block, AreAnswers, IsRightMark, AreRightMarks, IsRight}
use Rattle.redundancy_laws.proofs.Alike.{keep-self, IsLike, marks-alike}
use Rattle.redundancy_laws.proofs.Merged.{match-self}

answer_step : (t : Bool) (values : List ℕ) (r : Row) (rows more : List Row) (other : ℕ) → matches values r ≡ t →
    answer_or values (rows ++ more) other ≡ answer_or values rows (answer_or values more other) →
    answer_or values ((r ∷ rows) ++ more) other ≡ answer_or values (r ∷ rows) (answer_or values more other)
answer_step true values r rows more other e h = rw e refl
answer_step false values r rows more other e h = rw e h

pub answer-append : (values : List ℕ) (rows more : List Row) (other : ℕ) →
    answer_or values (rows ++ more) other ≡ answer_or values rows (answer_or values more other)
answer-append values [] more other = refl
answer-append values (r ∷ rows) more other = answer_step (matches values r) values r rows more other refl (answer-append values rows more other)

kept_step : (b : Bool) (r : Row) (xs ys zs : List Row) → zs ≡ xs ++ ys → cond b (r ∷ zs) zs ≡ cond b (r ∷ xs) xs ++ ys
kept_step true r xs ys zs h = ap (λ rs. r ∷ rs) h
kept_step false r xs ys zs h = h

pub kept-append : (xs ys : List Mark) → kept_of (xs ++ ys) ≡ kept_of xs ++ kept_of ys
kept-append [] ys = refl
kept-append (m ∷ xs) ys = kept_step m.kept m.row (kept_of xs) (kept_of ys) (kept_of (xs ++ ys)) (kept-append xs ys)

-- what is kept of two blocks answers as the first does before the second
joined : (level : List ℕ) (cs : Contexts) (xs ys : List Mark) (out : ℕ → List ℕ → ℕ) → AreAnswers level cs ys out →
    (c : ℕ) → c < cs.count → (values : List ℕ) → AreValues level values →
    answer_or values (kept_of (xs ++ ys)) (cs.after c values) ≡ answer_or values (kept_of xs) (out c values)
joined level cs xs ys out h c less values ok =
    ap (λ rs. answer_or values rs (cs.after c values)) (kept-append xs ys) ∙ answer-append values (kept_of xs) (kept_of ys) (cs.after c values)
    ∙ ap (answer_or values (kept_of xs)) (sym (h c less values ok))

mark_step : (level : List ℕ) (cs : Contexts) (earlier : List Row) (b : Bool) (r : Row) (xs ys : List Mark) (out : ℕ → List ℕ → ℕ) → AreAnswers level cs ys out →
    IsRightMark level (before_block cs out) earlier b r (kept_of xs) → IsRightMark level cs earlier b r (kept_of (xs ++ ys))
mark_step level cs earlier true r xs ys out h (c, values, meet, differ) =
    (c, values, meet, λ e. differ (sym (joined level cs xs ys out h c meet.0 values meet.1) ∙ e))
mark_step level cs earlier false r xs ys out h right = λ c values meet. joined level cs xs ys out h c meet.0 values meet.1 ∙ right c values meet

-- the list has the rows of both
abbrev Holds : List Row → List Row → List Row → Type 0
Holds all earlier rows = (values : List ℕ) → list_any (matches values) all ≡ (list_any (matches values) earlier || list_any (matches values) rows)

swap : (t a b : Bool) → ((t || a) || b) ≡ (a || (t || b))
swap true true b = refl
swap true false b = refl
swap false a b = refl

marks_sequence : (level : List ℕ) (cs : Contexts) (earlier : List Row) (xs ys : List Mark) (out : ℕ → List ℕ → ℕ) → AreAnswers level cs ys out →
    AreRightMarks level (before_block cs out) earlier xs → ((all : List Row) → Holds all earlier (all_of xs) → AreRightMarks level cs all ys) →
    AreRightMarks level cs earlier (xs ++ ys)
marks_sequence level cs earlier [] ys out h mx my = my earlier (λ values. sym (or-false (list_any (matches values) earlier)))
marks_sequence level cs earlier (m ∷ xs) ys out h mx my = (
  mark_step level cs earlier m.kept m.row xs ys out h mx.0,
  marks_sequence level cs (m.row ∷ earlier) xs ys out h mx.1
      (λ all holds. my all (λ values. holds values ∙ swap (matches values m.row) (list_any (matches values) earlier) (list_any (matches values) (all_of xs)))),
)

-- rows before a block may be said by its contexts
shifted : (level : List ℕ) (cs : Contexts) (rows all : List Row) (ys : List Mark) → Holds all [] rows → AreRightMarks level (after_block cs rows) [] ys → AreRightMarks level cs all ys
shifted level cs rows all ys holds h =
    marks-alike level level cs (after_block cs rows) all [] ys ys (keep-self ys)
    (λ c less values ok. inl (c, values, less, ok, like c values)) (λ c less values ok. inl (c, values, less, ok, like c values)) h
  where
    like : (c : ℕ) (values : List ℕ) → IsLike level level cs (after_block cs rows) all [] ys ys c values c values
    like c values = (
      ap (λ b. cs.met c values || b) (holds values) ∙ sym (or-false (cs.met c values || list_any (matches values) rows)),
      refl,
      match-self values ys,
    )

pub sequence : (level : List ℕ) (cs : Contexts) (xs ys : List Mark) (later out : ℕ → List ℕ → ℕ) →
    IsRight level (after_block cs (all_of xs)) ys later → IsRight level (before_block cs later) xs out → IsRight level cs (xs ++ ys) out
sequence level cs xs ys later out ry rx = record {
  answers = λ c less values ok. rx.answers c less values ok ∙ sym (joined level cs xs ys later ry.answers c less values ok);
  each = marks_sequence level cs [] xs ys later ry.answers rx.each (λ all holds. shifted level cs (all_of xs) all ys holds ry.each);
}

-- nothing is kept of no row
pub nothing : (level : List ℕ) (cs : Contexts) → IsRight level cs [] cs.after
nothing level cs = record { answers = λ c less values ok. refl; each = tt }
