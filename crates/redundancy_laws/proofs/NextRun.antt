-- A run more behind rows that are apart from it.
use Rattle.node_store.specs.Levels.{HasField, next, top_of}
use Rattle.std.proofs.Common.{◌≡◌, ◌∷◌, ◌++◌, ◌⊎◌, ℕ, List, [], ◌<◌, ◌≤◌, Bool, true, false, length, refl, ap, sym, ◌∙◌, subst, inl, inr}
use Rattle.std.specs.Prelude.{◌||◌, cond, map}
use Rattle.std.specs.List.{list_any}
use Rattle.std.proofs.Math.Bool.{or-false}
use Rattle.std.proofs.lemmas.Bool.{true≢false}
use Rattle.field_boxes.specs.Headline.Fields.{AreValues}
use Rattle.field_boxes.specs.Headline.Classifier.{Interval, interval_holds}
use Rattle.node_store.proofs.Values.{each, values_from}
use Rattle.redundancy_laws.specs.Rows.{Row, matches, answer_or, in_front}
use Rattle.redundancy_laws.specs.Marks.{Mark, all_of, kept_of, marked}
use Rattle.redundancy_laws.specs.Contexts.{Contexts, IsRight, before_block, after_block}
use Rattle.redundancy_laws.specs.Layers.{AreApartFrom, StandsBehind, AreSplit, AreJoined}
use Rattle.redundancy_laws.proofs.Alike.{keep-self, answer-none, IsLike, right-alike}
use Rattle.redundancy_laws.proofs.Merged.{match-self}
use Rattle.redundancy_laws.proofs.Sequence.{sequence}
use Rattle.redundancy_laws.proofs.Marked.{marked-append, all-marked}
use Rattle.redundancy_laws.proofs.OneRun.{one_run}

-- a block stays right where other answers come behind it, but not where its rows match
module _ (level : List ℕ) (cs : Contexts) (marks : List Mark) (before later out : ℕ → List ℕ → ℕ) where
  -- where the rows match nothing changes, and elsewhere what comes behind is answered
  pub record IsUntouched (c : ℕ) (values : List ℕ) : Type 0 where
    pub inside : list_any (matches values) (all_of marks) ≡ true → (later c values ≡ cs.after c values) × (out c values ≡ before c values)
    pub outside : list_any (matches values) (all_of marks) ≡ false → out c values ≡ later c values

  abbrev Untouched : Type 0
  Untouched = (c : ℕ) → c < cs.count → (values : List ℕ) → AreValues level values → IsUntouched c values

  like : (c : ℕ) (values : List ℕ) → later c values ≡ cs.after c values → IsLike level level (before_block cs later) cs [] [] marks marks c values c values
  like c values e = (refl, e, match-self values marks)

  map_at : (c : ℕ) (values : List ℕ) (t : Bool) → list_any (matches values) (all_of marks) ≡ t → c < cs.count → AreValues level values → IsUntouched c values →
      ((d : ℕ) × (others : List ℕ) × (d < cs.count) × AreValues level others × IsLike level level (before_block cs later) cs [] [] marks marks c values d others × (out c values ≡ before d others))
      ⊎ ((list_any (matches values) (all_of marks) ≡ false) × (out c values ≡ later c values))
  map_at c values true e less ok u = let i = u.inside e in inl (c, values, less, ok, like c values i.0, i.1)
  map_at c values false e less ok u = inr (e, u.outside e)

  reach_at : (d : ℕ) (others : List ℕ) (t : Bool) → list_any (matches others) (all_of marks) ≡ t → d < cs.count → AreValues level others → IsUntouched d others →
      ((c : ℕ) × (values : List ℕ) × (c < cs.count) × AreValues level values × IsLike level level (before_block cs later) cs [] [] marks marks c values d others)
      ⊎ (list_any (matches others) (all_of marks) ≡ false)
  reach_at d others true e less ok u = inl (d, others, less, ok, like d others (u.inside e).0)
  reach_at d others false e less ok u = inr e

  untouched : Untouched → IsRight level cs marks before → IsRight level (before_block cs later) marks out
  untouched all right =
      right-alike level level (before_block cs later) cs marks marks before out (keep-self marks)
      (λ c less values ok. map_at c values (list_any (matches values) (all_of marks)) refl less ok (all c less values ok))
      (λ d less others ok. reach_at d others (list_any (matches others) (all_of marks)) refl less ok (all d less others ok)) right

module _ (level : List ℕ) (span : Interval) (cs ds : Contexts) (to : ℕ → ℕ → ℕ) (rows more : List Row) (flags others : List Bool) (inner before out : ℕ → List ℕ → ℕ) where
  -- what is answered before the run alone
  abbrev later : ℕ → List ℕ → ℕ
  later c [] = 0
  later c (v ∷ values) = cond (interval_holds v span) (inner (to c v) values) (cs.after c (v ∷ values))

  later_inside : (c v : ℕ) (values : List ℕ) → interval_holds v span ≡ true → later c (v ∷ values) ≡ inner (to c v) values
  later_inside c v values is = ap (λ t. cond t (inner (to c v) values) (cs.after c (v ∷ values))) is

  later_outside : (c v : ℕ) (values : List ℕ) → interval_holds v span ≡ false → later c (v ∷ values) ≡ cs.after c (v ∷ values)
  later_outside c v values is = ap (λ t. cond t (inner (to c v) values) (cs.after c (v ∷ values))) is

  stands_after : AreApartFrom span rows → (c v d : ℕ) → interval_holds v span ≡ true → StandsBehind level cs ds c v d → StandsBehind level (after_block cs rows) ds c v d
  stands_after apart c v d is h = record {
    after = h.after;
    met = λ values ok. h.met values ok ∙ sym (ap (λ t. cs.met c (v ∷ values) || t) (apart v values is) ∙ or-false (cs.met c (v ∷ values)));
  }

  -- no context of the run sees the rows before it
  split_after : AreApartFrom span rows → AreSplit level span cs ds to → AreSplit level span (after_block cs rows) ds to
  split_after apart split = record {
    covered = λ c v less small is. let s = split.covered c v less small is in (s.0, stands_after apart c v (to c v) is s.1);
    reached = λ d less. let g = split.reached d less in (g.0, g.1, g.2, g.3, g.4, stands_after apart g.0 g.1 d g.4 g.5);
  }

  untouched_at : HasField level → length flags ≡ length rows → AreApartFrom span rows → IsRight level cs (marked rows flags) before → AreJoined level span cs.count to inner before out →
      (c v : ℕ) (values : List ℕ) (t : Bool) → interval_holds v span ≡ t → c < cs.count → v ≤ top_of level → AreValues (next level) values →
      IsUntouched level cs (marked rows flags) before later out c (v ∷ values)
  untouched_at five e apart right join c v values true is less small ok = record {
    inside = λ some. absurd (true≢false (sym some ∙ ap (list_any (matches (v ∷ values))) (all-marked rows flags e) ∙ apart v values is));
    outside = λ none. join.inside c v values less small ok is ∙ sym (later_inside c v values is);
  }
  untouched_at five e apart right join c v values false is less small ok = record {
    inside = λ some. (later_outside c v values is, join.outside c v values less small ok is);
    outside = λ none.
        join.outside c v values less small ok is
        ∙ right.answers c less (v ∷ values) (values_from level v values five small ok)
        ∙ answer-none (v ∷ values) (marked rows flags) (cs.after c (v ∷ values)) none
        ∙ sym (later_outside c v values is);
  }

  pub next_run : HasField level → length flags ≡ length rows → AreApartFrom span rows → IsRight level cs (marked rows flags) before → AreSplit level span cs ds to →
      IsRight (next level) ds (marked more others) inner → AreJoined level span cs.count to inner before out →
      IsRight level cs (marked (rows ++ map (in_front span) more) (flags ++ others)) out
  next_run five e apart right split within join =
      subst (λ ms. IsRight level cs ms out) (sym (marked-append rows (map (in_front span) more) flags others e))
      (sequence level cs (marked rows flags) (marked (map (in_front span) more) others) later out
      (subst (λ rs. IsRight level (after_block cs rs) (marked (map (in_front span) more) others) later) (sym (all-marked rows flags e))
      (one_run level span (after_block cs rows) ds to more others inner later five (split_after apart split) within
      (record {
        inside = λ c v values less small ok is. later_inside c v values is;
        outside = λ c v values less small ok is. later_outside c v values is;
      })))
      (untouched level cs (marked rows flags) before later out
      (λ c less. each (IsUntouched level cs (marked rows flags) before later out c) level five
      (λ v values small ok. untouched_at five e apart right join c v values (interval_holds v span) refl less small ok)) right))

kept_none : (rows : List Row) (flags : List Bool) → list_any (λ b. b) flags ≡ false → kept_of (marked rows flags) ≡ []
kept_none [] flags h = refl
kept_none (r ∷ rows) [] h = refl
kept_none (r ∷ rows) (true ∷ flags) h = absurd (true≢false h)
kept_none (r ∷ rows) (false ∷ flags) h = kept_none rows flags h

-- where nothing is kept of the run, nothing else is answered than without it
pub unchanged : (level : List ℕ) (span : Interval) (cs ds : Contexts) (to : ℕ → ℕ → ℕ) (rows more : List Row) (flags others : List Bool) (inner before : ℕ → List ℕ → ℕ) →
    HasField level → length flags ≡ length rows → AreApartFrom span rows → IsRight level cs (marked rows flags) before → AreSplit level span cs ds to →
    IsRight (next level) ds (marked more others) inner → list_any (λ b. b) others ≡ false →
    IsRight level cs (marked (rows ++ map (in_front span) more) (flags ++ others)) before
unchanged level span cs ds to rows more flags others inner before five e apart right split within none =
    next_run level span cs ds to rows more flags others inner before before five e apart right split within
    (record {
      inside = λ c v values less small ok is.
          let s = split.covered c v less small is in
          right.answers c less (v ∷ values) (values_from level v values five small ok)
          ∙ answer-none (v ∷ values) (marked rows flags) (cs.after c (v ∷ values)) (ap (list_any (matches (v ∷ values))) (all-marked rows flags e) ∙ apart v values is)
          ∙ sym (s.1.after values ok)
          ∙ sym (within.answers (to c v) s.0 values ok ∙ ap (λ rs. answer_or values rs (ds.after (to c v) values)) (kept_none more others none));
      outside = λ c v values less small ok is. refl;
    })
