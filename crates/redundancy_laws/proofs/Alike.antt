-- What is right for one block and its contexts is right for another that is alike at all values that matter.
use Rattle.field_boxes.specs.Headline.Fields.{AreValues}
use Rattle.std.proofs.Common.{◌≡◌, ◌∷◌, ◌⊎◌, ℕ, List, [], ◌<◌, Bool, true, false, refl, ap, sym, ◌∙◌, subst, inl, inr}
use Rattle.std.specs.Prelude.{◌≢◌, ◌||◌, cond}
use Rattle.std.specs.List.{list_any}
use Rattle.std.proofs.lemmas.Bool.{or_parts, or_from, true≢false}
use Rattle.redundancy_laws.specs.Rows.{Row, matches, answer_or}
use Rattle.redundancy_laws.specs.Marks.{Mark, all_of, kept_of}
use Rattle.redundancy_laws.specs.Contexts.{Contexts, MeetFirst, IsRightMark, AreRightMarks, IsRight}

-- two blocks with the same flags and decisions
abbrev pub KeepSame : List Mark → List Mark → Type 0
KeepSame [] [] = Unit {0}
KeepSame [] (n ∷ ys) = ⊥
KeepSame (m ∷ xs) [] = ⊥
KeepSame (m ∷ xs) (n ∷ ys) = (m.kept ≡ n.kept) × (m.row.decision ≡ n.row.decision) × KeepSame xs ys

pub keep-self : (xs : List Mark) → KeepSame xs xs
keep-self [] = tt
keep-self (m ∷ xs) = (refl, refl, keep-self xs)

-- the values match the rows of the one block that the others match of the other
abbrev pub MatchAlike : List ℕ → List ℕ → List Mark → List Mark → Type 0
MatchAlike values others [] ys = Unit {0}
MatchAlike values others (m ∷ xs) [] = ⊥
MatchAlike values others (m ∷ xs) (n ∷ ys) = (matches values m.row ≡ matches others n.row) × MatchAlike values others xs ys

cond_alike : (t u : Bool) (x y k l : ℕ) → t ≡ u → x ≡ y → k ≡ l → cond t x k ≡ cond u y l
cond_alike t u x y k l p q r = cc

answer_step : (b : Bool) (values others : List ℕ) (r s : Row) (xs ys : List Row) (other more : ℕ) → r.decision ≡ s.decision → matches values r ≡ matches others s →
    answer_or values xs other ≡ answer_or others ys more → answer_or values (cond b (r ∷ xs) xs) other ≡ answer_or others (cond b (s ∷ ys) ys) more
answer_step true values others r s xs ys other more d m h =
    cond_alike (matches values r) (matches others s) r.decision s.decision (answer_or values xs other) (answer_or others ys more) m d h
answer_step false values others r s xs ys other more d m h = h

pub answer-alike : (values others : List ℕ) (xs ys : List Mark) (other more : ℕ) → KeepSame xs ys → MatchAlike values others xs ys → other ≡ more →
    answer_or values (kept_of xs) other ≡ answer_or others (kept_of ys) more
answer-alike values others [] [] other more same h e = e
answer-alike values others [] (n ∷ ys) other more same h e = absurd same
answer-alike values others (m ∷ xs) [] other more same h e = absurd same
answer-alike values others (m ∷ xs) (n ∷ ys) other more same h e =
    subst (λ b. answer_or values (cond b (m.row ∷ kept_of xs) (kept_of xs)) other ≡ answer_or others (cond n.kept (n.row ∷ kept_of ys) (kept_of ys)) more) (sym same.0)
    (answer_step n.kept values others m.row n.row (kept_of xs) (kept_of ys) other more same.1 h.0 (answer-alike values others xs ys other more same.2 h.1 e))

none_step : (b : Bool) (values : List ℕ) (r : Row) (xs : List Row) (other : ℕ) → matches values r ≡ false → answer_or values xs other ≡ other →
    answer_or values (cond b (r ∷ xs) xs) other ≡ other
none_step true values r xs other e h = rw e h
none_step false values r xs other e h = h

-- a block of which no row matches answers as what follows
pub answer-none : (values : List ℕ) (marks : List Mark) (other : ℕ) → list_any (matches values) (all_of marks) ≡ false → answer_or values (kept_of marks) other ≡ other
answer-none values [] other h = refl
answer-none values (m ∷ marks) other h =
    let p = or_parts (matches values m.row) (list_any (matches values) (all_of marks)) h in
    none_step m.kept values m.row (kept_of marks) other p.0 (answer-none values marks other p.1)

or_true : (b : Bool) → (b || true) ≡ true
or_true true = refl
or_true false = refl

or_step : (m n b c t : Bool) → (m || b) ≡ (n || c) → (m || (t || b)) ≡ (n || (t || c))
or_step m n b c true h = or_true m ∙ sym (or_true n)
or_step m n b c false h = h

module _ (here there : List ℕ) (cs ds : Contexts) where
  -- values in a context of the one block are like others in a context of the other
  abbrev pub IsLike : List Row → List Row → List Mark → List Mark → ℕ → List ℕ → ℕ → List ℕ → Type 0
  IsLike earlier before xs ys c values d others =
      ((cs.met c values || list_any (matches values) earlier) ≡ (ds.met d others || list_any (matches others) before))
      × (cs.after c values ≡ ds.after d others) × MatchAlike values others xs ys

  -- all values in all contexts are like some others, or match none of the rows
  abbrev pub AreCovered : List Row → List Row → List Mark → List Mark → Type 0
  AreCovered earlier before xs ys = (c : ℕ) → c < cs.count → (values : List ℕ) → AreValues here values →
      ((d : ℕ) × (others : List ℕ) × (d < ds.count) × AreValues there others × IsLike earlier before xs ys c values d others) ⊎ (list_any (matches values) (all_of xs) ≡ false)

  -- and the other way round
  abbrev pub AreReached : List Row → List Row → List Mark → List Mark → Type 0
  AreReached earlier before xs ys = (d : ℕ) → d < ds.count → (others : List ℕ) → AreValues there others →
      ((c : ℕ) × (values : List ℕ) × (c < cs.count) × AreValues here values × IsLike earlier before xs ys c values d others) ⊎ (list_any (matches others) (all_of ys) ≡ false)

  next : (earlier before : List Row) (m n : Mark) (xs ys : List Mark) (c : ℕ) (values : List ℕ) (d : ℕ) (others : List ℕ) →
      IsLike earlier before (m ∷ xs) (n ∷ ys) c values d others → IsLike (m.row ∷ earlier) (n.row ∷ before) xs ys c values d others
  next earlier before m n xs ys c values d others h = (
    or_step (cs.met c values) (ds.met d others) (list_any (matches values) earlier) (list_any (matches others) before) (matches values m.row) h.0
        ∙ ap (λ t. ds.met d others || (t || list_any (matches others) before)) h.2.0,
    h.1,
    h.2.1,
  )

  cover_next : (earlier before : List Row) (m n : Mark) (xs ys : List Mark) (c : ℕ) (values : List ℕ) →
      ((d : ℕ) × (others : List ℕ) × (d < ds.count) × AreValues there others × IsLike earlier before (m ∷ xs) (n ∷ ys) c values d others) ⊎ (list_any (matches values) (m.row ∷ all_of xs) ≡ false) →
      ((d : ℕ) × (others : List ℕ) × (d < ds.count) × AreValues there others × IsLike (m.row ∷ earlier) (n.row ∷ before) xs ys c values d others) ⊎ (list_any (matches values) (all_of xs) ≡ false)
  cover_next earlier before m n xs ys c values (inl h) = inl (h.0, h.1, h.2, h.3, next earlier before m n xs ys c values h.0 h.1 h.4)
  cover_next earlier before m n xs ys c values (inr h) = inr (or_parts (matches values m.row) (list_any (matches values) (all_of xs)) h).1

  reach_next : (earlier before : List Row) (m n : Mark) (xs ys : List Mark) (d : ℕ) (others : List ℕ) →
      ((c : ℕ) × (values : List ℕ) × (c < cs.count) × AreValues here values × IsLike earlier before (m ∷ xs) (n ∷ ys) c values d others) ⊎ (list_any (matches others) (n.row ∷ all_of ys) ≡ false) →
      ((c : ℕ) × (values : List ℕ) × (c < cs.count) × AreValues here values × IsLike (m.row ∷ earlier) (n.row ∷ before) xs ys c values d others) ⊎ (list_any (matches others) (all_of ys) ≡ false)
  reach_next earlier before m n xs ys d others (inl h) = inl (h.0, h.1, h.2, h.3, next earlier before m n xs ys h.0 h.1 d others h.4)
  reach_next earlier before m n xs ys d others (inr h) = inr (or_parts (matches others n.row) (list_any (matches others) (all_of ys)) h).1

  drop_entry : (earlier before : List Row) (m n : Mark) (xs ys : List Mark) (c : ℕ) (values : List ℕ) →
      m.row.decision ≡ n.row.decision → KeepSame xs ys →
      ((d : ℕ) × (others : List ℕ) × (d < ds.count) × AreValues there others × IsLike earlier before (m ∷ xs) (n ∷ ys) c values d others) ⊎ (list_any (matches values) (m.row ∷ all_of xs) ≡ false) →
      IsRightMark there ds before false n.row (kept_of ys) → MeetFirst here cs earlier m.row c values → answer_or values (kept_of xs) (cs.after c values) ≡ m.row.decision
  drop_entry earlier before m n xs ys c values e same (inl h) right meet =
      let like = h.4 in
      let clear = sym like.0 ∙ or_from (cs.met c values) (list_any (matches values) earlier) meet.2 meet.3.0 in
      let p = or_parts (ds.met h.0 h.1) (list_any (matches h.1) before) clear in
      let first : MeetFirst there ds before n.row h.0 h.1 = (h.2, h.3, p.0, (p.1, sym like.2.0 ∙ meet.3.1)) in
      answer-alike values h.1 xs ys (cs.after c values) (ds.after h.0 h.1) same like.2.1 like.1 ∙ right h.0 h.1 first ∙ sym e
  drop_entry earlier before m n xs ys c values e same (inr h) right meet =
      absurd (true≢false (sym meet.3.1 ∙ (or_parts (matches values m.row) (list_any (matches values) (all_of xs)) h).0))

  keep_entry : (earlier before : List Row) (m n : Mark) (xs ys : List Mark) (d : ℕ) (others : List ℕ) →
      m.row.decision ≡ n.row.decision → KeepSame xs ys →
      ((c : ℕ) × (values : List ℕ) × (c < cs.count) × AreValues here values × IsLike earlier before (m ∷ xs) (n ∷ ys) c values d others) ⊎ (list_any (matches others) (n.row ∷ all_of ys) ≡ false) →
      MeetFirst there ds before n.row d others → answer_or others (kept_of ys) (ds.after d others) ≢ n.row.decision → IsRightMark here cs earlier true m.row (kept_of xs)
  keep_entry earlier before m n xs ys d others e same (inl g) meet differ =
      let like = g.4 in
      let p = or_parts (cs.met g.0 g.1) (list_any (matches g.1) earlier) (like.0 ∙ or_from (ds.met d others) (list_any (matches others) before) meet.2 meet.3.0) in (
        g.0,
        g.1,
        (g.2, g.3, p.0, (p.1, like.2.0 ∙ meet.3.1)),
        λ k. differ (sym (answer-alike g.1 others xs ys (cs.after g.0 g.1) (ds.after d others) same like.2.1 like.1) ∙ k ∙ e),
      )
  keep_entry earlier before m n xs ys d others e same (inr g) meet differ =
      absurd (true≢false (sym meet.3.1 ∙ (or_parts (matches others n.row) (list_any (matches others) (all_of ys)) g).0))

  mark : (b : Bool) (earlier before : List Row) (m n : Mark) (xs ys : List Mark) →
      m.row.decision ≡ n.row.decision → KeepSame xs ys →
      AreCovered earlier before (m ∷ xs) (n ∷ ys) → AreReached earlier before (m ∷ xs) (n ∷ ys) →
      IsRightMark there ds before b n.row (kept_of ys) → IsRightMark here cs earlier b m.row (kept_of xs)
  mark true earlier before m n xs ys e same cover reach (d, others, meet, differ) = keep_entry earlier before m n xs ys d others e same (reach d meet.0 others meet.1) meet differ
  mark false earlier before m n xs ys e same cover reach right = λ c values meet. drop_entry earlier before m n xs ys c values e same (cover c meet.0 values meet.1) right meet

  pub marks-alike : (earlier before : List Row) (xs ys : List Mark) → KeepSame xs ys → AreCovered earlier before xs ys → AreReached earlier before xs ys →
      AreRightMarks there ds before ys → AreRightMarks here cs earlier xs
  marks-alike earlier before [] ys same cover reach h = tt
  marks-alike earlier before (m ∷ xs) [] same cover reach h = absurd same
  marks-alike earlier before (m ∷ xs) (n ∷ ys) same cover reach h = (
    mark m.kept earlier before m n xs ys same.1 same.2 cover reach (subst (λ b. IsRightMark there ds before b n.row (kept_of ys)) (sym same.0) h.0),
    marks-alike (m.row ∷ earlier) (n.row ∷ before) xs ys same.2
        (λ c less values ok. cover_next earlier before m n xs ys c values (cover c less values ok))
        (λ d less others ok. reach_next earlier before m n xs ys d others (reach d less others ok)) h.1,
  )

  -- where the values are like others, what is answered is what is answered there, and else what was answered behind
  abbrev pub AreMapped : List Mark → List Mark → (ℕ → List ℕ → ℕ) → (ℕ → List ℕ → ℕ) → Type 0
  AreMapped xs ys inner out = (c : ℕ) → c < cs.count → (values : List ℕ) → AreValues here values →
      ((d : ℕ) × (others : List ℕ) × (d < ds.count) × AreValues there others × IsLike [] [] xs ys c values d others × (out c values ≡ inner d others))
      ⊎ ((list_any (matches values) (all_of xs) ≡ false) × (out c values ≡ cs.after c values))

  cover : (xs ys : List Mark) (inner out : ℕ → List ℕ → ℕ) → AreMapped xs ys inner out → AreCovered [] [] xs ys
  cover xs ys inner out h c less values ok =
      elim (h c less values ok) [ inl g ↦ inl (g.0, g.1, g.2, g.3, g.4) | inr g ↦ inr g.0 ]

  answered : (xs ys : List Mark) (inner out : ℕ → List ℕ → ℕ) → KeepSame xs ys → IsRight there ds ys inner → (c : ℕ) (values : List ℕ) →
      ((d : ℕ) × (others : List ℕ) × (d < ds.count) × AreValues there others × IsLike [] [] xs ys c values d others × (out c values ≡ inner d others))
      ⊎ ((list_any (matches values) (all_of xs) ≡ false) × (out c values ≡ cs.after c values)) →
      out c values ≡ answer_or values (kept_of xs) (cs.after c values)
  answered xs ys inner out same right c values (inl h) =
      h.5 ∙ right.answers h.0 h.2 h.1 h.3 ∙ sym (answer-alike values h.1 xs ys (cs.after c values) (ds.after h.0 h.1) same h.4.2 h.4.1)
  answered xs ys inner out same right c values (inr h) = h.1 ∙ sym (answer-none values xs (cs.after c values) h.0)

  pub right-alike : (xs ys : List Mark) (inner out : ℕ → List ℕ → ℕ) → KeepSame xs ys → AreMapped xs ys inner out → AreReached [] [] xs ys →
      IsRight there ds ys inner → IsRight here cs xs out
  right-alike xs ys inner out same map reach right = record {
    answers = λ c less values ok. answered xs ys inner out same right c values (map c less values ok);
    each = marks-alike [] [] xs ys same (cover xs ys inner out map) reach right.each;
  }
