-- Lists that share no run are merged each by itself.
use Rattle.std.proofs.Common.{◌≡◌, ◌∷◌, ◌++◌, ◌⊎◌, ◌+◌, ℕ, List, [], length, ap, refl, sym, ◌∙◌, subst, arith, inl, inr, suc, zero, ◌≢◌, length-append, append_assoc}
use Rattle.ternary_words.specs.Headline.Table.{Entry}
use Rattle.bit_merge.specs.Merge.{AllDecide, Pair, IsPair, IsClosed, IsFirstPair, joint, joined, MergedIn}
use Rattle.bit_merge.proofs.ByPlace.{Decision, pair}
use Rattle.bit_merge.proofs.Splits.{no_split, InFirst, InSecond, in_parts}

-- what the last entry decides, or this where there is none
abbrev pub last_decision : Decision → List Entry → Decision
last_decision d [] = d
last_decision d (e ∷ entries) = last_decision e.decision entries

-- the last entry of the first list and the first one of the second list decide different things, where both have entries
abbrev pub AreApart : List Entry → List Entry → Type 0
AreApart [] ys = Unit {0}
AreApart (x ∷ xs) [] = Unit {0}
AreApart (x ∷ xs) (y ∷ ys) = last_decision x.decision xs ≢ y.decision

-- a pair of the first list, or of the second one
record IsBefore (xs ys : List Entry) (p : Pair) : Type 0 where
  rest : List Entry
  is : IsPair xs (pair p.before p.first p.between p.second rest)
  after : p.after ≡ rest ++ ys

record IsBehind (xs ys : List Entry) (p : Pair) : Type 0 where
  start : List Entry
  is : IsPair ys (pair start p.first p.between p.second p.after)
  before : p.before ≡ xs ++ start

pub last_one : (d : Decision) (xs : List Entry) → AllDecide d xs → last_decision d xs ≡ d
last_one d [] all = refl
last_one d (x ∷ xs) all = ap (λ e. last_decision e xs) all.0 ∙ last_one d xs all.1

-- a run over the seam
meet_last : (x : Entry) (xs : List Entry) (before : List Entry) (u : Entry) (rest : List Entry) → x ∷ xs ≡ before ++ (u ∷ rest) → AllDecide u.decision rest →
    last_decision x.decision xs ≡ u.decision
meet_last x xs [] u rest e all =
    let h : x ≡ u = cc e in
    let k : xs ≡ rest = cc e in
    ap (λ (v : Entry). last_decision v.decision xs) h ∙ ap (last_decision u.decision) k ∙ last_one u.decision rest all
meet_last x [] (w ∷ before) u rest e all = absurd (no_split before u rest (cc e))
meet_last x (z ∷ xs) (w ∷ before) u rest e all = let k : z ∷ xs ≡ before ++ (u ∷ rest) = cc e in meet_last z xs before u rest k all

meet_first : (d : Decision) (y : Entry) (ys start : List Entry) (v : Entry) (after : List Entry) → y ∷ ys ≡ start ++ (v ∷ after) → AllDecide d start → v.decision ≡ d → y.decision ≡ d
meet_first d y ys [] v after e all is = let h : y ≡ v = cc e in ap (λ (u : Entry). u.decision) h ∙ is
meet_first d y ys (w ∷ start) v after e all is = let h : y ≡ w = cc e in ap (λ (u : Entry). u.decision) h ∙ all.0

no_meeting : (xs ys before : List Entry) (u : Entry) (rest start : List Entry) (v : Entry) (after : List Entry) → AreApart xs ys → xs ≡ before ++ (u ∷ rest) → ys ≡ start ++ (v ∷ after) →
    AllDecide u.decision rest → AllDecide u.decision start → v.decision ≡ u.decision → ⊥
no_meeting [] ys before u rest start v after apart e f all more is = no_split before u rest e
no_meeting (x ∷ xs) [] before u rest start v after apart e f all more is = no_split start v after f
no_meeting (x ∷ xs) (y ∷ ys) before u rest start v after apart e f all more is =
    apart (meet_last x xs before u rest e all ∙ sym (meet_first u.decision y ys start v after f more is))

pub all_split : (d : Decision) (xs ys : List Entry) → AllDecide d (xs ++ ys) → AllDecide d xs × AllDecide d ys
all_split d [] ys all = (tt, all)
all_split d (x ∷ xs) ys all = let r = all_split d xs ys all.1 in ((all.0, r.0), r.1)

seam_step : (xs ys : List Entry) (p : Pair) (rest : List Entry) → AreApart xs ys → IsPair (xs ++ ys) p → xs ≡ p.before ++ (p.first ∷ rest) →
    InFirst rest ys p.between p.second p.after ⊎ InSecond rest ys p.between p.second p.after → IsBefore xs ys p
seam_step xs ys p rest apart h e (inl i) = record {
  rest = i.rest;
  is = record { parts = e ∙ ap (λ l. p.before ++ (p.first ∷ l)) i.first; between = h.between; second = h.second; joinable = h.joinable };
  after = i.then;
}
seam_step xs ys p rest apart h e (inr i) =
    let all = all_split p.first.decision rest i.start (subst (AllDecide p.first.decision) i.first h.between) in
    absurd (no_meeting xs ys p.before p.first rest i.start p.second p.after apart e i.then all.0 all.1 h.second)

either : (xs ys : List Entry) (p : Pair) → AreApart xs ys → IsPair (xs ++ ys) p → IsBefore xs ys p ⊎ IsBehind xs ys p
either xs ys p apart h =
    elim (in_parts xs ys p.before p.first (p.between ++ (p.second ∷ p.after)) h.parts) [
      | inl i ↦ inl (seam_step xs ys p i.rest apart h i.first (in_parts i.rest ys p.between p.second p.after (sym i.then)))
      | inr i ↦ inr record { start = i.start; is = record { parts = i.then; between = h.between; second = h.second; joinable = h.joinable }; before = i.first }
    ]

-- the pairs of both lists are pairs of the whole
abbrev longer : Pair → List Entry → Pair
longer p ys = pair p.before p.first p.between p.second (p.after ++ ys)

abbrev later : List Entry → Pair → Pair
later xs p = pair (xs ++ p.before) p.first p.between p.second p.after

longer_joined : (ys : List Entry) (p : Pair) → joined (longer p ys) ≡ joined p ++ ys
longer_joined ys p = simp append_assoc

later_joined : (xs : List Entry) (p : Pair) → joined (later xs p) ≡ xs ++ joined p
later_joined xs p = simp append_assoc

-- the first list's first pair is the whole's
longer_first : (xs ys : List Entry) (p : Pair) → AreApart xs ys → IsFirstPair xs p → IsFirstPair (xs ++ ys) (longer p ys)
longer_first xs ys p apart f = record {
  pair = record { parts = ap (λ l. l ++ ys) f.pair.parts ∙ simp append_assoc; between = f.pair.between; second = f.pair.second; joinable = f.pair.joinable };
  least = λ q h. elim (either xs ys q apart h) [
    | inl i ↦ f.least (pair q.before q.first q.between q.second i.rest) i.is
    | inr i ↦ inl (omega (arith, ap length i.before, ap length f.pair.parts, length-append {A = Entry}))
  ];
}

-- where the first list is closed, the second list's first pair is
later_first : (xs ys : List Entry) (p : Pair) → AreApart xs ys → IsClosed xs → IsFirstPair ys p → IsFirstPair (xs ++ ys) (later xs p)
later_first xs ys p apart closed f = record {
  pair = record { parts = ap (λ l. xs ++ l) f.pair.parts ∙ simp append_assoc; between = f.pair.between; second = f.pair.second; joinable = f.pair.joinable };
  least = λ q h. elim (either xs ys q apart h) [
    | inl i ↦ absurd (closed (pair q.before q.first q.between q.second i.rest) i.is)
    | inr i ↦ rw (length-append xs p.before, i.before, length-append xs i.start)
        (elim (f.least (pair i.start q.first q.between q.second q.after) i.is) [ inl h ↦ inl (omega (arith, h)) | inr h ↦ inr (omega (arith, h.0), omega (arith, h.0, h.1)) ])
  ];
}

pub both-closed : (xs ys : List Entry) → AreApart xs ys → IsClosed xs → IsClosed ys → IsClosed (xs ++ ys)
both-closed xs ys apart c d q h =
    elim (either xs ys q apart h) [
      | inl i ↦ c (pair q.before q.first q.between q.second i.rest) i.is
      | inr i ↦ d (pair i.start q.first q.between q.second q.after) i.is
    ]

-- joining keeps what a list begins and ends with
last_second : (d e : Decision) (between : List Entry) (y : Entry) (after : List Entry) → e ≡ d → AllDecide d between → y.decision ≡ d →
    last_decision e (between ++ after) ≡ last_decision e (between ++ (y ∷ after))
last_second d e [] y after k all is = ap (λ c. last_decision c after) (k ∙ sym is)
last_second d e (b ∷ between) y after k all is = last_second d b.decision between y after all.0 all.1 is

last_joined : (e : Decision) (before : List Entry) (x : Entry) (between : List Entry) (y : Entry) (after : List Entry) → AllDecide x.decision between → y.decision ≡ x.decision →
    last_decision e (before ++ (joint x y ∷ between ++ after)) ≡ last_decision e (before ++ (x ∷ between ++ (y ∷ after)))
last_joined e [] x between y after all is = last_second x.decision x.decision between y after refl all is
last_joined e (b ∷ before) x between y after all is = last_joined b.decision before x between y after all is

apart_first : (before : List Entry) (x : Entry) (between : List Entry) (y : Entry) (after ys : List Entry) → AllDecide x.decision between → y.decision ≡ x.decision →
    AreApart (before ++ (x ∷ between ++ (y ∷ after))) ys → AreApart (before ++ (joint x y ∷ between ++ after)) ys
apart_first [] x between y after (z ∷ ys) all is apart = λ e. apart (sym (last_second x.decision x.decision between y after refl all is) ∙ e)
apart_first (b ∷ before) x between y after (z ∷ ys) all is apart = λ e. apart (sym (last_joined b.decision before x between y after all is) ∙ e)
apart_first before x between y after ys all is apart = tt

apart_second : (xs before : List Entry) (x : Entry) (between : List Entry) (y : Entry) (after : List Entry) →
    AreApart xs (before ++ (x ∷ between ++ (y ∷ after))) → AreApart xs (before ++ (joint x y ∷ between ++ after))
apart_second [] before x between y after apart = tt
apart_second (z ∷ xs) [] x between y after apart = apart
apart_second (z ∷ xs) (b ∷ before) x between y after apart = apart

joined_apart : (xs ys : List Entry) (p : Pair) → IsPair xs p → AreApart xs ys → AreApart (joined p) ys
joined_apart xs ys p h apart = apart_first p.before p.first p.between p.second p.after ys h.between h.second (subst (λ l. AreApart l ys) h.parts apart)

apart_joined : (xs ys : List Entry) (p : Pair) → IsPair ys p → AreApart xs ys → AreApart xs (joined p)
apart_joined xs ys p h apart = apart_second xs p.before p.first p.between p.second p.after (subst (AreApart xs) h.parts apart)

counted : (n k : ℕ) (xs ys : List Entry) → n ≡ k → MergedIn n xs ys → MergedIn k xs ys
counted n k xs ys e h = subst (λ i. MergedIn i xs ys) e h

-- first the first list, and then the second one
second_merged : (m : ℕ) (xs ys out : List Entry) → AreApart xs ys → IsClosed xs → MergedIn m ys out → MergedIn m (xs ++ ys) (xs ++ out)
second_merged zero xs ys out apart closed h = (both-closed xs ys apart closed h.0, ap (λ l. xs ++ l) h.1)
second_merged (suc m) xs ys out apart closed h = (
  later xs h.0,
  later_first xs ys h.0 apart closed h.1,
  subst (λ l. MergedIn m l (xs ++ out)) (sym (later_joined xs h.0)) (second_merged m xs (joined h.0) out (apart_joined xs ys h.0 h.1.pair apart) closed h.2),
)

pub both-merged : (n m : ℕ) (xs ys us vs : List Entry) → AreApart xs ys → MergedIn n xs us → MergedIn m ys vs → MergedIn (n + m) (xs ++ ys) (us ++ vs)
both-merged zero m xs ys us vs apart h k =
    counted m (0 + m) (xs ++ ys) (us ++ vs) (omega arith)
    (subst (λ l. MergedIn m (xs ++ ys) (l ++ vs)) (sym h.1) (second_merged m xs ys vs apart h.0 k))
both-merged (suc n) m xs ys us vs apart h k =
    counted (suc (n + m)) (suc n + m) (xs ++ ys) (us ++ vs) (omega arith) (
      longer h.0 ys,
      longer_first xs ys h.0 apart h.1,
      subst (λ l. MergedIn (n + m) l (us ++ vs)) (sym (longer_joined ys h.0)) (both-merged n m (joined h.0) ys us vs (joined_apart xs ys h.0 h.1.pair apart) h.2 k),
    )
