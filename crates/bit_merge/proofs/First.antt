-- A table is closed or has a first pair, and only one.
use Rattle.std.proofs.Common.{◌≡◌, ◌∷◌, ◌++◌, ◌⊎◌, ◌≤◌, ◌<◌, ◌+◌, ℕ, List, [], length, ap, refl, sym, ◌∙◌, subst, arith, Some, None, Option, inl, inr, suc, Bool, true, false}
use Rattle.std.proofs.lemmas.Bool.{true≢false}
use Rattle.std.proofs.lemmas.Bool.Decides.{Decides-like}
use Rattle.std.proofs.lemmas.Slice.Eq.{bytes_eq-Decides}
use Rattle.std.specs.Bool.{Decides}
use Rattle.std.specs.Str.{bytes_eq}
use Rattle.ternary_words.specs.Headline.Table.{Entry}
use Rattle.bit_merge.specs.Merge.{CanJoin, AllDecide, Pair, IsPair, IsClosed, IsFirstPair, ComesFirst}
use Rattle.bit_merge.proofs.ByPlace.{pair}
use Rattle.bit_merge.proofs.Splits.{no_split}
use Rattle.bit_merge.proofs.Words.{can-join_or}

-- what a test tells holds, or not
by_test : {P : Type 0} (r : Bool) → Decides r P → P ⊎ (P → ⊥)
by_test true d = inl (d.0 refl)
by_test false d = inr (λ p. true≢false (sym (d.1 p)))

pub decisions_or : (d e : Option (List ℕ)) → (d ≡ e) ⊎ (d ≡ e → ⊥)
decisions_or None None = inl refl
decisions_or (Some x) (Some y) = by_test (bytes_eq x y) (Decides-like (bytes_eq x y) (λ e. ap Some e) (λ e. cc e) (bytes_eq-Decides x y))
decisions_or d e = inr (λ h. cc h)

-- of the entries after x, one that it can be joined to
record IsSecond (x : Entry) (entries between : List Entry) (y : Entry) (after : List Entry) : Type 0 where
  parts : entries ≡ between ++ (y ∷ after)
  all : AllDecide x.decision between
  second : y.decision ≡ x.decision
  joinable : CanJoin x.word y.word

abbrev NoSecond : Entry → List Entry → Type 0
NoSecond x entries = (between : List Entry) (y : Entry) (after : List Entry) → IsSecond x entries between y after → ⊥

record Second (x : Entry) (entries : List Entry) : Type 0 where
  between : List Entry
  second : Entry
  after : List Entry
  is : IsSecond x entries between second after
  least : (b : List Entry) (y : Entry) (a : List Entry) → IsSecond x entries b y a → length between ≤ length b

-- the second entry stands further on
second_later : (x z w : Entry) (entries b : List Entry) (y : Entry) (a : List Entry) → IsSecond x (z ∷ entries) (w ∷ b) y a → IsSecond x entries b y a
second_later x z w entries b y a h = record { parts = cc h.parts; all = h.all.1; second = h.second; joinable = h.joinable }

second_here : (x z : Entry) (entries : List Entry) (y : Entry) (a : List Entry) → IsSecond x (z ∷ entries) [] y a → CanJoin x.word z.word
second_here x z entries y a h = let e : y ≡ z = cc h.parts in subst (λ (u : Entry). CanJoin x.word u.word) e h.joinable

second_decides : (x z : Entry) (entries b : List Entry) (y : Entry) (a : List Entry) → IsSecond x (z ∷ entries) b y a → z.decision ≡ x.decision
second_decides x z entries [] y a h = let e : z ≡ y = cc h.parts in ap (λ (u : Entry). u.decision) e ∙ h.second
second_decides x z entries (w ∷ b) y a h = let e : z ≡ w = cc h.parts in ap (λ (u : Entry). u.decision) e ∙ h.all.0

-- the first entry is no second one: all the second ones stand further on
later_seconds : (x z : Entry) (entries : List Entry) (Holds : List Entry → Type 0) → (CanJoin x.word z.word → ⊥) →
    ((w : Entry) (b : List Entry) (y : Entry) (a : List Entry) → IsSecond x entries b y a → Holds (w ∷ b)) →
    (b : List Entry) (y : Entry) (a : List Entry) → IsSecond x (z ∷ entries) b y a → Holds b
later_seconds x z entries Holds n f [] y a h = absurd (n (second_here x z entries y a h))
later_seconds x z entries Holds n f (w ∷ b) y a h = f w b y a (second_later x z w entries b y a h)

second_step : (x z : Entry) (entries : List Entry) → (z.decision ≡ x.decision) ⊎ (z.decision ≡ x.decision → ⊥) → CanJoin x.word z.word ⊎ (CanJoin x.word z.word → ⊥) →
    Second x entries ⊎ NoSecond x entries → Second x (z ∷ entries) ⊎ NoSecond x (z ∷ entries)
second_step x z entries (inr n) j s = inr (λ b y a h. n (second_decides x z entries b y a h))
second_step x z entries (inl d) (inl j) s = inl record {
  between = [];
  second = z;
  after = entries;
  is = record { parts = refl; all = tt; second = d; joinable = j };
  least = λ b y a h. omega arith;
}
second_step x z entries (inl d) (inr n) (inl s) = inl record {
  between = z ∷ s.between;
  second = s.second;
  after = s.after;
  is = record { parts = ap (λ r. z ∷ r) s.is.parts; all = (d, s.is.all); second = s.is.second; joinable = s.is.joinable };
  least = later_seconds x z entries (λ b. length (z ∷ s.between) ≤ length b) n (λ w b y a h. let r = s.least b y a h in omega (arith, r));
}
second_step x z entries (inl d) (inr n) (inr s) = inr (later_seconds x z entries (λ b. ⊥) n (λ w b y a h. s b y a h))

second_or : (x : Entry) (entries : List Entry) → Second x entries ⊎ NoSecond x entries
second_or x [] = inr (λ b y a h. no_split b y a h.parts)
second_or x (z ∷ entries) = second_step x z entries (decisions_or z.decision x.decision) (can-join_or x.word z.word) (second_or x entries)

pair_here : (x : Entry) (entries : List Entry) (u : Entry) (b : List Entry) (y : Entry) (a : List Entry) → IsPair (x ∷ entries) (pair [] u b y a) → IsSecond x entries b y a
pair_here x entries u b y a h =
    let e : u ≡ x = cc h.parts in record {
      parts = cc h.parts;
      all = subst (λ (v : Entry). AllDecide v.decision b) e h.between;
      second = h.second ∙ ap (λ (v : Entry). v.decision) e;
      joinable = subst (λ (v : Entry). CanJoin v.word y.word) e h.joinable;
    }

pair_later : (x : Entry) (entries : List Entry) (w : Entry) (before : List Entry) (u : Entry) (b : List Entry) (y : Entry) (a : List Entry) →
    IsPair (x ∷ entries) (pair (w ∷ before) u b y a) → IsPair entries (pair before u b y a)
pair_later x entries w before u b y a h = record { parts = cc h.parts; between = h.between; second = h.second; joinable = h.joinable }

-- a pair begins with the first entry, or is one of the other entries
each_pair : (x : Entry) (entries : List Entry) (Holds : Pair → Type 0) →
    ((u : Entry) (b : List Entry) (y : Entry) (a : List Entry) → IsSecond x entries b y a → Holds (pair [] u b y a)) →
    ((w : Entry) (q : Pair) → IsPair entries q → Holds (pair (w ∷ q.before) q.first q.between q.second q.after)) →
    (before : List Entry) (u : Entry) (b : List Entry) (y : Entry) (a : List Entry) → IsPair (x ∷ entries) (pair before u b y a) → Holds (pair before u b y a)
each_pair x entries Holds f g [] u b y a h = f u b y a (pair_here x entries u b y a h)
each_pair x entries Holds f g (w ∷ before) u b y a h = g w (pair before u b y a) (pair_later x entries w before u b y a h)

first_step : (x : Entry) (entries : List Entry) → Second x entries ⊎ NoSecond x entries → IsClosed entries ⊎ ((p : Pair) × IsFirstPair entries p) →
    IsClosed (x ∷ entries) ⊎ ((p : Pair) × IsFirstPair (x ∷ entries) p)
first_step x entries (inl s) r =
    let p = pair [] x s.between s.second s.after in
    inr (
      p,
      record {
        pair = record { parts = ap (λ r. x ∷ r) s.is.parts; between = s.is.all; second = s.is.second; joinable = s.is.joinable };
        least = λ q h. each_pair x entries (ComesFirst p) (λ u b y a i. inr (refl, omega (arith, s.least b y a i))) (λ w q i. inl (omega arith)) q.before q.first q.between q.second q.after h;
      },
    )
first_step x entries (inr n) (inl closed) =
    inl (λ q h. each_pair x entries (λ q. ⊥) (λ u b y a i. n b y a i) (λ w q i. closed q i) q.before q.first q.between q.second q.after h)
first_step x entries (inr n) (inr r) =
    let p = pair (x ∷ r.0.before) r.0.first r.0.between r.0.second r.0.after in
    inr (
      p,
      record {
        pair = record { parts = ap (λ l. x ∷ l) r.1.pair.parts; between = r.1.pair.between; second = r.1.pair.second; joinable = r.1.pair.joinable };
        least = λ q h. each_pair x entries (ComesFirst p) (λ u b y a i. absurd (n b y a i))
            (λ w q i. elim (r.1.least q i) [ inl m ↦ inl (omega (arith, m)) | inr m ↦ inr (ap suc m.0, omega (arith, m.1)) ]) q.before q.first q.between q.second q.after h;
      },
    )

-- a table is closed, or has a first pair
pub first_or : (entries : List Entry) → IsClosed entries ⊎ ((p : Pair) × IsFirstPair entries p)
first_or [] = inl (λ q h. no_split q.before q.first (q.between ++ (q.second ∷ q.after)) h.parts)
first_or (x ∷ entries) = first_step x entries (second_or x entries) (first_or entries)

-- one list cut in two ways at one place
one_cut : {A : Type 0} (us vs xs ys : List A) → length us ≡ length vs → us ++ xs ≡ vs ++ ys → (us ≡ vs) × (xs ≡ ys)
one_cut [] [] xs ys l e = (refl, e)
one_cut (a ∷ us) (b ∷ vs) xs ys l e =
    let h : a ≡ b = cc e in
    let k : us ++ xs ≡ vs ++ ys = cc e in
    let r = one_cut us vs xs ys (omega (arith, l)) k in (cc (h, r.0), r.1)
one_cut us vs xs ys l e = absurd (omega arith)

same_places : (n m s t : ℕ) → (n < m) ⊎ ((n ≡ m) × (s ≤ t)) → (m < n) ⊎ ((m ≡ n) × (t ≤ s)) → (n ≡ m) × (s ≡ t)
same_places n m s t h k = (grind arith, grind arith)

-- a table has only one first pair
pub one-first : (entries : List Entry) (p q : Pair) → IsFirstPair entries p → IsFirstPair entries q → p ≡ q
one-first entries p q f g =
    let s = same_places (length p.before) (length q.before) (suc (length p.before + length p.between)) (suc (length q.before + length q.between))
    (f.least q g.pair) (g.least p f.pair) in
    let c = one_cut p.before q.before (p.first ∷ p.between ++ (p.second ∷ p.after)) (q.first ∷ q.between ++ (q.second ∷ q.after)) s.0 (sym f.pair.parts ∙ g.pair.parts) in
    let k : p.between ++ (p.second ∷ p.after) ≡ q.between ++ (q.second ∷ q.after) = cc c.1 in
    let m = one_cut p.between q.between (p.second ∷ p.after) (q.second ∷ q.after) (omega (arith, s.0, s.1)) k in
    let e1 : p.first ≡ q.first = cc c.1 in
    let e3 : p.second ≡ q.second = cc m.1 in
    let e4 : p.after ≡ q.after = cc m.1 in
    let e : pair p.before p.first p.between p.second p.after ≡ pair q.before q.first q.between q.second q.after = cc (c.0, m.0) in e
