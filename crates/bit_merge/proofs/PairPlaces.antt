-- Pairs by their places.
use Rattle.std.proofs.Common.{◌≡◌, ◌∷◌, ◌++◌, ◌≤◌, ◌<◌, ◌+◌, ℕ, List, [], length, ap, refl, sym, ◌∙◌, subst, arith, set, suc, zero, slice_index_or, remove, take, drop, length-append, append_assoc}
use Rattle.std.proofs.lemmas.List.{get_or_at, length-take-le, take-append-drop}
use Rattle.std.proofs.Math.Seq.{drop-cons, get_or-append_seam}
use Rattle.ternary_words.specs.Headline.Table.{Entry}
use Rattle.bit_merge.specs.Merge.{CanJoin, AllDecide, Pair, IsPair, first_place, second_place, joint, joined}
use Rattle.bit_merge.proofs.ByPlace.{Decision, pair, ArePlaces}

one_at : (c : Decision) (between : List Entry) (y : Entry) (after : List Entry) (d : Entry) → AllDecide c between → y.decision ≡ c →
    (k : ℕ) → k ≤ length between → (slice_index_or (between ++ (y ∷ after)) k d).decision ≡ c
one_at c [] y after d all is zero less = is
one_at c [] y after d all is (suc k) less = absurd (omega (arith, less))
one_at c (b ∷ between) y after d all is zero less = all.0
one_at c (b ∷ between) y after d all is (suc k) less = one_at c between y after d all.1 is k (omega (arith, less))

one_first : (c : Decision) (x : Entry) (entries : List Entry) (n : ℕ) (d : Entry) → ((k : ℕ) → k ≤ n → (slice_index_or entries k d).decision ≡ c) →
    (k : ℕ) → 0 < k → k ≤ suc n → (slice_index_or (x ∷ entries) k d).decision ≡ c
one_first c x entries n d f zero more less = absurd (omega (arith, more))
one_first c x entries n d f (suc k) more less = f k (omega (arith, less))

one_further : (w : Entry) (entries : List Entry) (i j : ℕ) (d : Entry) → ((k : ℕ) → i < k → k ≤ j → (slice_index_or entries k d).decision ≡ (slice_index_or entries i d).decision) →
    (k : ℕ) → suc i < k → k ≤ suc j → (slice_index_or (w ∷ entries) k d).decision ≡ (slice_index_or entries i d).decision
one_further w entries i j d f zero more less = absurd (omega (arith, more))
one_further w entries i j d f (suc k) more less = f k (omega (arith, more)) (omega (arith, less))

further : (w : Entry) (entries : List Entry) (i j : ℕ) (d : Entry) → ArePlaces entries d i j → ArePlaces (w ∷ entries) d (suc i) (suc j)
further w entries i j d h = record { less = omega (arith, h.less); within = omega (arith, h.within); one = one_further w entries i j d h.one; joinable = h.joinable }

nearer : (w : Entry) (entries : List Entry) (i j : ℕ) (d : Entry) → ArePlaces (w ∷ entries) d (suc i) (suc j) → ArePlaces entries d i j
nearer w entries i j d h =
    record { less = omega (arith, h.less); within = omega (arith, h.within); one = λ k more less. h.one (suc k) (omega (arith, more)) (omega (arith, less)); joinable = h.joinable }

places_of : (before : List Entry) (x : Entry) (between : List Entry) (y : Entry) (after : List Entry) (d : Entry) (j : ℕ) → j ≡ suc (length before + length between) →
    AllDecide x.decision between → y.decision ≡ x.decision → CanJoin x.word y.word → ArePlaces (before ++ (x ∷ between ++ (y ∷ after))) d (length before) j
places_of before x between y after d zero e all is can = absurd (omega (arith, e))
places_of [] x between y after d (suc j) e all is can =
    let f : j ≡ length between = omega (arith, e) in
    subst (λ k. ArePlaces (x ∷ between ++ (y ∷ after)) d 0 (suc k)) (sym f) record {
      less = omega arith;
      within = omega (arith, length-append between (y ∷ after));
      one = one_first x.decision x (between ++ (y ∷ after)) (length between) d (one_at x.decision between y after d all is);
      joinable = subst (λ (u : Entry). CanJoin x.word u.word) (sym (get_or-append_seam between y after d)) can;
    }
places_of (b ∷ before) x between y after d (suc j) e all is can =
    further b (before ++ (x ∷ between ++ (y ∷ after))) (length before) j d (places_of before x between y after d j (omega (arith, e)) all is can)

pub pair-places : (entries : List Entry) (p : Pair) (d : Entry) → IsPair entries p → ArePlaces entries d (first_place p) (second_place p)
pair-places entries p d h =
    subst (λ es. ArePlaces es d (first_place p) (second_place p)) (sym h.parts)
    (places_of p.before p.first p.between p.second p.after d (second_place p) refl h.between h.second h.joinable)

-- a list is parted at a place
pub cut : (entries : List Entry) (k : ℕ) (d : Entry) → k < length entries → entries ≡ take k entries ++ (slice_index_or entries k d ∷ drop (suc k) entries)
cut entries k d less = sym (take-append-drop k entries) ∙ ap (λ l. take k entries ++ l) (drop-cons entries k d less)

all_upto : (c : Decision) (entries : List Entry) (d : Entry) (n : ℕ) → n < length entries → ((k : ℕ) → k < n → (slice_index_or entries k d).decision ≡ c) → AllDecide c (take n entries)
all_upto c [] d n less f = absurd (omega (arith, less))
all_upto c (x ∷ entries) d zero less f = tt
all_upto c (x ∷ entries) d (suc n) less f = (f 0 (omega arith), all_upto c entries d n (omega (arith, less)) (λ k small. f (suc k) (omega (arith, small))))

-- the pair at two places
pub places-pair : (entries : List Entry) (d : Entry) (i j : ℕ) → ArePlaces entries d i j → (p : Pair) × IsPair entries p × (first_place p ≡ i) × (second_place p ≡ j)
places-pair [] d i j h = absurd (omega (arith, h.within))
places-pair (x ∷ entries) d i zero h = absurd (omega (arith, h.less))
places-pair (x ∷ entries) d zero (suc j) h =
    let y = slice_index_or entries j d in
    let within : j < length entries = omega (arith, h.within) in (
      pair [] x (take j entries) y (drop (suc j) entries),
      record {
        parts = ap (λ l. x ∷ l) (cut entries j d within);
        between = all_upto x.decision entries d j within (λ k small. h.one (suc k) (omega arith) (omega (arith, small)));
        second = h.one (suc j) (omega arith) (omega arith);
        joinable = h.joinable;
      },
      refl,
      omega (arith, length-take-le j entries, within),
    )
places-pair (x ∷ entries) d (suc i) (suc j) h =
    let r = places-pair entries d i j (nearer x entries i j d h) in (
      pair (x ∷ r.0.before) r.0.first r.0.between r.0.second r.0.after,
      record { parts = ap (λ l. x ∷ l) r.1.parts; between = r.1.between; second = r.1.second; joinable = r.1.joinable },
      ap suc r.2,
      omega (arith, r.3),
    )

-- joining by places
pub removed : (between : List Entry) (y : Entry) (after : List Entry) → remove (between ++ (y ∷ after)) (length between) ≡ between ++ after
removed [] y after = refl
removed (b ∷ between) y after = ap (λ l. b ∷ l) (removed between y after)

joined_at : (before : List Entry) (x : Entry) (between : List Entry) (y : Entry) (after : List Entry) (d : Entry) (j : ℕ) → j ≡ suc (length before + length between) →
    (e : Entry) → before ++ (e ∷ between ++ after) ≡ remove (set (before ++ (x ∷ between ++ (y ∷ after))) (length before) e) j
joined_at before x between y after d zero h e = absurd (omega (arith, h))
joined_at [] x between y after d (suc j) h e =
    let f : length between ≡ j = omega (arith, h) in
    ap (λ l. e ∷ l) (sym (removed between y after) ∙ ap (remove (between ++ (y ∷ after))) f)
joined_at (b ∷ before) x between y after d (suc j) h e = ap (λ l. b ∷ l) (joined_at before x between y after d j (omega (arith, h)) e)

second_at : (before : List Entry) (x : Entry) (between : List Entry) (y : Entry) (after : List Entry) (d : Entry) →
    slice_index_or (before ++ (x ∷ between ++ (y ∷ after))) (suc (length before + length between)) d ≡ y
second_at before x between y after d =
    ap (λ l. slice_index_or l (suc (length before + length between)) d) (sym (append_assoc before (x ∷ between) (y ∷ after)))
    ∙ get_or_at (before ++ (x ∷ between)) y after d (suc (length before + length between)) (omega (arith, length-append before (x ∷ between)))

joint_at : (before : List Entry) (x : Entry) (between : List Entry) (y : Entry) (after : List Entry) (d : Entry) → let whole = before ++ (x ∷ between ++ (y ∷ after)) in
    joint x y ≡ joint (slice_index_or whole (length before) d) (slice_index_or whole (suc (length before + length between)) d)
joint_at before x between y after d =
    let e = sym (get_or-append_seam before x (between ++ (y ∷ after)) d) in
    let f = sym (second_at before x between y after d) in
    ap (λ (u : Entry). joint u y) e ∙ ap (joint (slice_index_or (before ++ (x ∷ between ++ (y ∷ after))) (length before) d)) f

pub joined-places : (entries : List Entry) (p : Pair) (d : Entry) → IsPair entries p →
    joined p ≡ remove (set entries (first_place p) (joint (slice_index_or entries (first_place p) d) (slice_index_or entries (second_place p) d))) (second_place p)
joined-places entries p d h =
    let whole = p.before ++ (p.first ∷ p.between ++ (p.second ∷ p.after)) in
    subst (λ es. joined p ≡ remove (set es (first_place p) (joint (slice_index_or es (first_place p) d) (slice_index_or es (second_place p) d))) (second_place p)) (sym h.parts)
    (joined_at p.before p.first p.between p.second p.after d (second_place p) refl (joint p.first p.second)
    ∙ ap (λ e. remove (set whole (first_place p) e) (second_place p)) (joint_at p.before p.first p.between p.second p.after d))
