-- Each table has one merged table.
use Rattle.std.proofs.Common.{◌≡◌, ◌⊎◌, ◌≤◌, ◌<◌, ◌+◌, ℕ, List, length, ap, refl, sym, ◌∙◌, subst, arith, inl, inr, suc, zero, length-append}
use Rattle.ternary_words.specs.Headline.Table.{Entry, answer}
use Rattle.bit_merge.specs.Merge.{Pair, IsPair, IsClosed, IsFirstPair, joined, MergedIn}
use Rattle.bit_merge.proofs.Joined.{joined-alike}
use Rattle.bit_merge.proofs.Tight.{IsTight, joined-tight}
use Rattle.bit_merge.proofs.First.{first_or, one-first}

pub joined-shorter : (entries : List Entry) (p : Pair) → IsPair entries p → length (joined p) + 1 ≡ length entries
joined-shorter entries p h =
    rw h.parts (simp length-append (omega arith))

some_step : (entries : List Entry) → ((es : List Entry) → length es < length entries → (n : ℕ) × (out : List Entry) × MergedIn n es out) →
    IsClosed entries ⊎ ((p : Pair) × IsFirstPair entries p) → (n : ℕ) × (out : List Entry) × MergedIn n entries out
some_step entries f (inl closed) = (zero, entries, (closed, refl))
some_step entries f (inr r) =
    let m = f (joined r.0) (omega (arith, joined-shorter entries r.0 r.1.pair)) in (suc m.0, m.1, (r.0, r.1, m.2))

some_below : (bound : ℕ) (entries : List Entry) → length entries ≤ bound → (n : ℕ) × (out : List Entry) × MergedIn n entries out
some_below zero entries l = some_step entries (λ es s. absurd (omega (arith, l, s))) (first_or entries)
some_below (suc bound) entries l = some_step entries (λ es s. some_below bound es (omega (arith, l, s))) (first_or entries)

-- each table has a merged one
pub some-merged : (entries : List Entry) → (n : ℕ) × (out : List Entry) × MergedIn n entries out
some-merged entries = some_below (length entries) entries (omega arith)

-- and only one
pub one-merged : (n m : ℕ) (entries xs ys : List Entry) → MergedIn n entries xs → MergedIn m entries ys → (n ≡ m) × (xs ≡ ys)
one-merged zero zero entries xs ys h k = (refl, h.1 ∙ sym k.1)
one-merged zero (suc m) entries xs ys h k = absurd (h.0 k.0 k.1.pair)
one-merged (suc n) zero entries xs ys h k = absurd (k.0 h.0 h.1.pair)
one-merged (suc n) (suc m) entries xs ys h k =
    let e = one-first entries h.0 k.0 h.1 k.1 in
    let r = one-merged n m (joined k.0) xs ys (subst (λ (p : Pair). MergedIn n (joined p) xs) e h.2) k.2 in (ap suc r.0, r.1)

pub merged-closed : (n : ℕ) (entries out : List Entry) → MergedIn n entries out → IsClosed out
merged-closed zero entries out h = subst IsClosed (sym h.1) h.0
merged-closed (suc n) entries out h = merged-closed n (joined h.0) out h.2

pub merged-shorter : (n : ℕ) (entries out : List Entry) → MergedIn n entries out → length out + n ≡ length entries
merged-shorter zero entries out h = rw h.1 (omega arith)
merged-shorter (suc n) entries out h = omega (arith, merged-shorter n (joined h.0) out h.2, joined-shorter entries h.0 h.1.pair)

pub merged-alike : (n : ℕ) (entries out : List Entry) (key : List ℕ) → MergedIn n entries out → answer out key ≡ answer entries key
merged-alike zero entries out key h = ap (λ es. answer es key) h.1
merged-alike (suc n) entries out key h = merged-alike n (joined h.0) out key h.2 ∙ joined-alike entries h.0 key h.1.pair

pub merged-tight : (IsKey : List ℕ → Type 0) (n : ℕ) (entries out : List Entry) → MergedIn n entries out → IsTight IsKey entries → IsTight IsKey out
merged-tight IsKey zero entries out h t = subst (IsTight IsKey) (sym h.1) t
merged-tight IsKey (suc n) entries out h t = merged-tight IsKey n (joined h.0) out h.2 (joined-tight IsKey entries h.0 h.1.pair t)
