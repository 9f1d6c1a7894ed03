-- Two writes to one slot, one right behind the other, as one.
use Rattle.std.proofs.Common.{◌≡◌, ◌⊎◌, ◌≤◌, ◌<◌, ◌∷◌, ◌++◌, ℕ, zero, suc, List, [], Some, option_map, length, set, slice_get, inl, inr, refl, ap, sym, ◌∙◌, subst, arith, append_assoc, length-append}
use Rattle.std.proofs.lemmas.Bool.{cases_lt}
use Rattle.std.proofs.lemmas.List.{set-set}
use Rattle.tcam_sim.specs.Slots.{stored}
use Rattle.bank_update.specs.Standing.{Bank}
use Rattle.slot_patch.specs.Banks.{decided}
use Rattle.slot_patch.specs.Phases.{Clearing, IsNoLater}
use Rattle.slot_patch.specs.Plans.{IsPatch}
use Rattle.bank_update.specs.Plans.{SayWhatStood, after, written}
use Rattle.bank_update.specs.declared.write.Write.{Write}

-- the two writes as one
abbrev pub joint : Write → Write → Write
joint w v = record { slot = w.slot; before = w.before; entry = v.entry }

-- the number of writes before the joint where there are so many behind it: the state between the two is left out
abbrev skip : ℕ → ℕ → ℕ
skip zero zero = zero
skip zero (suc d) = suc (suc d)
skip (suc n) zero = zero
skip (suc n) (suc d) = suc (skip n d)

skip_on : (n d e : ℕ) → d ≤ e → skip n d ≤ skip n e
skip_on zero zero e h = omega arith
skip_on zero (suc d) (suc e) h = omega (arith, h)
skip_on (suc n) (suc d) (suc e) h = omega (arith, skip_on n d e (omega (arith, h)))
skip_on n d e h = omega arith

skip_most : (n d : ℕ) → skip n d ≤ suc d
skip_most zero (suc d) = omega arith
skip_most (suc n) (suc d) = omega (arith, skip_most n d)
skip_most n d = omega arith

skip_behind : (n d : ℕ) → n < d → skip n d ≡ suc d
skip_behind zero (suc d) h = refl
skip_behind (suc n) (suc d) h = ap suc (skip_behind n d (omega (arith, h)))
skip_behind n d h = omega arith

-- how many of the states are among the first ones
abbrev cut : ℕ → ℕ → ℕ
cut n zero = zero
cut zero (suc zero) = suc zero
cut zero (suc (suc m)) = suc m
cut (suc n) (suc m) = suc (cut n m)

below_cut : (n m d : ℕ) → d < cut n m → skip n d < m
below_cut zero (suc zero) zero h = omega arith
below_cut zero (suc (suc m)) (suc d) h = omega (arith, h)
below_cut (suc n) (suc m) (suc d) h = omega (arith, below_cut n m d (omega (arith, h)))
below_cut n m d h = omega arith

above_cut : (n m d : ℕ) → cut n m ≤ d → m ≤ skip n d
above_cut zero (suc zero) (suc d) h = omega arith
above_cut zero (suc (suc m)) (suc d) h = omega (arith, h)
above_cut (suc n) (suc m) (suc d) h = omega (arith, above_cut n m d (omega (arith, h)))
above_cut n m d h = omega arith

cut_case : (n m all : ℕ) → n < all → m ≤ suc all → (all < cut n m) ⊎ (cut n m ≤ all) → cut n m ≤ all
cut_case n m all less most (inl more) = let low = below_cut n m all more in let is = skip_behind n all less in absurd (omega (arith, low, is, most))
cut_case n m all less most (inr le) = le

-- the states

pub after-first : (old : Bank) (w : Write) (writes : List Write) (d : ℕ) → after old (w ∷ writes) (suc d) ≡ after (written old (Some w)) writes d
after-first old w writes zero = refl
after-first old w writes (suc d) = ap (λ (bank : Bank). written bank (slice_get writes d)) (after-first old w writes d)

one_write : (old : Bank) (w v : Write) → v.slot ≡ w.slot → written old (Some (joint w v)) ≡ written (written old (Some w)) (Some v)
one_write old w v same =
    sym (ap (λ n. set (set old w.slot (option_map stored w.entry)) n (option_map stored v.entry)) same ∙ set-set old w.slot (option_map stored w.entry) (option_map stored v.entry))

same_after : (front : List Write) (w v : Write) (rest : List Write) (old : Bank) (d : ℕ) → v.slot ≡ w.slot →
    after old (front ++ joint w v ∷ rest) d ≡ after old (front ++ w ∷ v ∷ rest) (skip (length front) d)
same_after [] w v rest old zero same = refl
same_after [] w v rest old (suc d) same =
    after-first old (joint w v) rest d ∙ ap (λ (bank : Bank). after bank rest d) (one_write old w v same)
    ∙ sym (after-first old w (v ∷ rest) (suc d) ∙ after-first (written old (Some w)) v rest d)
same_after (f ∷ front) w v rest old zero same = refl
same_after (f ∷ front) w v rest old (suc d) same =
    after-first old f (front ++ joint w v ∷ rest) d ∙ same_after front w v rest (written old (Some f)) d same
    ∙ sym (after-first old f (front ++ w ∷ v ∷ rest) (skip (length front) d))

found_at : (front : List Write) (w v : Write) (rest : List Write) (d : ℕ) (u : Write) → slice_get (front ++ joint w v ∷ rest) d ≡ Some u →
    (slice_get (front ++ w ∷ v ∷ rest) (skip (length front) d) ≡ Some u) ⊎ ((joint w v ≡ u) × (slice_get (front ++ w ∷ v ∷ rest) (skip (length front) d) ≡ Some w))
found_at [] w v rest zero u h = inr (let e : joint w v ≡ u = cc in e, refl)
found_at [] w v rest (suc d) u h = inl h
found_at (f ∷ front) w v rest zero u h = inl h
found_at (f ∷ front) w v rest (suc d) u h = found_at front w v rest d u h

stood_case : (old : Bank) (front : List Write) (w v : Write) (rest : List Write) (d : ℕ) (u : Write) → v.slot ≡ w.slot → SayWhatStood old (front ++ w ∷ v ∷ rest) →
    (slice_get (front ++ w ∷ v ∷ rest) (skip (length front) d) ≡ Some u) ⊎ ((joint w v ≡ u) × (slice_get (front ++ w ∷ v ∷ rest) (skip (length front) d) ≡ Some w)) →
    slice_get (after old (front ++ joint w v ∷ rest) d) u.slot ≡ Some (option_map stored u.before)
stood_case old front w v rest d u same stood (inl h) =
    ap (λ (bank : Bank). slice_get bank u.slot) (same_after front w v rest old d same) ∙ stood (skip (length front) d) u h
stood_case old front w v rest d u same stood (inr h) =
    subst (λ (x : Write). slice_get (after old (front ++ joint w v ∷ rest) d) x.slot ≡ Some (option_map stored x.before)) h.0
    (ap (λ (bank : Bank). slice_get bank w.slot) (same_after front w v rest old d same) ∙ stood (skip (length front) d) w h.1)

pub joined-patch : (old new : Bank) (front : List Write) (w v : Write) (rest : List Write) → v.slot ≡ w.slot → IsPatch old new (front ++ w ∷ v ∷ rest) → IsPatch old new (front ++ joint w v ∷ rest)
joined-patch old new front w v rest same p =
    let n = length front in
    let two = front ++ w ∷ v ∷ rest in
    let one = front ++ joint w v ∷ rest in
    let l = p.leads in
    let long_two = length-append front (w ∷ v ∷ rest) in
    let long_one = length-append front (joint w v ∷ rest) in
    let most = λ (d : ℕ) (h : d ≤ length one). (let s = skip_most n d in let r : skip n d ≤ length two = omega (arith, s, h, long_two, long_one) in r) in
    let all : skip n (length one) ≡ length two =
    skip_behind n (length one) (omega (arith, long_one)) ∙ (let e : suc (length one) ≡ length two = omega (arith, long_two, long_one) in e) in
    record {
      start = p.start;
      alike = p.alike;
      words = p.words;
      leads = record {
        moves = cut n l.moves;
        few = (let few = l.few in cut_case n l.moves (length one) (omega (arith, long_one)) (omega (arith, few, long_two, long_one)) (cases_lt (length one) (cut n l.moves)));
        stays = λ d h values. ap (λ (bank : Bank). decided bank values) (same_after front w v rest old d same) ∙ l.stays (skip n d) (below_cut n l.moves d h) values;
        phase = λ d. l.phase (skip n d);
        way = λ d h le. same_after front w v rest old d same ∙ l.way (skip n d) (above_cut n l.moves d h) (most d le);
        later = λ d e h le up. l.later (skip n d) (skip n e) (above_cut n l.moves d h) (skip_on n d e le) (most e up);
        last = subst (λ (m : ℕ). IsNoLater (l.phase m) (Clearing 0)) (sym all) l.last;
        ends = same_after front w v rest old (length one) same ∙ ap (after old two) all ∙ l.ends;
        stood = λ d u h. stood_case old front w v rest d u same l.stood (found_at front w v rest d u h);
      };
    }

-- what is put down before the rest

pub put-joint : (old new : Bank) (before now front : List Write) (w v : Write) (rest : List Write) → v.slot ≡ w.slot → before ≡ front ++ w ∷ [] → now ≡ front ++ joint w v ∷ [] →
    IsPatch old new (before ++ v ∷ rest) → IsPatch old new (now ++ rest)
put-joint old new before now front w v rest same is made h =
    let two = subst (IsPatch old new) (ap (λ (ws : List Write). ws ++ v ∷ rest) is ∙ append_assoc front (w ∷ []) (v ∷ rest)) h in
    subst (IsPatch old new) (sym (append_assoc front (joint w v ∷ []) rest) ∙ ap (λ (ws : List Write). ws ++ rest) (sym made)) (joined-patch old new front w v rest same two)
