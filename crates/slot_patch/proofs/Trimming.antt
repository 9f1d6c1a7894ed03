-- What two tables have in common at both ends: the slots that it needs, and its pairs.
use Rattle.std.proofs.Common.{◌≡◌, ◌≤◌, ◌<◌, ◌+◌, ◌-◌, ◌∷◌, ◌++◌, ℕ, zero, suc, min, Bool, true, false, if◌then◌else◌, List, [], Some, length, map, take, drop, get_or, slice_get, refl, ap, sym, ◌∙◌, subst, arith}
use Rattle.std.proofs.lemmas.List.{length-drop, length-take, take-append-drop, take_all}
use Rattle.std.proofs.lemmas.Option.{none-some, slice_get_read, slice_get_within}
use Rattle.ternary_words.specs.declared.entry.Entry.{Entry}
use Rattle.slot_patch.specs.Least.{least_slots, same_word}
use Rattle.slot_patch.specs.Sharing.{AreShared, HaveOneWordAt, IsPairFrom, moved_on, run}
use Rattle.slot_patch.specs.declared.pair.Pair.{Pair}
use Rattle.slot_patch.proofs.Builders.{get-front}
use Rattle.slot_patch.proofs.Fits.{new-more, old-more}

abbrev Same : Type 0
Same = Entry → Entry → Bool

-- one entry more never takes fewer slots

old_less : (same : Same) (a : Entry) (old new : List Entry) → least_slots same old new ≤ least_slots same (a ∷ old) new
old_less same a old [] = omega arith
old_less same a old (b ∷ new) = grind (arith, old_less same a old new, new-more same b old new)

new_less : (same : Same) (b : Entry) (old new : List Entry) → least_slots same old new ≤ least_slots same old (b ∷ new)
new_less same b [] new = omega arith
new_less same b (a ∷ old) new = grind (arith, new_less same b old new, old-more same a old new)

-- one more in both takes one slot more
both_less : (same : Same) (a b : Entry) (old new : List Entry) → suc (least_slots same old new) ≤ least_slots same (a ∷ old) (b ∷ new)
both_less same a b old new = grind (arith, new_less same b old new, old_less same a old new)

new_slots : (same : Same) (old new : List Entry) → length new ≤ least_slots same old new
new_slots same [] new = omega arith
new_slots same (a ∷ old) new = omega (arith, new_slots same old new, old_less same a old new)

none_new : (same : Same) (old : List Entry) → least_slots same old [] ≡ length old
none_new same [] = refl
none_new same (a ∷ old) = ap suc (none_new same old)

old_slots : (same : Same) (old new : List Entry) → length old ≤ least_slots same old new
old_slots same old [] = omega (arith, none_new same old)
old_slots same old (b ∷ new) = omega (arith, old_slots same old new, new_less same b old new)

-- so many entries fewer in front of both
pub least-dropped : (same : Same) (front : ℕ) (old new : List Entry) → front ≤ length old → front ≤ length new →
    front + least_slots same (drop front old) (drop front new) ≤ least_slots same old new
least-dropped same zero old new f g = omega arith
least-dropped same (suc front) (a ∷ old) (b ∷ new) f g =
    omega (arith, least-dropped same front old new (omega (arith, f)) (omega (arith, g)), both_less same a b old new)
least-dropped same front old new f g = absurd (omega (arith, f, g))

-- so many entries fewer at the end of both
pub least-taken : (same : Same) (end m n : ℕ) (old new : List Entry) → length old ≡ m + end → length new ≡ n + end →
    least_slots same (take m old) (take n new) + end ≤ least_slots same old new
least-taken same end zero n old new f g = omega (arith, f, g, length-take n new, new_slots same old new)
least-taken same end (suc m) zero (a ∷ old) new f g =
    omega (arith, f, g, none_new same (take (suc m) (a ∷ old)), length-take (suc m) (a ∷ old), old_slots same (a ∷ old) new)
least-taken same end (suc m) (suc n) (a ∷ old) (b ∷ new) f g =
    let x = least-taken same end m (suc n) old (b ∷ new) (omega (arith, f)) g in
    let y = least-taken same end (suc m) n (a ∷ old) new f (omega (arith, g)) in
    let z = least-taken same end m n old new (omega (arith, f)) (omega (arith, g)) in
    grind (arith, x, y, z)
least-taken same end m n old new f g = absurd (omega (arith, f, g))

-- pairs in a row

pub length-run : (i j count : ℕ) → length (run i j count) ≡ count
length-run i j zero = refl
length-run i j (suc count) = ap suc (length-run (suc i) (suc j) count)

pub run-end : (i j count : ℕ) (p : Pair) → p.old ≡ i + count → p.new ≡ j + count → run i j (suc count) ≡ run i j count ++ p ∷ []
run-end i j zero p f g =
    let one : i ≡ p.old = omega (arith, f) in
    let two : j ≡ p.new = omega (arith, g) in
    ap (λ n. let ps : List Pair = record { old = n; new = j } ∷ [] in ps) one ∙ ap (λ n. let ps : List Pair = record { old = p.old; new = n } ∷ [] in ps) two
run-end i j (suc count) p f g =
    ap (λ (ps : List Pair). record { old = i; new = j } ∷ ps) (run-end (suc i) (suc j) count p (omega (arith, f)) (omega (arith, g)))

-- both entries stand in their tables
pub places-within : (old new : List Entry) (i j : ℕ) → HaveOneWordAt old new i j → (i < length old) × (j < length new)
places-within old new i j w = (slice_get_within old i w.a w.old_at, slice_get_within new j w.b w.new_at)

-- the entries at these places as the code reads them
pub one-word : (old new : List Entry) (i j : ℕ) (a b : Entry) → i < length old → j < length new → a ≡ get_or old i a → b ≡ get_or new j b → same_word a b ≡ true →
    HaveOneWordAt old new i j
one-word old new i j a b f g x y h =
    record { a = a; b = b; old_at = slice_get_read old (length old) i a refl f x; new_at = slice_get_read new (length new) j b refl g y; same = h }

pair_at : (old new : List Entry) (i j : ℕ) → HaveOneWordAt old new i j → IsPairFrom old new i j (record { old = i; new = j })
pair_at old new i j w = record { old_from = omega arith; new_from = omega arith; word = w }

pub run-before : (old new : List Entry) (i j count : ℕ) → HaveOneWordAt old new i j → AreShared old new (suc i) (suc j) (run (suc i) (suc j) count) →
    AreShared old new i j (run i j (suc count))
run-before old new i j count w s = (pair_at old new i j w, s)

pub run-behind : (old new : List Entry) (i j count m n : ℕ) → m ≡ i + count → n ≡ j + count → AreShared old new i j (run i j count) → HaveOneWordAt old new m n →
    AreShared old new i j (run i j (suc count))
run-behind old new i j zero m n f g s w =
    let here = subst (λ k. HaveOneWordAt old new i k) (let e : n ≡ j = omega (arith, g) in e)
    (subst (λ k. HaveOneWordAt old new k n) (let e : m ≡ i = omega (arith, f) in e) w) in
    run-before old new i j 0 here (places-within old new i j here)
run-behind old new i j (suc count) m n f g s w = (s.0, run-behind old new (suc i) (suc j) count m n (omega (arith, f)) (omega (arith, g)) s.1 w)

-- pairs behind a row of others

pub run-shared : (old new : List Entry) (i j count m n : ℕ) (pairs : List Pair) → m ≡ i + count → n ≡ j + count → AreShared old new i j (run i j count) →
    AreShared old new m n pairs → AreShared old new i j (run i j count ++ pairs)
run-shared old new i j zero m n pairs f g r s =
    subst (λ k. AreShared old new i k pairs) (let e : n ≡ j = omega (arith, g) in e) (subst (λ k. AreShared old new k n pairs) (let e : m ≡ i = omega (arith, f) in e) s)
run-shared old new i j (suc count) m n pairs f g r s = (r.0, run-shared old new (suc i) (suc j) count m n pairs (omega (arith, f)) (omega (arith, g)) r.1 s)

at_dropped : (xs : List Entry) (front k : ℕ) (x : Entry) → slice_get (drop front xs) k ≡ Some x → slice_get xs (front + k) ≡ Some x
at_dropped xs zero k x h = subst (λ n. slice_get xs n ≡ Some x) (let e : k ≡ 0 + k = omega arith in e) h
at_dropped [] (suc front) k x h = absurd (none-some x h)
at_dropped (y ∷ xs) (suc front) k x h = subst (λ n. slice_get (y ∷ xs) n ≡ Some x) (let e : suc (front + k) ≡ suc front + k = omega arith in e) (at_dropped xs front k x h)

pub moved-shared : (old new : List Entry) (front i j : ℕ) (pairs : List Pair) → front ≤ length old → front ≤ length new → AreShared (drop front old) (drop front new) i j pairs →
    AreShared old new (front + i) (front + j) (map (moved_on front) pairs)
moved-shared old new front i j [] f g s =
    (omega (arith, f, length-drop front old, s.0), omega (arith, g, length-drop front new, s.1))
moved-shared old new front i j (p ∷ pairs) f g s =
    let w = s.0.word in (
      record {
        old_from = omega (arith, s.0.old_from);
        new_from = omega (arith, s.0.new_from);
        word = record { a = w.a; b = w.b; old_at = at_dropped old front p.old w.a w.old_at; new_at = at_dropped new front p.new w.b w.new_at; same = w.same };
      },
      subst (λ k. AreShared old new (suc (front + p.old)) k (map (moved_on front) pairs)) (let e : front + suc p.new ≡ suc (front + p.new) = omega arith in e)
          (subst (λ k. AreShared old new k (front + suc p.new) (map (moved_on front) pairs)) (let e : front + suc p.old ≡ suc (front + p.old) = omega arith in e)
          (moved-shared old new front (suc p.old) (suc p.new) pairs f g s.1)),
    )

rest_behind : (front : ℕ) (xs : List Entry) → take (length xs - front) (drop front xs) ≡ drop front xs
rest_behind front xs = take_all (length xs - front) (drop front xs) (omega (arith, length-drop front xs))

-- what holds of the slices behind a front
pub of-rests : (P : List Entry → List Entry → Type 0) (front : ℕ) (old new : List Entry) →
    P (take (length old - front) (drop front old)) (take (length new - front) (drop front new)) → P (drop front old) (drop front new)
of-rests P front old new h =
    subst (λ (es : List Entry). P (drop front old) es) (rest_behind front new)
    (subst (λ (es : List Entry). P es (take (length new - front) (drop front new))) (rest_behind front old) h)

-- pairs before others

at_taken : (xs : List Entry) (m k : ℕ) (x : Entry) → slice_get (take m xs) k ≡ Some x → slice_get xs k ≡ Some x
at_taken xs m k x h =
    ap (λ (es : List Entry). slice_get es k) (sym (take-append-drop m xs)) ∙ get-front (take m xs) (drop m xs) k (slice_get_within (take m xs) k x h) ∙ h

-- pairs from later places on are pairs from earlier ones on
pub shared-from : (old new : List Entry) (i j m n : ℕ) (pairs : List Pair) → m ≤ i → n ≤ j → AreShared old new i j pairs → AreShared old new m n pairs
shared-from old new i j m n [] f g s = (omega (arith, f, s.0), omega (arith, g, s.1))
shared-from old new i j m n (p ∷ pairs) f g s =
    (record { old_from = omega (arith, f, s.0.old_from); new_from = omega (arith, g, s.0.new_from); word = s.0.word }, s.1)

pub taken-shared : (old new : List Entry) (i j m n : ℕ) (pairs more : List Pair) → AreShared (take m old) (take n new) i j pairs → AreShared old new m n more →
    AreShared old new i j (pairs ++ more)
taken-shared old new i j m n [] more s t =
    shared-from old new m n i j more (omega (arith, length-take m old, s.0)) (omega (arith, length-take n new, s.1)) t
taken-shared old new i j m n (p ∷ pairs) more s t =
    let w = s.0.word in (
      record {
        old_from = s.0.old_from;
        new_from = s.0.new_from;
        word = record { a = w.a; b = w.b; old_at = at_taken old m p.old w.a w.old_at; new_at = at_taken new n p.new w.b w.new_at; same = w.same };
      },
      taken-shared old new (suc p.old) (suc p.new) m n pairs more s.1 t,
    )

-- all pairs stand in both tables
pub pair-within : (old new : List Entry) (i j k : ℕ) (pairs : List Pair) (p : Pair) → AreShared old new i j pairs → slice_get pairs k ≡ Some p →
    (p.old < length old) × (p.new < length new)
pair-within old new i j k [] p s h = absurd (none-some p h)
pair-within old new i j zero (q ∷ pairs) p s h =
    subst (λ (r : Pair). (r.old < length old) × (r.new < length new)) (let one : q ≡ p = cc in one) (places-within old new q.old q.new s.0.word)
pair-within old new i j (suc k) (q ∷ pairs) p s h = pair-within old new (suc q.old) (suc q.new) k pairs p s.1 h
