-- Parts of tables.
use Rattle.std.proofs.Common.{◌≡◌, ◌∷◌, ℕ, List, [], Bool, true, false, ◌+◌, ◌<◌, ◌≤◌, ap, refl, sym, ◌∙◌, arith, length, suc, zero, inl, inr, cond, subst}
use Rattle.std.specs.Prelude.{All}
use Rattle.std.specs.List.{remove}
use Rattle.field_boxes.specs.Alike.{AreAlike}
use Rattle.ternary_words.specs.declared.entry.Entry.{Entry}
use Rattle.ternary_words.specs.Entries.{answer, IsPart}
use Rattle.ternary_words.specs.Limits.{AreNumbered}
use Rattle.ternary_words.specs.Prefixes.{IsPrefixInEach}
use Rattle.ternary_words.specs.Views.{word_of}
use Rattle.table_steps.specs.Shortened.{IsShortened}

pub part-same : (xs : List Entry) → IsPart xs xs
part-same [] = refl
part-same (x ∷ xs) = inl (xs, refl, part-same xs)

-- with an entry less
pub part-removed : (xs : List Entry) (k : ℕ) → IsPart (remove xs k) xs
part-removed [] zero = refl
part-removed [] (suc k) = refl
part-removed (x ∷ xs) zero = inr (part-same xs)
part-removed (x ∷ xs) (suc k) = inl (remove xs k, refl, part-removed xs k)

pub part-then : (xs ys zs : List Entry) → IsPart xs ys → IsPart ys zs → IsPart xs zs
part-then xs ys [] f g = subst (λ l. IsPart xs l) g f
part-then xs ys (z ∷ zs) f (inr g) = inr (part-then xs ys zs f g)
part-then xs ys (z ∷ zs) f (inl g) = elim (subst (λ l. IsPart xs l) g.1 f) [
  | inl h ↦ inl (h.0, h.1, part-then h.0 g.0 zs h.2 g.2)
  | inr h ↦ inr (part-then xs g.0 zs h g.2)
]

pub part-length : (xs ys : List Entry) → IsPart xs ys → length xs ≤ length ys
part-length xs [] h = omega (arith, ap length h)
part-length xs (y ∷ ys) (inl h) = omega (arith, ap length h.1, part-length h.0 ys h.2)
part-length xs (y ∷ ys) (inr h) = omega (arith, part-length xs ys h)

-- what holds of each entry
fewer_all : (P : Entry → Type 0) (x : Entry) (xs : List Entry) → All P (x ∷ xs) → All P xs
fewer_all P x xs h k d less = h (suc k) d (omega (arith, less))

with_all : (P : Entry → Type 0) (x : Entry) (xs : List Entry) → P x → All P xs → All P (x ∷ xs)
with_all P x xs first h zero d less = first
with_all P x xs first h (suc k) d less = h k d (omega (arith, less))

part_all : (P : Entry → Type 0) (xs ys : List Entry) → IsPart xs ys → All P ys → All P xs
part_all P xs [] h all = subst (λ (es : List Entry). All P es) (sym h) all
part_all P xs (y ∷ ys) (inl h) all =
    subst (λ (es : List Entry). All P es) (sym h.1) (with_all P y h.0 (all 0 y (omega arith)) (part_all P h.0 ys h.2 (fewer_all P y ys all)))
part_all P xs (y ∷ ys) (inr h) all = part_all P xs ys h (fewer_all P y ys all)

pub part-numbered : (count : ℕ) (xs ys : List Entry) → IsPart xs ys → AreNumbered count ys → AreNumbered count xs
part-numbered count = part_all (λ e. e.decision ≤ count)

pub part-prefixes : (xs ys : List Entry) → IsPart xs ys → All (λ e. IsPrefixInEach (word_of e.word)) ys → All (λ e. IsPrefixInEach (word_of e.word)) xs
part-prefixes = part_all (λ e. IsPrefixInEach (word_of e.word))

-- tables that get shorter
length_removed : (xs : List Entry) (k : ℕ) → k < length xs → length (remove xs k) + 1 ≡ length xs
length_removed [] k h = absurd (omega (arith, h))
length_removed (x ∷ xs) zero h = omega arith
length_removed (x ∷ xs) (suc k) h = omega (arith, length_removed xs k (omega (arith, h)))

pub shortened-start : (xs : List Entry) → IsShortened xs xs
shortened-start xs = record { alike = λ h is. refl; part = part-same xs }

pub shortened-removed : (xs new : List Entry) (k : ℕ) → new ≡ remove xs k → AreAlike (answer (remove xs k)) (answer xs) → IsShortened xs new
shortened-removed xs new k is alike = subst (λ (ys : List Entry). IsShortened xs ys) (sym is) record { alike = alike; part = part-removed xs k }

shortened_then : (xs ys zs : List Entry) → IsShortened xs ys → IsShortened ys zs → IsShortened xs zs
shortened_then xs ys zs f g = record { alike = λ h is. g.alike h is ∙ f.alike h is; part = part-then zs ys xs g.part f.part }

length_taken : (old new : List Entry) (place k : ℕ) (taken : Bool) → k + 1 ≡ place → place ≤ length old → new ≡ cond taken (remove old k) old → k ≤ length new
length_taken old new place k true e less is = omega (arith, e, less, ap length is, length_removed old k (omega (arith, e, less)))
length_taken old new place k false e less is = omega (arith, e, less, ap length is)

pub shortened-next : (start old new : List Entry) (place k : ℕ) (taken : Bool) → k + 1 ≡ place → place ≤ length old → new ≡ cond taken (remove old k) old → IsShortened old new →
    IsShortened start old → (k ≤ length new) × IsShortened start new
shortened-next start old new place k taken e less is step so = (length_taken old new place k taken e less is, shortened_then start old new so step)
