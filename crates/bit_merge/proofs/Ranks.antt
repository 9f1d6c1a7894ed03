-- The entries of words at places, of which some are empty: how many stand before a place.
use Rattle.std.proofs.Common.{◌≡◌, ◌∷◌, ℕ, ◌<◌, ◌≤◌, List, [], length, get_or, set, ap, refl, arith, Option, Some, None, suc, zero, remove}
use Rattle.ternary_words.specs.Headline.Table.{Entry}
use Rattle.ternary_words.specs.Views.{word_of}
use Rattle.ternary_words.specs.declared.word.Word.{Word}
use Rattle.bit_merge.specs.Slots.{Slots, at, entries_of}

abbrev pub entry : Option (List ℕ) → Word → Entry
entry d w = record { word = word_of w; decision = d }

-- how many words stand before the place
abbrev pub rank : Slots → ℕ → ℕ
rank [] k = 0
rank (s ∷ slots) zero = 0
rank (None ∷ slots) (suc k) = rank slots k
rank (Some w ∷ slots) (suc k) = suc (rank slots k)

pub rank-within : (d : Option (List ℕ)) (slots : Slots) (k : ℕ) (w : Word) → at slots k ≡ Some w → rank slots k < length (entries_of d slots)
rank-within d (Some v ∷ slots) zero w h = omega arith
rank-within d (None ∷ slots) (suc k) w h = rank-within d slots k w h
rank-within d (Some v ∷ slots) (suc k) w h = omega (arith, rank-within d slots k w h)
rank-within d slots k w h = absurd (cc h)

pub at-rank : (d : Option (List ℕ)) (e : Entry) (slots : Slots) (k : ℕ) (w : Word) → at slots k ≡ Some w → get_or (entries_of d slots) (rank slots k) e ≡ entry d w
at-rank d e (Some v ∷ slots) zero w h = let f : v ≡ w = cc h in ap (entry d) f
at-rank d e (None ∷ slots) (suc k) w h = at-rank d e slots k w h
at-rank d e (Some v ∷ slots) (suc k) w h = at-rank d e slots k w h
at-rank d e slots k w h = absurd (cc h)

pub rank-le : (slots : Slots) (k l : ℕ) → k ≤ l → rank slots k ≤ rank slots l
rank-le (s ∷ slots) (suc k) zero h = absurd (omega (arith, h))
rank-le (None ∷ slots) (suc k) (suc l) h = rank-le slots k l (omega (arith, h))
rank-le (Some w ∷ slots) (suc k) (suc l) h = omega (arith, rank-le slots k l (omega (arith, h)))
rank-le slots k l h = omega arith

pub rank-less : (slots : Slots) (k l : ℕ) (w : Word) → at slots k ≡ Some w → k < l → rank slots k < rank slots l
rank-less (s ∷ slots) k zero w e h = absurd (omega (arith, h))
rank-less (Some v ∷ slots) zero (suc l) w e h = omega arith
rank-less (None ∷ slots) (suc k) (suc l) w e h = rank-less slots k l w e (omega (arith, h))
rank-less (Some v ∷ slots) (suc k) (suc l) w e h = omega (arith, rank-less slots k l w e (omega (arith, h)))
rank-less slots k l w e h = absurd (cc e)

-- a word in the place of another
pub entries-set : (d : Option (List ℕ)) (slots : Slots) (k : ℕ) (a w : Word) → at slots k ≡ Some a →
    entries_of d (set slots k (Some w)) ≡ set (entries_of d slots) (rank slots k) (entry d w)
entries-set d (Some v ∷ slots) zero a w h = refl
entries-set d (None ∷ slots) (suc k) a w h = entries-set d slots k a w h
entries-set d (Some v ∷ slots) (suc k) a w h = ap (λ l. entry d v ∷ l) (entries-set d slots k a w h)
entries-set d slots k a w h = absurd (cc h)

pub rank-set : (slots : Slots) (k l : ℕ) (a w : Word) → at slots k ≡ Some a → rank (set slots k (Some w)) l ≡ rank slots l
rank-set [] k l a w h = absurd (cc h)
rank-set (None ∷ slots) zero l a w h = absurd (cc h)
rank-set (None ∷ slots) (suc k) (suc l) a w h = rank-set slots k l a w h
rank-set (Some v ∷ slots) (suc k) (suc l) a w h = ap suc (rank-set slots k l a w h)
rank-set slots k l a w h = refl

-- and without a word
pub entries-none : (d : Option (List ℕ)) (slots : Slots) (k : ℕ) (a : Word) → at slots k ≡ Some a →
    entries_of d (set slots k None) ≡ remove (entries_of d slots) (rank slots k)
entries-none d (Some v ∷ slots) zero a h = refl
entries-none d (None ∷ slots) (suc k) a h = entries-none d slots k a h
entries-none d (Some v ∷ slots) (suc k) a h = ap (λ l. entry d v ∷ l) (entries-none d slots k a h)
entries-none d slots k a h = absurd (cc h)

-- the place of an entry
pub record Stands (d : Option (List ℕ)) (slots : Slots) (n : ℕ) : Type 0 where
  pub place : ℕ
  pub word : Word
  pub here : at slots place ≡ Some word
  pub rank : rank slots place ≡ n

pub stands : (d : Option (List ℕ)) (slots : Slots) (n : ℕ) → n < length (entries_of d slots) → Stands d slots n
stands d [] n h = absurd (omega (arith, h))
stands d (None ∷ slots) n h = let s = stands d slots n h in record { place = suc s.place; word = s.word; here = s.here; rank = s.rank }
stands d (Some v ∷ slots) zero h = record { place = 0; word = v; here = refl; rank = refl }
stands d (Some v ∷ slots) (suc n) h =
    let s = stands d slots n (omega (arith, h)) in record { place = suc s.place; word = s.word; here = s.here; rank = ap suc s.rank }

-- all decide one thing
pub one-decision : (d : Option (List ℕ)) (e : Entry) (slots : Slots) (n : ℕ) → n < length (entries_of d slots) → (get_or (entries_of d slots) n e).decision ≡ d
one-decision d e [] n h = absurd (omega (arith, h))
one-decision d e (None ∷ slots) n h = one-decision d e slots n h
one-decision d e (Some v ∷ slots) zero h = refl
one-decision d e (Some v ∷ slots) (suc n) h = one-decision d e slots n (omega (arith, h))
