-- A joining of words at places, and words that are merged.
use Rattle.std.proofs.Common.{◌≡◌, ◌⊎◌, ◌∷◌, ℕ, ◌<◌, ◌≤◌, List, [], length, get_or, set, ap, sym, subst, ◌∙◌, arith, Option, Some, None, inl, inr, suc, zero, remove}
use Rattle.std.proofs.lemmas.Bool.{cases_lt}
use Rattle.ternary_words.specs.Headline.Table.{Entry}
use Rattle.ternary_words.specs.Views.{word_of}
use Rattle.ternary_words.specs.declared.word.Word.{Word}
use Rattle.bit_merge.specs.Merge.{CanJoin, join, joint, MergedIn, IsMerged}
use Rattle.bit_merge.specs.Slots.{Slots, at, entries_of, LeadTo, AreDone}
use Rattle.bit_merge.proofs.ByPlace.{ArePlaces, AreFirstPlaces, joined_at}
use Rattle.bit_merge.proofs.Steps.{places-step, places-end}
use Rattle.bit_merge.proofs.Ranks.{entry, rank, rank-within, at-rank, rank-le, rank-less, entries-set, rank-set, entries-none, Stands, stands, one-decision}

-- the words at the least places that can be joined
pub record AreFirst (slots : Slots) (i j : ℕ) (a b : Word) : Type 0 where
  pub less : i < j
  pub here : at slots i ≡ Some a
  pub there : at slots j ≡ Some b
  pub joinable : CanJoin (word_of a) (word_of b)
  pub least : (k l : ℕ) (x y : Word) → k < l → at slots k ≡ Some x → at slots l ≡ Some y → CanJoin (word_of x) (word_of y) → (i < k) ⊎ ((i ≡ k) × (j ≤ l))

-- places of entries are places of words
record Both (d : Option (List ℕ)) (e : Entry) (slots : Slots) (k l : ℕ) : Type 0 where
  first : Stands d slots k
  second : Stands d slots l
  less : first.place < second.place
  joinable : CanJoin (word_of first.word) (word_of second.word)

both : (d : Option (List ℕ)) (e : Entry) (slots : Slots) (k l : ℕ) → ArePlaces (entries_of d slots) e k l → Both d e slots k l
both d e slots k l h =
    let s = stands d slots k (omega (arith, h.less, h.within)) in
    let t = stands d slots l h.within in
    let fe : get_or (entries_of d slots) k e ≡ entry d s.word = ap (λ n. get_or (entries_of d slots) n e) (sym s.rank) ∙ at-rank d e slots s.place s.word s.here in
    let te : get_or (entries_of d slots) l e ≡ entry d t.word = ap (λ n. get_or (entries_of d slots) n e) (sym t.rank) ∙ at-rank d e slots t.place t.word t.here in
    record {
      first = s;
      second = t;
      less = elim (cases_lt s.place t.place) [
        | inl m ↦ m
        | inr m ↦ let r = rank-le slots t.place s.place m in absurd (omega (arith, r, s.rank, t.rank, h.less))
      ];
      joinable = subst (λ (u : Entry). CanJoin (word_of s.word) u.word) te (subst (λ (u : Entry). CanJoin u.word (get_or (entries_of d slots) l e).word) fe h.joinable);
    }

ranks : (slots : Slots) (i j k l x y : ℕ) (a : Word) → at slots i ≡ Some a → (i < k) ⊎ ((i ≡ k) × (j ≤ l)) → rank slots k ≡ x → rank slots l ≡ y →
    (rank slots i < x) ⊎ ((rank slots i ≡ x) × (rank slots j ≤ y))
ranks slots i j k l x y a h (inl m) e f = inl (omega (arith, rank-less slots i k a h m, e))
ranks slots i j k l x y a h (inr m) e f = inr (ap (rank slots) m.0 ∙ e, omega (arith, rank-le slots j l m.1, f))

first_places : (d : Option (List ℕ)) (e : Entry) (slots : Slots) (i j : ℕ) (a b : Word) → AreFirst slots i j a b → AreFirstPlaces (entries_of d slots) e (rank slots i) (rank slots j)
first_places d e slots i j a b f =
    let es = entries_of d slots in
    let within = rank-within d slots j b f.there in
    let less = rank-less slots i j a f.here f.less in
    record {
      places = record {
        less = less;
        within = within;
        one = λ k more small. one-decision d e slots k (omega (arith, small, within)) ∙ sym (one-decision d e slots (rank slots i) (omega (arith, less, within)));
        joinable = subst (λ (u : Entry). CanJoin u.word (get_or es (rank slots j) e).word) (sym (at-rank d e slots i a f.here))
            (subst (λ (u : Entry). CanJoin (word_of a) u.word) (sym (at-rank d e slots j b f.there)) f.joinable);
      };
      least = λ k l h.
          let t = both d e slots k l h in
          ranks slots i j t.first.place t.second.place k l a f.here
          (f.least t.first.place t.second.place t.first.word t.second.word t.less t.first.here t.second.here t.joinable) t.first.rank t.second.rank;
    }

-- the words with the join at the first place, and without the second one
pub joined-slots : (d : Option (List ℕ)) (e : Entry) (slots : Slots) (i j : ℕ) (a b w : Word) → AreFirst slots i j a b → word_of w ≡ join (word_of a) (word_of b) →
    at (set slots i (Some w)) j ≡ Some b → entries_of d (set (set slots i (Some w)) j None) ≡ joined_at (entries_of d slots) e (rank slots i) (rank slots j)
joined-slots d e slots i j a b w f h there =
    let es = entries_of d slots in
    let x = at-rank d e slots i a f.here in
    let y = at-rank d e slots j b f.there in
    let made : entry d w ≡ joint (get_or es (rank slots i) e) (get_or es (rank slots j) e) =
    ap (λ t. let u : Entry = record { word = t; decision = d } in u) h ∙ ap (λ (u : Entry). joint u (entry d b)) (sym x) ∙ ap (joint (get_or es (rank slots i) e)) (sym y) in
    entries-none d (set slots i (Some w)) j b there
    ∙ ap (remove (entries_of d (set slots i (Some w)))) (rank-set slots i j a w f.here)
    ∙ ap (λ l. remove l (rank slots j)) (entries-set d slots i a w f.here ∙ ap (set es (rank slots i)) made)

pub lead-step : (slots now : Slots) (i j : ℕ) (a b w : Word) → AreFirst slots i j a b → word_of w ≡ join (word_of a) (word_of b) →
    at (set slots i (Some w)) j ≡ Some b → now ≡ set (set slots i (Some w)) j None → LeadTo slots now
lead-step slots now i j a b w f h there e d out m =
    let x = entry d a in
    let es = ap (entries_of d) e ∙ joined-slots d x slots i j a b w f h there in (
      suc m.0,
      places-step (entries_of d slots) x (rank slots i) (rank slots j) m.0 out (first_places d x slots i j a b f)
          (subst (λ l. MergedIn m.0 l out) es m.1),
    )

pub lead-both : (a b c : Slots) → LeadTo a b → LeadTo b c → LeadTo a c
lead-both a b c f g d out m = f d out (g d out m)

pub some-within : (slots : Slots) (k : ℕ) (w : Word) → at slots k ≡ Some w → k < length slots
some-within [] k w h = absurd (cc h)
some-within (s ∷ slots) zero w h = omega arith
some-within (s ∷ slots) (suc k) w h = omega (arith, some-within slots k w h)

-- where none is left to join
pub done-merged : (d : Option (List ℕ)) (slots : Slots) (count : ℕ) → length slots ≤ count → AreDone slots count → IsMerged (entries_of d slots) (entries_of d slots)
done-merged d slots count long done =
    let e : Entry = record { word = []; decision = d } in (
      0,
      places-end (entries_of d slots) e (λ i j h.
          let t = both d e slots i j h in
          let within = some-within slots t.first.place t.first.word t.first.here in
          let same = done t.first.place t.second.place t.first.word t.second.word (omega (arith, within, long)) t.first.here t.second.here t.joinable in
          omega (arith, t.less, same)),
    )
