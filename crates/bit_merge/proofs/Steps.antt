-- Merging by places.
use Rattle.std.proofs.Common.{◌≡◌, ◌⊎◌, ◌≤◌, ◌<◌, ℕ, List, refl, ap, sym, ◌∙◌, subst, suc}
use Rattle.ternary_words.specs.Headline.Table.{Entry}
use Rattle.bit_merge.specs.Merge.{Pair, IsFirstPair, MergedIn, first_place, second_place, joined}
use Rattle.bit_merge.proofs.ByPlace.{ArePlaces, AreFirstPlaces, joined_at}
use Rattle.bit_merge.proofs.PairPlaces.{pair-places, places-pair, joined-places}

-- the first pair at these places
record FirstAt (entries : List Entry) (d : Entry) (i j : ℕ) : Type 0 where
  pair : Pair
  is : IsFirstPair entries pair
  then : joined pair ≡ joined_at entries d i j

first-at : (entries : List Entry) (d : Entry) (i j : ℕ) → AreFirstPlaces entries d i j → FirstAt entries d i j
first-at entries d i j h =
    let p = places-pair entries d i j h.places in record {
      pair = p.0;
      is = record {
        pair = p.1;
        least = λ q k. subst (λ n. (n < first_place q) ⊎ ((n ≡ first_place q) × (second_place p.0 ≤ second_place q))) (sym p.2)
            (subst (λ n. (i < first_place q) ⊎ ((i ≡ first_place q) × (n ≤ second_place q))) (sym p.3) (h.least (first_place q) (second_place q) (pair-places entries q d k)));
      };
      then = joined-places entries p.0 d p.1 ∙ ap (λ n. joined_at entries d n (second_place p.0)) p.2 ∙ ap (joined_at entries d i) p.3;
    }

pub places-step : (entries : List Entry) (d : Entry) (i j n : ℕ) (out : List Entry) → AreFirstPlaces entries d i j → MergedIn n (joined_at entries d i j) out → MergedIn (suc n) entries out
places-step entries d i j n out h m = let f = first-at entries d i j h in (f.pair, f.is, subst (λ es. MergedIn n es out) (sym f.then) m)

pub places-end : (entries : List Entry) (d : Entry) → ((i j : ℕ) → ArePlaces entries d i j → ⊥) → MergedIn 0 entries entries
places-end entries d h = ((λ p k. h (first_place p) (second_place p) (pair-places entries p d k)), refl)
