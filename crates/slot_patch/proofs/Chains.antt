-- Chains of pairs, when one link more is put down.
use Rattle.std.proofs.Common.{◌≡◌, ◌≢◌, ◌≤◌, ◌<◌, ◌+◌, ◌-◌, ◌∷◌, ◌++◌, ℕ, zero, suc, List, [], Option, Some, None, length, slice_get, get_or, inl, inr, refl, ap, sym, ◌∙◌, subst, arith, append_assoc}
use Rattle.std.proofs.lemmas.Bool.{cases_eq}
use Rattle.std.proofs.lemmas.Option.{none-some, slice_get_within}
use Rattle.ternary_words.specs.declared.entry.Entry.{Entry}
use Rattle.slot_patch.specs.Piles.{AreLaid, AreStacked, Follows, HasChain, laid, top_before}
use Rattle.slot_patch.specs.Sharing.{AreShared, HaveOneWordAt, IsPairFrom}
use Rattle.slot_patch.specs.declared.pair.Pair.{Pair}
use Rattle.slot_patch.specs.declared.pair.Link.{Link}
use Rattle.slot_patch.specs.declared.piles.Piles.{Piles}
use Rattle.slot_patch.proofs.Builders.{get-front, get-last}
use Rattle.slot_patch.proofs.Counts.{at-laid, beside-laid, laid-same-length, length-laid}
use Rattle.slot_patch.proofs.Trimming.{places-within, shared-from}

-- links that are put down later don't matter
follows-more : (links more : List Link) (at : Option ℕ) (pairs : List Pair) → Follows links at pairs → Follows (links ++ more) at pairs
follows-more links more None [] h = tt
follows-more links more None (p ∷ pairs) h = absurd h
follows-more links more (Some n) [] h = absurd h
follows-more links more (Some n) (p ∷ pairs) h =
    (h.0, get-front links more n (slice_get_within links n (record { pair = p; behind = h.0 }) h.1) ∙ h.1, follows-more links more h.0 pairs h.2)

pub chain-more : (old new : List Entry) (links more : List Link) (from place link count : ℕ) → HasChain old new links from place link count → HasChain old new (links ++ more) from place link count
chain-more old new links more from place link count h =
    record { pairs = h.pairs; many = h.many; leads = follows-more links more (Some link) h.pairs h.leads; shared = h.shared }

pub chain-from : (old new : List Entry) (links : List Link) (from to place link count : ℕ) → to ≤ from → HasChain old new links from place link count → HasChain old new links to place link count
chain-from old new links from to place link count le h =
    record { pairs = h.pairs; many = h.many; leads = h.leads; shared = shared-from old new from (length new - suc place) to (length new - suc place) h.pairs le (omega arith) h.shared }

-- a pair that is in front of all
front-pair : (old new : List Entry) (pair : Pair) (place : ℕ) → HaveOneWordAt old new pair.old pair.new → place ≡ length new - suc pair.new → IsPairFrom old new pair.old (length new - suc place) pair
front-pair old new pair place word is =
    let small = slice_get_within new pair.new word.b word.new_at in
    record { old_from = omega arith; new_from = omega (arith, is, small); word = word }

-- what a new link leads on to: nothing on the first pile, and else the top of the pile before
abbrev pub LeadsOn : List Entry → List Entry → List Link → Pair → ℕ → ℕ → Option ℕ → Type 0
LeadsOn old new links pair place zero behind = behind ≡ None
LeadsOn old new links pair place (suc k) behind =
    (top : ℕ) × (behind ≡ Some top) × (at : ℕ) × (at < place) × HasChain old new links (suc pair.old) at top k

new-chain : (old new : List Entry) (links : List Link) (pair : Pair) (place count : ℕ) (behind : Option ℕ) → HaveOneWordAt old new pair.old pair.new →
    place ≡ length new - suc pair.new → LeadsOn old new links pair place count behind →
    HasChain old new (links ++ record { pair = pair; behind = behind } ∷ []) pair.old place (length links) count
new-chain old new links pair place zero behind word is on =
    let link : Link = record { pair = pair; behind = behind } in
    record {
      pairs = pair ∷ [];
      many = refl;
      leads = (behind, get-last links link, subst (λ (o : Option ℕ). Follows (links ++ link ∷ []) o []) (sym on) tt);
      shared = (front-pair old new pair place word is, places-within old new pair.old pair.new word);
    }
new-chain old new links pair place (suc k) behind word is on =
    let link : Link = record { pair = pair; behind = behind } in
    let chain = on.4 in
    let less = on.3 in
    let small = slice_get_within new pair.new word.b word.new_at in
    record {
      pairs = pair ∷ chain.pairs;
      many = ap suc chain.many;
      leads = (behind, get-last links link, subst (λ (o : Option ℕ). Follows (links ++ link ∷ []) o chain.pairs) (sym on.1) (follows-more links (link ∷ []) (Some on.0) chain.pairs chain.leads));
      shared = (
        front-pair old new pair place word is,
        shared-from old new (suc pair.old) (length new - suc on.2) (suc pair.old) (suc pair.new) chain.pairs (omega arith) (omega (arith, is, less, small)) chain.shared,
      );
    }

-- all piles with the new link on one of them

in_old : (k : ℕ) (xs : List ℕ) (pile x : ℕ) → pile ≤ length xs → k < length (laid xs pile x) → k ≢ pile → k < length xs
in_old k xs pile x within small other = elim (length-laid xs pile x within k small) [ inl less ↦ less | inr same ↦ absurd (other same) ]

pub laid-on : (old new : List Entry) (before now : Piles) (pair : Pair) (limit place pile : ℕ) (behind : Option ℕ) → AreLaid old new pair.old limit before → place < limit →
    HaveOneWordAt old new pair.old pair.new → place ≡ length new - suc pair.new → pile ≤ length before.places.items →
    LeadsOn old new before.links.items pair place pile behind →
    now.links.items ≡ before.links.items ++ record { pair = pair; behind = behind } ∷ [] → now.places.items ≡ laid before.places.items pile place →
    now.tops.items ≡ laid before.tops.items pile (length before.links.items) → AreLaid old new pair.old place now
laid-on old new before now pair limit place pile behind h less word is within on links places tops =
    let link : Link = record { pair = pair; behind = behind } in
    let p = before.places.items in
    let t = before.tops.items in
    let ls = before.links.items in
    let long = h.stacked.long in
    let tops_within : pile ≤ length t = omega (arith, within, long) in
    let same_place = λ (k : ℕ) (other : k ≢ pile). (ap (λ (xs : List ℕ). get_or xs k 0) places ∙ beside-laid p pile k place 0 within other) in
    let same_top = λ (k : ℕ) (other : k ≢ pile). (ap (λ (xs : List ℕ). get_or xs k 0) tops ∙ beside-laid t pile k (length ls) 0 tops_within other) in
    let known = λ (k : ℕ) (other : k ≢ pile) (small : k < length now.places.items).
    in_old k p pile place within (subst (λ (n : ℕ). k < n) (ap length places) small) other in
    let Has = λ (from at top k : ℕ). HasChain old new now.links.items from at top k in
    let keep = λ (from k : ℕ) (other : k ≢ pile) (c : HasChain old new ls from (get_or p k 0) (get_or t k 0) k).
    subst (λ n. Has from n (get_or now.tops.items k 0) k) (sym (same_place k other)) (subst (λ n. Has from (get_or p k 0) n k) (sym (same_top k other))
    (subst (λ (xs : List Link). HasChain old new xs from (get_or p k 0) (get_or t k 0) k) (sym links) (chain-more old new ls (link ∷ []) from (get_or p k 0) (get_or t k 0) k c))) in
    let here_place : get_or now.places.items pile 0 ≡ place = ap (λ (xs : List ℕ). get_or xs pile 0) places ∙ at-laid p pile place 0 within in
    let here_top : get_or now.tops.items pile 0 ≡ length ls = ap (λ (xs : List ℕ). get_or xs pile 0) tops ∙ at-laid t pile (length ls) 0 tops_within in
    let here : Has pair.old (get_or now.places.items pile 0) (get_or now.tops.items pile 0) pile =
    subst (λ n. Has pair.old n (get_or now.tops.items pile 0) pile) (sym here_place) (subst (λ n. Has pair.old place n pile) (sym here_top)
    (subst (λ (xs : List Link). HasChain old new xs pair.old place (length ls) pile) (sym links) (new-chain old new ls pair place pile behind word is on))) in
    record {
      stacked = record {
        long = ap length tops ∙ laid-same-length t p pile (length ls) place long ∙ sym (ap length places);
        chains = λ k small. elim (cases_eq k pile) [
          | inl same ↦ subst (λ n. Has pair.old (get_or now.places.items n 0) (get_or now.tops.items n 0) n) (sym same) here
          | inr other ↦ keep pair.old k other (h.stacked.chains k (known k other small))
        ];
      };
      behind = λ k small low. elim (cases_eq k pile) [
        | inl same ↦ absurd (omega (arith, low, ap (λ n. get_or now.places.items n 0) same, here_place))
        | inr other ↦ keep (suc pair.old) k other (h.behind k (known k other small) (omega (arith, low, less, same_place k other)))
      ];
    }

-- between the rows

pub laid-stacked : (old new : List Entry) (from limit : ℕ) (p : Piles) → AreStacked old new (suc from) p → AreLaid old new from limit p
laid-stacked old new from limit p h = record {
  stacked = record { long = h.long; chains = λ k small. chain-from old new p.links.items (suc from) from (get_or p.places.items k 0) (get_or p.tops.items k 0) k (omega arith) (h.chains k small) };
  behind = λ k small low. h.chains k small;
}

-- the link on top of the pile before leads on
leads-on : (old new : List Entry) (p : Piles) (pair : Pair) (limit place pile : ℕ) → AreLaid old new pair.old limit p → place < limit → pile ≤ length p.places.items →
    ((k : ℕ) → suc k ≡ pile → get_or p.places.items k 0 < place) → LeadsOn old new p.links.items pair place pile (top_before p.tops.items pile)
leads-on old new p pair limit place zero h less within below = refl
leads-on old new p pair limit place (suc k) h less within below =
    let low = below k refl in
    (get_or p.tops.items k 0, refl, get_or p.places.items k 0, low, h.behind k (omega (arith, within)) (omega (arith, low, less)))

pub laid-step : (old new : List Entry) (before now : Piles) (pair : Pair) (limit place pile : ℕ) → AreLaid old new pair.old limit before → place < limit →
    HaveOneWordAt old new pair.old pair.new → place ≡ length new - suc pair.new → pile ≤ length before.places.items →
    ((k : ℕ) → suc k ≡ pile → get_or before.places.items k 0 < place) →
    now.links.items ≡ before.links.items ++ record { pair = pair; behind = top_before before.tops.items pile } ∷ [] → now.places.items ≡ laid before.places.items pile place →
    now.tops.items ≡ laid before.tops.items pile (length before.links.items) → AreLaid old new pair.old place now
laid-step old new before now pair limit place pile h less word is within below links places tops =
    laid-on old new before now pair limit place pile (top_before before.tops.items pile) h less word is within (leads-on old new before pair limit place pile h less within below) links places tops

-- one link more is followed
pub follow-step : (links : List Link) (at : Option ℕ) (number : ℕ) (link : Link) (rest found made pairs : List Pair) (count all : ℕ) → at ≡ Some number → slice_get links number ≡ Some link →
    Follows links at rest → length rest + count ≡ all → pairs ≡ found ++ rest → made ≡ found ++ link.pair ∷ [] →
    (x : List Pair) × Follows links link.behind x × (length x + (count + 1) ≡ all) × (pairs ≡ made ++ x)
follow-step links None number link rest found made pairs count all is at h many split more = absurd (none-some number is)
follow-step links (Some n) number link [] found made pairs count all is at h many split more = absurd h
follow-step links (Some n) number link (p ∷ rest) found made pairs count all is at h many split more =
    let same : n ≡ number = cc in
    let one : record { pair = p; behind = h.0 } ≡ link = (let e = sym h.1 ∙ ap (slice_get links) same ∙ at in cc) in (
      rest,
      subst (λ (o : Option ℕ). Follows links o rest) (ap (λ (l : Link). l.behind) one) h.2,
      omega (arith, many),
      split ∙ ap (λ (q : Pair). found ++ q ∷ rest) (ap (λ (l : Link). l.pair) one) ∙ sym (append_assoc found (link.pair ∷ []) rest) ∙ ap (λ (ps : List Pair). ps ++ rest) (sym more),
    )
