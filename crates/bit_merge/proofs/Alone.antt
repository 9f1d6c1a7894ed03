-- Tables that are tight, by places.
use Rattle.std.proofs.Common.{◌≡◌, ◌∷◌, ◌++◌, ◌<◌, ℕ, List, [], length, ap, sym, ◌∙◌, arith, suc, ◌≢◌, None, remove, take, drop, slice_index_or, length-append}
use Rattle.std.proofs.lemmas.List.{length-take-le}
use Rattle.ternary_words.specs.Headline.Table.{Entry, answer}
use Rattle.bit_merge.proofs.Tight.{IsTight}
use Rattle.bit_merge.proofs.PairPlaces.{cut, removed}

abbrev TightAt : (List ℕ → Type 0) → List Entry → Type 0
TightAt IsKey entries = (k : ℕ) → k < length entries → (key : List ℕ) × IsKey key × (answer (remove entries k) key ≢ answer entries key)

pub tight-places : (IsKey : List ℕ → Type 0) (entries : List Entry) → IsTight IsKey entries → TightAt IsKey entries
tight-places IsKey entries t k less =
    let d : Entry = record { word = []; decision = None } in
    let before = take k entries in
    let x = slice_index_or entries k d in
    let after = drop (suc k) entries in
    let parts = cut entries k d less in
    let r = t before x after parts in
    let long : length before ≡ k = length-take-le k entries (omega (arith, less)) in
    let e = ap (λ l. remove l k) parts ∙ ap (remove (before ++ (x ∷ after))) (sym long) ∙ removed before x after in
    (r.0, r.1, λ h. r.2 (ap (λ l. answer l r.0) (sym e) ∙ h))

pub places-tight : (IsKey : List ℕ → Type 0) (entries : List Entry) → TightAt IsKey entries → IsTight IsKey entries
places-tight IsKey entries t before e after h =
    let r = t (length before) (omega (arith, ap length h, length-append before (e ∷ after))) in
    (r.0, r.1, λ g. r.2 (ap (λ l. answer l r.0) (ap (λ l. remove l (length before)) h ∙ removed before e after) ∙ g))
