-- One more name, and the names stay distinct.
use Rattle.std.proofs.Common.{◌≡◌, ◌∷◌, ◌++◌, ℕ, ◌<◌, ◌≤◌, zero, suc, List, Bool, true, false, cond, [], ap, refl, sym, ◌∙◌, arith, length, Some, inl, inr}
use Rattle.std.specs.List.{list_any}
use Rattle.std.specs.Prelude.{slice_get, ◌⊎◌}
use Rattle.std.specs.Str.{bytes_eq}
use Rattle.std.proofs.lemmas.Bool.{cases_lt, false≢true, or_left, or_right}
use Rattle.std.proofs.lemmas.List.{length-append}
use Rattle.std.proofs.lemmas.Option.{none-some, slice_get_within}
use Rattle.std.proofs.lemmas.Slice.Eq.{bytes_eq-Decides}
use Rattle.field_boxes.specs.Names.{is_known, name_at, with_name, AreDistinct}

pub get_append : (names more : List (List ℕ)) (k : ℕ) → k < length names → slice_get (names ++ more) k ≡ slice_get names k
get_append [] more k h = absurd (omega arith)
get_append (name ∷ names) more zero h = refl
get_append (name ∷ names) more (suc k) h = get_append names more k (omega arith)

last_name : (names : List (List ℕ)) (name : List ℕ) → slice_get (names ++ name ∷ []) (length names) ≡ Some name
last_name [] name = refl
last_name (n ∷ names) name = last_name names name

-- a name that has a place is known
there : (names : List (List ℕ)) (name : List ℕ) (k : ℕ) → slice_get names k ≡ Some name → list_any (bytes_eq name) names ≡ true
there [] name k at = let less = slice_get_within {A = List ℕ} [] k name at in absurd (omega (arith, less))
there (n ∷ names) name zero at =
    let same : name ≡ n = cc in
    or_left (bytes_eq name n) (list_any (bytes_eq name) names) ((bytes_eq-Decides name n).1 same)
there (n ∷ names) name (suc k) at = or_right (bytes_eq name n) (list_any (bytes_eq name) names) (there names name k at)

no_old_number : (names : List (List ℕ)) (name : List ℕ) (i : ℕ) → list_any (bytes_eq name) names ≡ false → name_at names i ≡ Some name → ⊥
no_old_number names name zero h at = none-some name at
no_old_number names name (suc k) h at = false≢true (sym h ∙ there names name k at)

pub old_number : (names : List (List ℕ)) (name : List ℕ) (i : ℕ) → i ≤ length names → name_at (names ++ name ∷ []) i ≡ name_at names i
old_number names name zero h = refl
old_number names name (suc k) h = get_append names (name ∷ []) k (omega (arith, h))

-- where a new name stands behind the others, the number of the new one is none of theirs
unlike : (names : List (List ℕ)) (name : List ℕ) (i j : ℕ) → list_any (bytes_eq name) names ≡ false → i ≤ length names → j ≡ suc (length names) →
    name_at (names ++ name ∷ []) i ≡ name_at (names ++ name ∷ []) j → ⊥
unlike names name i j h old new e =
    no_old_number names name i h (sym (old_number names name i old) ∙ e ∙ ap (name_at (names ++ name ∷ [])) new ∙ last_name names name)

distinct_by : (names : List (List ℕ)) (name : List ℕ) (i j : ℕ) → list_any (bytes_eq name) names ≡ false → AreDistinct names → i ≤ suc (length names) → j ≤ suc (length names) →
    (length names < i) ⊎ (i ≤ length names) → (length names < j) ⊎ (j ≤ length names) → name_at (names ++ name ∷ []) i ≡ name_at (names ++ name ∷ []) j → i ≡ j
distinct_by names name i j h d wi wj (inl ni) (inl nj) e = omega (arith, wi, wj, ni, nj)
distinct_by names name i j h d wi wj (inl ni) (inr oj) e = let new : i ≡ suc (length names) = omega (arith, wi, ni) in absurd (unlike names name j i h oj new (sym e))
distinct_by names name i j h d wi wj (inr oi) (inl nj) e = let new : j ≡ suc (length names) = omega (arith, wj, nj) in absurd (unlike names name i j h oi new e)
distinct_by names name i j h d wi wj (inr oi) (inr oj) e = d i j oi oj (sym (old_number names name i oi) ∙ e ∙ old_number names name j oj)

distinct_with : (names : List (List ℕ)) (name : List ℕ) (t : Bool) → list_any (bytes_eq name) names ≡ t → AreDistinct names → AreDistinct (cond t names (names ++ name ∷ []))
distinct_with names name true h d = d
distinct_with names name false h d = λ i j wi wj e.
    let long = length-append names (name ∷ []) in
    distinct_by names name i j h d (omega (arith, wi, long)) (omega (arith, wj, long)) (cases_lt (length names) i) (cases_lt (length names) j) e

pub AreDistinct-with_name : (names : List (List ℕ)) (name : List ℕ) → AreDistinct names → AreDistinct (with_name names name)
AreDistinct-with_name names name d = distinct_with names name (is_known names name) refl d
