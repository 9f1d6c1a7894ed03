-- Names in the order in which they were first seen.
use Rattle.std.proofs.Common.{◌≡◌, ◌≢◌, ◌∷◌, ◌++◌, ℕ, ◌+◌, ◌-◌, ◌<◌, ◌≤◌, zero, suc, add-one, List, Bool, true, false, cond, [], ap, refl, sym, ◌∙◌, arith, length, get_or, Some}
use Rattle.std.specs.Prelude.{map, position, slice_get, Option, option_map, ◌||◌, not}
use Rattle.std.specs.List.{list_any, prefix_len, AllZip}
use Rattle.std.specs.Str.{bytes_eq}
use Rattle.std.proofs.lemmas.List.Quantifiers.{position-Some}
use Rattle.std.proofs.lemmas.Option.{slice_get-get_or, slice_get-map}
use Rattle.std.proofs.lemmas.List.{length-map, map-append, length-append}
use Rattle.std.proofs.lemmas.Grind.{common_steps}
use Rattle.std.proofs.lemmas.Slice.Eq.{bytes_eq-Decides}
use Rattle.field_boxes.proofs.Distinct.{AreDistinct-with_name, old_number}
use Rattle.field_boxes.specs.Headline.Names.{miss, text_of}
use Rattle.field_boxes.specs.Names.{is_known, name_at, with_name, number_of, AreDistinct, AreNames}

pub list_any-map : {X Y : Type 0} (p : Y → Bool) (f : X → Y) (xs : List X) → list_any p (map f xs) ≡ list_any (λ x. p (f x)) xs
list_any-map p f [] = refl
list_any-map p f (x ∷ xs) = ap (λ t. p (f x) || t) (list_any-map p f xs)

prefix_len-map : {X Y : Type 0} (p : Y → Bool) (f : X → Y) (xs : List X) → prefix_len p (map f xs) ≡ prefix_len (λ x. p (f x)) xs
prefix_len-map p f [] = refl
prefix_len-map p f (x ∷ xs) = ap (λ n. cond (p (f x)) (1 + n) 0) (prefix_len-map p f xs)

pub position-map : {X Y : Type 0} (p : Y → Bool) (f : X → Y) (xs : List X) → position p (map f xs) ≡ position (λ x. p (f x)) xs
position-map p f xs = rw (prefix_len-map (λ y. not (p y)) f xs, length-map xs f) refl

-- where the name is found it stands
pub found : (names : List (List ℕ)) (name : List ℕ) (i : ℕ) → position (bytes_eq name) names ≡ Some i → slice_get names i ≡ Some name
found names name i h = let p = position-Some (bytes_eq name) names i [] h in slice_get-get_or names i [] p.0 ∙ ap Some (sym ((bytes_eq-Decides name (get_or names i [])).0 p.1))

pub seen : (names : List (List ℕ)) (name : List ℕ) → list_any (bytes_eq name) names ≡ true → names ≡ with_name names name
seen names name h = rw h refl

pub with_name-map : {X : Type 0} (f : X → List ℕ) (ks : List X) (k : X) (t : Bool) → list_any (λ x. bytes_eq (f k) (f x)) ks ≡ t →
    map f (cond t ks (ks ++ k ∷ [])) ≡ with_name (map f ks) (f k)
with_name-map f ks k true h = rw (list_any-map (bytes_eq (f k)) f ks, h) refl
with_name-map f ks k false h = rw (list_any-map (bytes_eq (f k)) f ks, h) (map-append f ks (k ∷ []))

pub number_found : {X : Type 0} (f : X → List ℕ) (ks : List X) (name : List ℕ) (i : ℕ) → Some i ≡ position (λ k. bytes_eq name (f k)) ks → name_at (map f ks) (i + 1) ≡ Some name
number_found f ks name i h = rw add-one (found (map f ks) name i (position-map (bytes_eq name) f ks ∙ sym h))

pub number_stored : {X : Type 0} (f : X → List ℕ) (ks : List X) (name : List ℕ) (i : ℕ) (k : X) → slice_get ks i ≡ Some k → bytes_eq name (f k) ≡ true → name_at (map f ks) (i + 1) ≡ Some name
number_stored f ks name i k h same = rw (add-one, slice_get-map f ks i, h) (ap Some (sym ((bytes_eq-Decides name (f k)).0 same)))

pub text_at : {X : Type 0} (f : X → List ℕ) (ks : List X) (n : ℕ) (k : X) → 0 < n → slice_get ks (n - 1) ≡ Some k → text_of (name_at (map f ks) n) ≡ f k
text_at f ks zero k some h = absurd (omega arith)
text_at f ks (suc n) k some h =
    let same : suc n - 1 ≡ n = omega arith in
    let at : slice_get ks n ≡ Some k = ap (slice_get ks) (sym same) ∙ h in
    rw (slice_get-map f ks n, at) refl

named_with : (names : List (List ℕ)) (name : List ℕ) (t : Bool) → (t ≡ false → length names < 262144) → name ≢ miss → AreNames names → AreDistinct (cond t names (names ++ name ∷ [])) → AreNames (cond t names (names ++ name ∷ []))
named_with names name true room named h distinct = h
named_with names name false room named h distinct = record {
  few = omega (arith, room refl, length-append names (name ∷ []));
  named = grind (arith, common_steps, h.named);
  distinct = distinct;
}

pub AreNames-with_name : (names : List (List ℕ)) (name : List ℕ) → (is_known names name ≡ false → length names < 262144) → name ≢ miss → AreNames names → AreNames (with_name names name)
AreNames-with_name names name room named h = named_with names name (is_known names name) room named h (AreDistinct-with_name names name h.distinct)

pub number_by : {X : Type 0} (f : X → List ℕ) (ks : List X) (name : List ℕ) (r : Option ℕ) → bytes_eq name miss ≡ false → r ≡ position (λ k. bytes_eq name (f k)) ks →
    option_map (λ k. k + 1) r ≡ number_of (map f ks) name
number_by f ks name r other h = rw (other, position-map (bytes_eq name) f ks) (ap (option_map (λ k. k + 1)) h)

kept_by : (names : List (List ℕ)) (name : List ℕ) (t : Bool) (k : ℕ) → k ≤ length names → name_at (cond t names (names ++ name ∷ [])) k ≡ name_at names k
kept_by names name true k h = refl
kept_by names name false k h = old_number names name k h

-- a name keeps its number
pub name_at-with_name : (names : List (List ℕ)) (name : List ℕ) (k : ℕ) → k ≤ length names → name_at (with_name names name) k ≡ name_at names k
name_at-with_name names name k h = kept_by names name (list_any (bytes_eq name) names) k h

-- clones have the same texts
pub same_texts : {X : Type 0} (f : X → List ℕ) (xs ys : List X) → AllZip (λ x y. f y ≡ f x) xs ys → map f ys ≡ map f xs
same_texts f [] [] zip = refl
same_texts f [] (y ∷ ys) zip = absurd zip
same_texts f (x ∷ xs) [] zip = absurd zip
same_texts f (x ∷ xs) (y ∷ ys) zip = ap (λ t. t ∷ map f ys) zip.0 ∙ ap (λ ts. f x ∷ ts) (same_texts f xs ys zip.1)
