-- No list of prefixes that holds exactly a set is shorter than the prefixes that halving finds.
-- Shown over the bits of the values: of a list without a row at a block itself each row lies in one half.
use Rattle.std.proofs.Common.{◌≡◌, ◌⊎◌, ◌∷◌, ◌++◌, ℕ, zero, suc, ◌+◌, ◌-◌, ◌%◌, ◌/◌, ◌^◌, ◌<◌, ◌≤◌, List, [], Bool, true, false, nat_eq, map, ap, refl, sym, ◌∙◌, arith, length, inl, inr, ◌||◌, if◌then◌else◌, All, Option, Some, cond, find, is_some, option_map, sum_by, pow_pos, length-append}
use Rattle.std.specs.List.{list_any}
use Rattle.std.proofs.lemmas.Bool.{true≢false, false≢true}
use Rattle.std.proofs.lemmas.List.Sums.{sum_by-cons}
use Rattle.std.proofs.Math.Nat.{add-div_left, add-mod_left, div-eq_of_lt}
use Rattle.field_boxes.specs.declared.prefix.Prefix.{Prefix}
use Rattle.field_boxes.specs.Headline.Prefix.{FitsWidth, prefix_holds}
use Rattle.field_boxes.specs.Prefix.{prefix_bits}
use Rattle.field_boxes.specs.Headline.Bits.{bits}
use Rattle.field_boxes.specs.Bits.{begins}
use Rattle.field_boxes.proofs.Bits.{bits-mod, begins_at}
use Rattle.field_boxes.proofs.Halves.{Row, IsRootless, front, front-half, half, is_root, weight-halves}
use Rattle.range_prefix.specs.Cover.{HoldExactly}
use Rattle.range_prefix.specs.Shortest.{has_block, block_prefix, shortest_in}
use Rattle.field_boxes.proofs.Powers.{double}
use Rattle.range_prefix.proofs.Blocks.{has_block-at, has_block-from}

-- the bits of a value of the lower half of a block, and of the higher
bits-low : (n k : ℕ) → k < 2 ^ n → bits (suc n) k ≡ false ∷ bits n k
bits-low n k small = ap (λ x. nat_eq (x % 2) 1 ∷ bits n k) (div-eq_of_lt small)

bits-high : (n k : ℕ) → k < 2 ^ n → bits (suc n) (2 ^ n + k) ≡ true ∷ bits n k
bits-high n k small =
    let top : (2 ^ n + k) / 2 ^ n ≡ 1 = add-div_left k (pow_pos n) ∙ ap (λ x. x + 1) (div-eq_of_lt small) in
    let low : bits n (2 ^ n + k) ≡ bits n k = sym (bits-mod n (2 ^ n + k)) ∙ ap (bits n) (add-mod_left (2 ^ n) k) ∙ bits-mod n k in
    ap (λ x. nat_eq (x % 2) 1 ∷ bits n (2 ^ n + k)) top ∙ ap (λ bs. true ∷ bs) low

-- how many rows there are
abbrev count : List (Row Prefix) → ℕ
count rows = sum_by (λ r. 1) rows

-- some row holds a value of the block exactly where the set has it
abbrev Shows : (ℕ → Bool) → ℕ → ℕ → List (Row Prefix) → Type 0
Shows set n v rows = (k : ℕ) → k < 2 ^ n → is_some (front rows (bits n k)) ≡ set (v + k)

some_row : (set : ℕ → Bool) (n v : ℕ) (rows : List (Row Prefix)) → Shows set n v rows → (k : ℕ) → k < 2 ^ n → set (v + k) ≡ true → 1 ≤ count rows
some_row set n v [] h k small e = absurd (false≢true (h k small ∙ e))
some_row set n v (r ∷ rows) h k small e = let weight = sum_by-cons (λ (x : Row Prefix). 1) r rows in rw weight (omega arith)

shown_always : (t : Bool) (r : Row Prefix) (rest : Option (Row Prefix)) → is_some (option_map (λ x. x.payload) rest) ≡ true → is_some (option_map (λ x. x.payload) (cond t (Some r) rest)) ≡ true
shown_always true r rest h = refl
shown_always false r rest h = h

root_first : (bs v : List Bool) (payload : Prefix) (rest : Option (Row Prefix)) → is_root bs ≡ true → is_some (option_map (λ x. x.payload) (cond (begins bs v) (Some (record { bits = bs; payload = payload })) rest)) ≡ true
root_first [] v payload rest h = refl
root_first (b ∷ bs) v payload rest h = absurd (false≢true h)

-- either no row stands at the block itself, or some row holds each value
abbrev Rooted : List (Row Prefix) → Type 0
Rooted rows = IsRootless rows ⊎ ((v : List Bool) → is_some (front rows v) ≡ true)

rooted_step : (r : Row Prefix) (rows : List (Row Prefix)) (t : Bool) → is_root r.bits ≡ t → Rooted rows → Rooted (r ∷ rows)
rooted_step r rows true e h = inr (λ v. root_first r.bits v r.payload (find (λ x. begins x.bits v) rows) e)
rooted_step r rows false e (inl h) = inl (e, h)
rooted_step r rows false e (inr h) = inr (λ v. shown_always (begins r.bits v) r (find (λ x. begins x.bits v) rows) (h v))

rooted : (rows : List (Row Prefix)) → Rooted rows
rooted [] = inl tt
rooted (r ∷ rows) = rooted_step r rows (is_root r.bits) refl (rooted rows)

shows-low : (set : ℕ → Bool) (n v : ℕ) (rows : List (Row Prefix)) → IsRootless rows → Shows set (suc n) v rows → Shows set n v (half false rows)
shows-low set n v rows rootless h k small =
    let d = double n in
    ap is_some (sym (front-half false (bits n k) rows rootless)) ∙ ap (λ bs. is_some (front rows bs)) (sym (bits-low n k small)) ∙ h k (omega arith)

shows-high : (set : ℕ → Bool) (n v : ℕ) (rows : List (Row Prefix)) → IsRootless rows → Shows set (suc n) v rows → Shows set n (v + 2 ^ n) (half true rows)
shows-high set n v rows rootless h k small =
    let d = double n in
    let e : v + (2 ^ n + k) ≡ v + 2 ^ n + k = omega arith in
    ap is_some (sym (front-half true (bits n k) rows rootless)) ∙ ap (λ bs. is_some (front rows bs)) (sym (bits-high n k small)) ∙ h (2 ^ n + k) (omega arith) ∙ ap set e

one_least : (width : ℕ) (set : ℕ → Bool) (v : ℕ) (rows : List (Row Prefix)) → Shows set zero v rows → (t : Bool) → set v ≡ t → length (if t then block_prefix width zero v ∷ [] else []) ≤ count rows
one_least width set v rows h true e = let same : v + 0 ≡ v = omega arith in some_row set zero v rows h 0 (omega arith) (ap set same ∙ e)
one_least width set v rows h false e = omega arith

halves_least : (set : ℕ → Bool) (n v : ℕ) (low high : List Prefix) (p : Prefix) (rows : List (Row Prefix)) → Shows set (suc n) v rows → Rooted rows →
    ((rest : List (Row Prefix)) → Shows set n v rest → length low ≤ count rest) →
    ((rest : List (Row Prefix)) → Shows set n (v + 2 ^ n) rest → length high ≤ count rest) →
    (t : Bool) → has_block set (suc n) v ≡ t → length (if t then p ∷ [] else low ++ high) ≤ count rows
halves_least set n v low high p rows h root f g true e = some_row set (suc n) v rows h 0 (pow_pos (suc n)) (has_block-at set (suc n) v e 0 (pow_pos (suc n)))
halves_least set n v low high p rows h (inr all) f g false e = absurd (true≢false (sym (has_block-from set (suc n) v (λ k small. sym (h k small) ∙ all (bits (suc n) k))) ∙ e))
halves_least set n v low high p rows h (inl rootless) f g false e =
    omega (
      arith,
      length-append low high,
      weight-halves (λ (q : Prefix). 1) rows,
      f (half false rows) (shows-low set n v rows rootless h),
      g (half true rows) (shows-high set n v rows rootless h),
    )

block_least : (width : ℕ) (set : ℕ → Bool) (n v : ℕ) (rows : List (Row Prefix)) → Shows set n v rows → length (shortest_in width set n v) ≤ count rows
block_least width set zero v rows h = one_least width set v rows h (set v) refl
block_least width set (suc n) v rows h =
    halves_least set n v (shortest_in width set n v) (shortest_in width set n (v + 2 ^ n)) (block_prefix width (suc n) v) rows h (rooted rows)
    (block_least width set n v) (block_least width set n (v + 2 ^ n)) (has_block set (suc n) v) refl

-- the rows of prefixes
abbrev row_of : ℕ → Prefix → Row Prefix
row_of width p = record { bits = prefix_bits width p; payload = p }

begins-prefix : (width : ℕ) (p : Prefix) (v : ℕ) → FitsWidth width p → v < 2 ^ width → begins (prefix_bits width p) (bits width v) ≡ prefix_holds width p v
begins-prefix width p v fits small =
    let whole : p.len + (width - p.len) ≡ width = let le = fits.len in omega arith in begins_at width p.len (width - p.len) p.value v whole fits.small small

front_step : (t : Bool) (r : Row Prefix) (rest : Option (Row Prefix)) (b : Bool) → is_some (option_map (λ x. x.payload) rest) ≡ b → is_some (option_map (λ x. x.payload) (cond t (Some r) rest)) ≡ (t || b)
front_step true r rest b h = refl
front_step false r rest b h = h

front-any : (width v : ℕ) (ps : List Prefix) → All (FitsWidth width) ps → v < 2 ^ width → is_some (front (map (row_of width) ps) (bits width v)) ≡ list_any (λ p. prefix_holds width p v) ps
front-any width v [] fit small = refl
front-any width v (p ∷ ps) fit small =
    front_step (begins (prefix_bits width p) (bits width v)) (row_of width p) (find (λ x. begins x.bits (bits width v)) (map (row_of width) ps)) (list_any (λ q. prefix_holds width q v) ps)
    (front-any width v ps (λ k d lt. fit (suc k) d (omega arith)) small)
    ∙ ap (λ t. t || list_any (λ q. prefix_holds width q v) ps) (begins-prefix width p v (fit 0 p (omega arith)) small)

count-rows : (width : ℕ) (ps : List Prefix) → count (map (row_of width) ps) ≡ length ps
count-rows width [] = refl
count-rows width (p ∷ ps) =
    let weight = sum_by-cons (λ (x : Row Prefix). 1) (row_of width p) (map (row_of width) ps) in rw weight (let rest = count-rows width ps in omega arith)

pub least : (width : ℕ) (set : ℕ → Bool) (ps : List Prefix) → HoldExactly width set ps → length (shortest_in width set width 0) ≤ length ps
least width set ps h =
    let shows : Shows set width 0 (map (row_of width) ps) =
    λ k small. let e : k ≡ 0 + k = omega arith in front-any width k ps h.fit small ∙ h.exact k small ∙ ap set e in
    let bound = block_least width set width 0 (map (row_of width) ps) shows in
    let rows = count-rows width ps in
    omega arith
