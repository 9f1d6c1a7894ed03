-- Prefixes one after another, and that the prefixes of a block are a rising cover of the set's values there.
use Rattle.std.proofs.Common.{◌≡◌, ◌∷◌, ◌++◌, ℕ, zero, suc, ◌+◌, ◌-◌, ◌^◌, ◌<◌, ◌≤◌, List, [], Bool, true, false, nat_le, ap, refl, sym, subst, ◌∙◌, arith, ◌&&◌, ◌||◌, if◌then◌else◌, All, AllPairs, slice_index_or, pow_pos}
use Rattle.std.specs.List.{list_any}
use Rattle.std.proofs.lemmas.Bool.{and_parts, le-leb, lt-leb, leb-true}
use Rattle.std.proofs.Math.Bool.{and-false, or-false}
use Rattle.std.proofs.lemmas.List.Elements.{All-nil, All-cons}
use Rattle.std.proofs.lemmas.List.Kept.{AllPairs-cons}
use Rattle.std.proofs.lemmas.List.Folds.{list_any-append}
use Rattle.field_boxes.specs.declared.prefix.Prefix.{Prefix}
use Rattle.field_boxes.specs.Headline.Prefix.{FitsWidth, prefix_holds}
use Rattle.field_boxes.proofs.Prefixes.{interval-prefix}
use Rattle.range_prefix.specs.Cover.{IsApart}
use Rattle.range_prefix.specs.Shortest.{has_block, block_prefix, shortest_in}
use Rattle.field_boxes.proofs.Powers.{double, on_block}
use Rattle.field_boxes.proofs.Aligned.{IsBlock, block-fits, high_block, low_block}
use Rattle.range_prefix.proofs.Blocks.{has_block-at}

-- the value after the last that a prefix holds
abbrev pub after : ℕ → Prefix → ℕ
after width p = p.value + 2 ^ (width - p.len)

by_interval : (width : ℕ) (p : Prefix) (v : ℕ) → FitsWidth width p → prefix_holds width p v ≡ (nat_le p.value v && nat_le v (p.value + (2 ^ (width - p.len) - 1)))
by_interval width p v fits = sym (interval-prefix (width - p.len) p.value v fits.low)

not-below : (width : ℕ) (p : Prefix) (v : ℕ) → FitsWidth width p → v < p.value → prefix_holds width p v ≡ false
not-below width p v fits h = by_interval width p v fits ∙ ap (λ t. t && nat_le v (p.value + (2 ^ (width - p.len) - 1))) (lt-leb p.value v h)

not-above : (width : ℕ) (p : Prefix) (v : ℕ) → FitsWidth width p → after width p ≤ v → prefix_holds width p v ≡ false
not-above width p v fits h =
    let positive = pow_pos (width - p.len) in
    by_interval width p v fits ∙ ap (λ t. nat_le p.value v && t) (lt-leb v (p.value + (2 ^ (width - p.len) - 1)) (omega arith)) ∙ and-false (nat_le p.value v)

held-inside : (width : ℕ) (p : Prefix) (k : ℕ) → FitsWidth width p → k < 2 ^ (width - p.len) → prefix_holds width p (p.value + k) ≡ true
held-inside width p k fits h =
    by_interval width p (p.value + k) fits
    ∙ ap (λ t. t && nat_le (p.value + k) (p.value + (2 ^ (width - p.len) - 1))) (le-leb p.value (p.value + k) (omega arith))
    ∙ le-leb (p.value + k) (p.value + (2 ^ (width - p.len) - 1)) (omega arith)

held-before : (width : ℕ) (p : Prefix) (v : ℕ) → FitsWidth width p → prefix_holds width p v ≡ true → v < after width p
held-before width p v fits h =
    let positive = pow_pos (width - p.len) in
    let most = p.value + (2 ^ (width - p.len) - 1) in
    let parts = and_parts (nat_le p.value v) (nat_le v most) (sym (by_interval width p v fits) ∙ h) in
    let le : v ≤ p.value + (2 ^ (width - p.len) - 1) = leb-true v most parts.1 in
    omega arith

-- prefixes that fit the width, each after the one before it, from lo on and before hi
abbrev pub IsChain : ℕ → ℕ → List Prefix → ℕ → Type 0
IsChain width lo [] hi = lo ≤ hi
IsChain width lo (p ∷ ps) hi = FitsWidth width p × (lo ≤ p.value) × IsChain width (after width p) ps hi

chain-lower : (width lo mid hi : ℕ) (ps : List Prefix) → lo ≤ mid → IsChain width mid ps hi → IsChain width lo ps hi
chain-lower width lo mid hi [] h c = omega arith
chain-lower width lo mid hi (p ∷ ps) h c = let le = c.1 in (c.0, omega arith, c.2)

chain-append : (width lo mid hi : ℕ) (ps qs : List Prefix) → IsChain width lo ps mid → IsChain width mid qs hi → IsChain width lo (ps ++ qs) hi
chain-append width lo mid hi [] qs c d = chain-lower width lo mid hi qs c d
chain-append width lo mid hi (p ∷ ps) qs c d = (c.0, c.1, chain-append width (after width p) mid hi ps qs c.2 d)

chain-bounds : (width lo hi : ℕ) (ps : List Prefix) → IsChain width lo ps hi → lo ≤ hi
chain-bounds width lo hi [] c = c
chain-bounds width lo hi (p ∷ ps) c = let le = c.1 in let rest = chain-bounds width (after width p) hi ps c.2 in omega arith

pub chain-fit : (width lo hi : ℕ) (ps : List Prefix) → IsChain width lo ps hi → All (FitsWidth width) ps
chain-fit width lo hi [] c = All-nil (FitsWidth width)
chain-fit width lo hi (p ∷ ps) c = All-cons (FitsWidth width) p ps c.0 (chain-fit width (after width p) hi ps c.2)

chain-above : (width lo hi : ℕ) (ps : List Prefix) → IsChain width lo ps hi → All (λ p. lo ≤ p.value) ps
chain-above width lo hi [] c = All-nil (λ p. lo ≤ p.value)
chain-above width lo hi (p ∷ ps) c =
    let lower : lo ≤ after width p = omega arith in
    All-cons (λ q. lo ≤ q.value) p ps c.1 (chain-above width lo hi ps (chain-lower width lo (after width p) hi ps lower c.2))

none-below : (width lo hi v : ℕ) (ps : List Prefix) → IsChain width lo ps hi → v < lo → list_any (λ p. prefix_holds width p v) ps ≡ false
none-below width lo hi v [] c h = refl
none-below width lo hi v (p ∷ ps) c h =
    let le = c.1 in
    ap (λ t. t || list_any (λ q. prefix_holds width q v) ps) (not-below width p v c.0 (omega arith)) ∙ none-below width (after width p) hi v ps c.2 (omega arith)

none-above : (width lo hi v : ℕ) (ps : List Prefix) → IsChain width lo ps hi → hi ≤ v → list_any (λ p. prefix_holds width p v) ps ≡ false
none-above width lo hi v [] c h = refl
none-above width lo hi v (p ∷ ps) c h =
    let end = chain-bounds width (after width p) hi ps c.2 in
    ap (λ t. t || list_any (λ q. prefix_holds width q v) ps) (not-above width p v c.0 (omega arith)) ∙ none-above width (after width p) hi v ps c.2 h

pub chain-rising : (width lo hi : ℕ) (ps : List Prefix) → IsChain width lo ps hi → AllPairs (λ p q. p.value < q.value) ps
chain-rising width lo hi [] c = λ i j d lt within. absurd (omega arith)
chain-rising width lo hi (p ∷ ps) c =
    let above = chain-above width (after width p) hi ps c.2 in
    let positive = pow_pos (width - p.len) in
    AllPairs-cons (λ q r. q.value < r.value) p ps (λ k d lt. omega (arith, above k d lt)) (chain-rising width (after width p) hi ps c.2)

pub chain-apart : (width lo hi : ℕ) (ps : List Prefix) → IsChain width lo ps hi → AllPairs (IsApart width) ps
chain-apart width lo hi [] c = λ i j d lt within. absurd (omega arith)
chain-apart width lo hi (p ∷ ps) c =
    let above = chain-above width (after width p) hi ps c.2 in
    let fit = chain-fit width (after width p) hi ps c.2 in
    let later : All (IsApart width p) ps =
    λ k d lt v held. let before = held-before width p v c.0 held in not-below width (slice_index_or ps k d) v (fit k d lt) (omega (arith, above k d lt)) in
    AllPairs-cons (IsApart width) p ps later (chain-apart width (after width p) hi ps c.2)

single : (width n v : ℕ) → IsBlock width n v → IsChain width v (block_prefix width n v ∷ []) (v + 2 ^ n)
single width n v b =
    let least = b.least in
    let free : width - (width - n) ≡ n = omega arith in
    (block-fits width n v b, omega arith, subst (λ m. v + 2 ^ m ≤ v + 2 ^ n) (sym free) (omega arith))

one_value : (width v : ℕ) → IsBlock width zero v → (t : Bool) → IsChain width v (if t then block_prefix width zero v ∷ [] else []) (v + 2 ^ zero)
one_value width v b true = single width zero v b
one_value width v b false = omega arith

joined : (width n v : ℕ) (low high : List Prefix) → IsBlock width (suc n) v → IsChain width v low (v + 2 ^ n) → IsChain width (v + 2 ^ n) high (v + 2 ^ n + 2 ^ n) →
    (t : Bool) → IsChain width v (if t then block_prefix width (suc n) v ∷ [] else low ++ high) (v + 2 ^ suc n)
joined width n v low high b c d true = single width (suc n) v b
joined width n v low high b c d false =
    let twice = double n in
    let end : v + 2 ^ n + 2 ^ n ≡ v + 2 ^ suc n = omega arith in
    subst (IsChain width v (low ++ high)) end (chain-append width v (v + 2 ^ n) (v + 2 ^ n + 2 ^ n) low high c d)

pub chain-in : (width : ℕ) (set : ℕ → Bool) (n v : ℕ) → IsBlock width n v → IsChain width v (shortest_in width set n v) (v + 2 ^ n)
chain-in width set zero v b = one_value width v b (set v)
chain-in width set (suc n) v b =
    joined width n v (shortest_in width set n v) (shortest_in width set n (v + 2 ^ n)) b (chain-in width set n v (low_block width n v b)) (chain-in width set n (v + 2 ^ n) (high_block width n v b)) (has_block set (suc n) v)

-- the prefixes hold the values of the block that the set has
abbrev IsExact : ℕ → (ℕ → Bool) → ℕ → ℕ → List Prefix → Type 0
IsExact width set n v ps = (k : ℕ) → k < 2 ^ n → list_any (λ p. prefix_holds width p (v + k)) ps ≡ set (v + k)

whole-exact : (width : ℕ) (set : ℕ → Bool) (n v : ℕ) → IsBlock width n v → has_block set n v ≡ true → IsExact width set n v (block_prefix width n v ∷ [])
whole-exact width set n v b h k small =
    let least = b.least in
    let free : n ≡ width - (width - n) = omega arith in
    or-false (prefix_holds width (block_prefix width n v) (v + k))
    ∙ held-inside width (block_prefix width n v) k (block-fits width n v b) (subst (λ m. k < 2 ^ m) free small)
    ∙ sym (has_block-at set n v h k small)

one_exact : (width : ℕ) (set : ℕ → Bool) (v : ℕ) → IsBlock width zero v → (t : Bool) → set v ≡ t → IsExact width set zero v (if t then block_prefix width zero v ∷ [] else [])
one_exact width set v b true h = whole-exact width set zero v b h
one_exact width set v b false h = λ k small. let e : v + k ≡ v = omega arith in sym (ap set e ∙ h)

joined_exact : (width : ℕ) (set : ℕ → Bool) (n v : ℕ) (low high : List Prefix) → IsBlock width (suc n) v → IsChain width v low (v + 2 ^ n) → IsChain width (v + 2 ^ n) high (v + 2 ^ n + 2 ^ n) →
    IsExact width set n v low → IsExact width set n (v + 2 ^ n) high →
    (t : Bool) → has_block set (suc n) v ≡ t → IsExact width set (suc n) v (if t then block_prefix width (suc n) v ∷ [] else low ++ high)
joined_exact width set n v low high b c d f g true h = whole-exact width set (suc n) v b h
joined_exact width set n v low high b c d f g false h =
    let holds = λ (x : ℕ) (p : Prefix). prefix_holds width p x in
    on_block (λ x. list_any (λ p. prefix_holds width p x) (low ++ high) ≡ set x) n v
    (λ k small. list_any-append (holds (v + k)) low high ∙ ap (λ t. list_any (holds (v + k)) low || t) (none-below width (v + 2 ^ n) (v + 2 ^ n + 2 ^ n) (v + k) high d (omega arith))
    ∙ or-false (list_any (holds (v + k)) low) ∙ f k small)
    (λ k small. list_any-append (holds (v + 2 ^ n + k)) low high ∙ ap (λ t. t || list_any (holds (v + 2 ^ n + k)) high) (none-above width v (v + 2 ^ n) (v + 2 ^ n + k) low c (omega arith))
    ∙ g k small)

pub exact-in : (width : ℕ) (set : ℕ → Bool) (n v : ℕ) → IsBlock width n v → IsExact width set n v (shortest_in width set n v)
exact-in width set zero v b = one_exact width set v b (set v) refl
exact-in width set (suc n) v b =
    let low = low_block width n v b in
    let high = high_block width n v b in
    joined_exact width set n v (shortest_in width set n v) (shortest_in width set n (v + 2 ^ n)) b (chain-in width set n v low) (chain-in width set n (v + 2 ^ n) high)
    (exact-in width set n v low) (exact-in width set n (v + 2 ^ n) high) (has_block set (suc n) v) refl
