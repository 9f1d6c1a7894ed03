-- The trits of a prefix: its bits where its mask is 1, and '*' below.
use Rattle.std.proofs.Common.{◌≡◌, ◌∷◌, ◌++◌, ℕ, zero, suc, ◌+◌, ◌-◌, ◌*◌, ◌^◌, List, [], Bool, true, false, Some, None, length, replicate, map, take, ap, refl, sym, subst, ◌∙◌, arith}
use Rattle.std.proofs.lemmas.Nat.{pow_pos}
use Rattle.std.proofs.Math.Numerals.{one-add}
use Rattle.std.proofs.Math.Nat.{pow-suc}
use Rattle.field_boxes.specs.Headline.Bits.{bits}
use Rattle.field_boxes.specs.Headline.Fields.{width}
use Rattle.field_boxes.specs.Headline.Prefix.{FitsWidth}
use Rattle.field_boxes.specs.declared.prefix.Prefix.{Prefix}
use Rattle.field_boxes.proofs.Bits.{length-bits}
use Rattle.ternary_words.specs.Headline.Word.{field_bits}
use Rattle.ternary_words.specs.Word.{trits}
use Rattle.ternary_words.specs.Prefixes.{mask_of, masks_of, prefix_trits, fields_trits, FitFields}
use Rattle.ternary_words.proofs.Joined.{bits-joined}
use Rattle.ternary_words.proofs.TritBits.{trits-append}

bits-zero : (n : ℕ) → bits n 0 ≡ replicate n false
bits-zero zero = refl
bits-zero (suc n) =
    let p = pow_pos n in
    let none : 0 * 2 ^ n + 0 ≡ 0 = omega arith in
    ap (λ m. bits m 0) (sym (one-add n)) ∙ ap (bits (1 + n)) (sym none) ∙ bits-joined 1 n 0 0 p ∙ ap (λ bs. false ∷ bs) (bits-zero n)

bits-ones : (n : ℕ) → bits n (2 ^ n - 1) ≡ replicate n true
bits-ones zero = refl
bits-ones (suc n) =
    let p = pow_pos n in
    let double : 2 ^ suc n ≡ 2 ^ n * 2 = pow-suc 2 n in
    let parts : 2 ^ suc n - 1 ≡ 1 * 2 ^ n + (2 ^ n - 1) = omega (arith, p, double) in
    ap (λ m. bits m (2 ^ suc n - 1)) (sym (one-add n)) ∙ ap (bits (1 + n)) parts ∙ bits-joined 1 n 1 (2 ^ n - 1) (omega (arith, p)) ∙ ap (λ bs. true ∷ bs) (bits-ones n)

-- a mask of l bits above k others
bits-mask : (l k : ℕ) → bits (l + k) ((2 ^ l - 1) * 2 ^ k) ≡ replicate l true ++ replicate k false
bits-mask l k =
    let p = pow_pos k in
    let e : (2 ^ l - 1) * 2 ^ k ≡ (2 ^ l - 1) * 2 ^ k + 0 = omega arith in
    ap (bits (l + k)) e ∙ bits-joined l k (2 ^ l - 1) 0 p ∙ ap (λ bs. bs ++ bits k 0) (bits-ones l) ∙ ap (λ bs. replicate l true ++ bs) (bits-zero k)

trits-none : (k : ℕ) (xs : List Bool) → length xs ≡ k → trits (replicate k false) xs ≡ replicate k None
trits-none zero xs h = refl
trits-none (suc k) [] h = absurd (omega arith)
trits-none (suc k) (x ∷ xs) h = ap (λ ts. None ∷ ts) (trits-none k xs (omega arith))

trits-front : (l k : ℕ) (xs : List Bool) → length xs ≡ l + k →
    trits (replicate l true ++ replicate k false) xs ≡ map (λ b. Some b) (take l xs) ++ replicate k None
trits-front zero k xs h = trits-none k xs (omega arith)
trits-front (suc l) k [] h = absurd (omega arith)
trits-front (suc l) k (x ∷ xs) h = ap (λ ts. Some x ∷ ts) (trits-front l k xs (omega arith))

at_width : (w l k p : ℕ) → l + k ≡ w →
    trits (bits w ((2 ^ l - 1) * 2 ^ k)) (bits w p) ≡ map (λ b. Some b) (take l (bits w p)) ++ replicate k None
at_width w l k p e =
    subst (λ n. trits (bits n ((2 ^ l - 1) * 2 ^ k)) (bits n p) ≡ map (λ b. Some b) (take l (bits n p)) ++ replicate k None) e
    (ap (λ ms. trits ms (bits (l + k) p)) (bits-mask l k) ∙ trits-front l k (bits (l + k) p) (length-bits (l + k) p))

pub trits-prefix : (w : ℕ) (p : Prefix) → FitsWidth w p → trits (bits w (mask_of w p)) (bits w p.value) ≡ prefix_trits w p
trits-prefix w p fits =
    let le = fits.len in
    let whole : p.len + (w - p.len) ≡ w = omega arith in
    at_width w p.len (w - p.len) p.value whole

-- field by field
pub trits-fields : (fs : List ℕ) (ps : List Prefix) → FitFields fs ps →
    trits (field_bits fs (masks_of fs ps)) (field_bits fs (map (λ p. p.value) ps)) ≡ fields_trits fs ps
trits-fields [] ps fits = refl
trits-fields (f ∷ fs) [] fits = refl
trits-fields (f ∷ fs) (p ∷ ps) fits =
    let m = bits (width f) (mask_of (width f) p) in
    let v = bits (width f) p.value in
    let same : length m ≡ length v = length-bits (width f) (mask_of (width f) p) ∙ sym (length-bits (width f) p.value) in
    trits-append m (field_bits fs (masks_of fs ps)) v (field_bits fs (map (λ (q : Prefix). q.value) ps)) same
    ∙ ap (λ ts. ts ++ trits (field_bits fs (masks_of fs ps)) (field_bits fs (map (λ (q : Prefix). q.value) ps))) (trits-prefix (width f) p fits.0)
    ∙ ap (λ ts. prefix_trits (width f) p ++ ts) (trits-fields fs ps fits.1)
