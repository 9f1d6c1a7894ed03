-- Lists of five, one for each field.
use Rattle.std.proofs.Common.{◌≡◌, ◌∷◌, ℕ, zero, suc, ◌^◌, ◌<◌, List, [], length, slice_index, get_or, map, ap, sym, refl, subst, arith}
use Rattle.field_boxes.specs.Headline.Fields.{stated, width}
use Rattle.field_boxes.specs.Headline.Prefix.{FitsWidth}
use Rattle.field_boxes.specs.declared.prefix.Prefix.{Prefix}
use Rattle.ternary_words.specs.Prefixes.{FitFields, mask_of, masks_of}
use Rattle.ternary_words.specs.Word.{field_part}
use Rattle.ternary_words.proofs.PrefixMasks.{mask_small}

-- a list of five by its items
pub five_of : {A : Type 0} (xs : List A) (d : A) → length xs ≡ 5 →
    xs ≡ get_or xs 0 d ∷ get_or xs 1 d ∷ get_or xs 2 d ∷ get_or xs 3 d ∷ get_or xs 4 d ∷ []
five_of [] z h = absurd (omega arith)
five_of (a ∷ []) z h = absurd (omega arith)
five_of (a ∷ b ∷ []) z h = absurd (omega arith)
five_of (a ∷ b ∷ c ∷ []) z h = absurd (omega arith)
five_of (a ∷ b ∷ c ∷ d ∷ []) z h = absurd (omega arith)
five_of (a ∷ b ∷ c ∷ d ∷ e ∷ []) z h = refl
five_of (a ∷ b ∷ c ∷ d ∷ e ∷ f ∷ gs) z h = absurd (omega arith)

-- each of five prefixes fits its field
pub record FitFive (ps : List Prefix) (d : Prefix) : Type 0 where
  pub source : FitsWidth 32 (get_or ps 0 d)
  pub destination : FitsWidth 32 (get_or ps 1 d)
  pub source_port : FitsWidth 16 (get_or ps 2 d)
  pub destination_port : FitsWidth 16 (get_or ps 3 d)
  pub protocol : FitsWidth 8 (get_or ps 4 d)

pub fit_five : (ps : List Prefix) (d : Prefix) → length ps ≡ 5 → FitFields stated ps → FitFive ps d
fit_five ps d five fits =
    let f = subst (FitFields stated) (five_of ps d five) fits in
    record { source = f.0; destination = f.1.0; source_port = f.1.1.0; destination_port = f.1.1.1.0; protocol = f.1.1.1.1.0 }

-- each of five numbers is below the size of its field
pub below_fields : (a b c d e : ℕ) → a < 2 ^ 32 → b < 2 ^ 32 → c < 2 ^ 16 → d < 2 ^ 16 → e < 2 ^ 8 →
    (k : ℕ) → k < 5 → slice_index (a ∷ b ∷ c ∷ d ∷ e ∷ []) k < 2 ^ width k
below_fields a b c d e ha hb hc hd he zero h = ha
below_fields a b c d e ha hb hc hd he (suc zero) h = hb
below_fields a b c d e ha hb hc hd he (suc (suc zero)) h = hc
below_fields a b c d e ha hb hc hd he (suc (suc (suc zero))) h = hd
below_fields a b c d e ha hb hc hd he (suc (suc (suc (suc zero)))) h = he
below_fields a b c d e ha hb hc hd he (suc (suc (suc (suc (suc k))))) h = absurd (omega arith)

-- five numbers are the parts of a key
pub field_parts : (n a b c d e : ℕ) → a ≡ field_part 0 n → b ≡ field_part 1 n → c ≡ field_part 2 n → d ≡ field_part 3 n → e ≡ field_part 4 n →
    (k : ℕ) → k < 5 → slice_index (a ∷ b ∷ c ∷ d ∷ e ∷ []) k ≡ field_part k n
field_parts n a b c d e ha hb hc hd he zero h = ha
field_parts n a b c d e ha hb hc hd he (suc zero) h = hb
field_parts n a b c d e ha hb hc hd he (suc (suc zero)) h = hc
field_parts n a b c d e ha hb hc hd he (suc (suc (suc zero))) h = hd
field_parts n a b c d e ha hb hc hd he (suc (suc (suc (suc zero)))) h = he
field_parts n a b c d e ha hb hc hd he (suc (suc (suc (suc (suc k))))) h = absurd (omega arith)

-- the masks of five prefixes
pub masks_five : (ps : List Prefix) (d : Prefix) → length ps ≡ 5 →
    mask_of 32 (get_or ps 0 d) ∷ mask_of 32 (get_or ps 1 d) ∷ mask_of 16 (get_or ps 2 d) ∷ mask_of 16 (get_or ps 3 d) ∷ mask_of 8 (get_or ps 4 d) ∷ [] ≡ masks_of stated ps
masks_five ps d five = ap (masks_of stated) (sym (five_of ps d five))

below_mask : (w n : ℕ) (p : Prefix) → FitsWidth w p → n ≡ mask_of w p → n < 2 ^ w
below_mask w n p fits e = rw e (mask_small w p fits)

pub masks_below : (ps : List Prefix) (d : Prefix) → FitFive ps d → (m0 m1 m2 m3 m4 : ℕ) →
    m0 ≡ mask_of 32 (get_or ps 0 d) → m1 ≡ mask_of 32 (get_or ps 1 d) → m2 ≡ mask_of 16 (get_or ps 2 d) → m3 ≡ mask_of 16 (get_or ps 3 d) → m4 ≡ mask_of 8 (get_or ps 4 d) →
    (k : ℕ) → k < 5 → slice_index (m0 ∷ m1 ∷ m2 ∷ m3 ∷ m4 ∷ []) k < 2 ^ width k
masks_below ps d f m0 m1 m2 m3 m4 e0 e1 e2 e3 e4 =
    below_fields m0 m1 m2 m3 m4 (below_mask 32 m0 (get_or ps 0 d) f.source e0) (below_mask 32 m1 (get_or ps 1 d) f.destination e1) (below_mask 16 m2 (get_or ps 2 d) f.source_port e2) (below_mask 16 m3 (get_or ps 3 d) f.destination_port e3) (below_mask 8 m4 (get_or ps 4 d) f.protocol e4)

-- the values of five prefixes
pub values_five : (ps : List Prefix) (d : Prefix) → length ps ≡ 5 →
    (get_or ps 0 d).value ∷ (get_or ps 1 d).value ∷ (get_or ps 2 d).value ∷ (get_or ps 3 d).value ∷ (get_or ps 4 d).value ∷ [] ≡ map (λ p. p.value) ps
values_five ps d five = ap (map (λ (p : Prefix). p.value)) (sym (five_of ps d five))

pub values_below : (ps : List Prefix) (d : Prefix) → FitFive ps d →
    (k : ℕ) → k < 5 → slice_index ((get_or ps 0 d).value ∷ (get_or ps 1 d).value ∷ (get_or ps 2 d).value ∷ (get_or ps 3 d).value ∷ (get_or ps 4 d).value ∷ []) k < 2 ^ width k
values_below ps d f = below_fields _ _ _ _ _ f.source.small f.destination.small f.source_port.small f.destination_port.small f.protocol.small
