use Rattle.std.proofs.Common.{◌≡◌, ◌+◌, ◌-◌, ◌/◌, ◌<◌, ◌^◌, ℕ, arith, subst, take}
use Rattle.std.specs.Prelude.{nat_eq}
use Rattle.field_boxes.specs.Headline.Bits.{bits}
use Rattle.field_boxes.specs.Bits.{begins}
use Rattle.field_boxes.proofs.Bits.{prefix-begins}
use Rattle.field_boxes.proofs.laws.prefixes_are_bits.Goals as goal

at_width : (w l k p v : ℕ) → l + k ≡ w → p < 2 ^ w → v < 2 ^ w → nat_eq (v / 2 ^ k) (p / 2 ^ k) ≡ begins (take l (bits w p)) (bits w v)
at_width w l k p v e =
    subst (λ n. p < 2 ^ n → v < 2 ^ n → nat_eq (v / 2 ^ k) (p / 2 ^ k) ≡ begins (take l (bits n p)) (bits n v)) e (λ h j. prefix-begins l k p v h j)

pub returns : goal.returns
returns c = λ width p fits v small.
    let whole : p.len + (width - p.len) ≡ width = let le = fits.len in omega arith in
    at_width width p.len (width - p.len) p.value v whole fits.small small
