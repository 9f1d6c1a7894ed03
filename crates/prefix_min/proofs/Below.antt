-- Rows that are longer than the prefix of a part, as rows below the part.
use Rattle.std.proofs.Common.{◌≡◌, ◌∷◌, ◌++◌, ℕ, suc, List, [], ◌+◌, ◌-◌, ◌*◌, ◌/◌, ◌%◌, ◌^◌, ◌<◌, ◌≤◌, Bool, true, false, refl, ap, arith, sym, ◌∙◌, subst, length, map}
use Rattle.std.specs.Prelude.{unwrap_or}
use Rattle.std.specs.List.{All, AllByRecursion}
use Rattle.std.proofs.lemmas.Nat.{shr_split, shr_high, mod_low}
use Rattle.std.proofs.lemmas.List.{length-take-le}
use Rattle.std.proofs.lemmas.List.Elements.{All-head, All-tail}
use Rattle.field_boxes.specs.Headline.Prefix.{FitsWidth}
use Rattle.field_boxes.specs.Headline.Bits.{bits}
use Rattle.field_boxes.proofs.Bits.{bits-add, bits-mod, length-bits}
use Rattle.field_boxes.proofs.Halves.{Row, IsRootless, front, front-half, half, is_root, kept_below, weight-halves}
use Rattle.prefix_min.specs.declared.row.PrefixRow.{PrefixRow}
use Rattle.prefix_min.specs.PrefixList as list
use Rattle.prefix_min.specs.Choice.{IsLonger}
use Rattle.prefix_min.specs.Rows.{IsPart}
use Rattle.prefix_min.proofs.Root.{value, value-add, value-high, value-low, bits-value, weigh}
use Rattle.prefix_min.proofs.Lower.{IsRightWith, weight_of}
use Rattle.prefix_min.proofs.Whole.{front_bits, row_bits, weight_bits}

-- the rows below the part with these bits
abbrev pub descend : List Bool → List (Row ℕ) → List (Row ℕ)
descend [] rows = rows
descend (b ∷ bs) rows = descend bs (half b rows)

-- each row has more bits than this
abbrev AreLonger : ℕ → List (Row ℕ) → Type 0
AreLonger k rows = AllByRecursion (λ r. k < length r.bits) rows

longer_kept : (b : Bool) (bs : List Bool) (payload : ℕ) (rest : List (Row ℕ)) (k : ℕ) → suc k < length bs → AreLonger k rest → AreLonger k (kept_below b bs payload rest)
longer_kept b [] payload rest k h g = g
longer_kept true (true ∷ bs) payload rest k h g = (omega (arith, h), g)
longer_kept false (false ∷ bs) payload rest k h g = (omega (arith, h), g)
longer_kept true (false ∷ bs) payload rest k h g = g
longer_kept false (true ∷ bs) payload rest k h g = g

longer_half : (b : Bool) (k : ℕ) (rows : List (Row ℕ)) → AreLonger (suc k) rows → AreLonger k (half b rows)
longer_half b k [] h = tt
longer_half b k (r ∷ rows) h = longer_kept b r.bits r.payload (half b rows) k h.0 (longer_half b k rows h.1)

no_root : (bs : List Bool) (k : ℕ) → k < length bs → is_root bs ≡ false
no_root [] k h = absurd (omega (arith, h))
no_root (b ∷ bs) k h = refl

longer-rootless : (k : ℕ) (rows : List (Row ℕ)) → AreLonger k rows → IsRootless rows
longer-rootless k [] h = tt
longer-rootless k (r ∷ rows) h = (no_root r.bits k h.0, longer-rootless k rows h.1)

front-descend : (p b : List Bool) (rows : List (Row ℕ)) → AreLonger (length p) rows → front rows (p ++ b) ≡ front (descend p rows) b
front-descend [] b rows h = refl
front-descend (x ∷ p) b rows h = front-half x (p ++ b) rows (longer-rootless (length (x ∷ p)) rows h) ∙ front-descend p b (half x rows) (longer_half x (length p) rows h)

rootless-descend : (p : List Bool) (rows : List (Row ℕ)) → AreLonger (length p) rows → IsRootless (descend p rows)
rootless-descend [] rows h = longer-rootless 0 rows h
rootless-descend (x ∷ p) rows h = rootless-descend p (half x rows) (longer_half x (length p) rows h)

weight_half : (w : ℕ → ℕ) (b : Bool) (rows : List (Row ℕ)) → weigh w (half b rows) ≤ weigh w rows
weight_half w true rows = omega (arith, weight-halves w rows)
weight_half w false rows = omega (arith, weight-halves w rows)

weight-descend : (w : ℕ → ℕ) (p : List Bool) (rows : List (Row ℕ)) → weigh w (descend p rows) ≤ weigh w rows
weight-descend w [] rows = omega arith
weight-descend w (x ∷ p) rows = omega (arith, weight-descend w p (half x rows), weight_half w x rows)

-- the bits of a part's values: those of the part, and those below it
abbrev part_bits : ℕ → ℕ → ℕ → List Bool
part_bits width n low = bits (width - n) (low / 2 ^ n)

bits-in : (width n low : ℕ) (b : List Bool) → IsPart width n low → length b ≡ n → bits width (value n low b) ≡ part_bits width n low ++ b
bits-in width n low b p at =
    let x = value n 0 b in
    let q = low / 2 ^ n in
    let small : x < 2 ^ n = omega (arith, value-high n 0 b) in
    let whole : value n low b ≡ q * 2 ^ n + x = omega (arith, value-add n low b, shr_split low n, p.aligned) in
    let top : value n low b / 2 ^ n ≡ q = ap (λ v. v / 2 ^ n) whole ∙ shr_high q n x small in
    let rest : bits n (value n low b) ≡ b = sym (bits-mod n (value n low b)) ∙ ap (λ v. bits n (v % 2 ^ n)) whole ∙ ap (bits n) (mod_low q n x small) ∙ bits-value n b at in
    let sum : width ≡ width - n + n = omega (arith, p.len) in
    ap (λ w. bits w (value n low b)) sum ∙ bits-add (width - n) n (value n low b) ∙ ap (λ t. bits (width - n) t ++ bits n (value n low b)) top ∙ ap (λ bs. part_bits width n low ++ bs) rest

longer_bits : (width len : ℕ) (rows : List PrefixRow) → All (λ s. FitsWidth width s.prefix) rows → All (IsLonger len) rows → AreLonger len (map (row_bits width) rows)
longer_bits width len [] fits longer = tt
longer_bits width len (s ∷ rows) fits longer =
    let fit = All-head (λ x. FitsWidth width x.prefix) s rows fits in
    let long = All-head (IsLonger len) s rows longer in
    let whole = length-bits width s.prefix.value in
    let le = fit.len in
    let same = length-take-le s.prefix.len (bits width s.prefix.value) (omega (arith, whole, le)) in
    (omega (arith, same, long), longer_bits width len rows (All-tail (λ x. FitsWidth width x.prefix) s rows fits) (All-tail (IsLonger len) s rows longer))

-- longer rows that answer in a part, as rows below the part that answer there and weigh no more
pub record StandBelow (weights : List ℕ) (f : ℕ → ℕ) (n low d most : ℕ) : Type 0 where
  pub rows : List (Row ℕ)
  pub rootless : IsRootless rows
  pub right : IsRightWith n low f d rows
  pub light : weigh (weight_of weights) rows ≤ most

pub below : (weights : List ℕ) (f : ℕ → ℕ) (width n low d : ℕ) (others : List PrefixRow) → IsPart width n low → All (λ s. FitsWidth width s.prefix) others → All (IsLonger (width - n)) others →
    ((v : ℕ) → low ≤ v → v < low + 2 ^ n → unwrap_or (list.front width others v) d ≡ f v) → StandBelow weights f n low d (list.weight weights others)
below weights f width n low d others p fits longer answers =
    let rows = map (row_bits width) others in
    let path = part_bits width n low in
    let long : AreLonger (length path) rows = subst (λ k. AreLonger k rows) (sym (length-bits (width - n) (low / 2 ^ n))) (longer_bits width (width - n) others fits longer) in
    record {
      rows = descend path rows;
      rootless = rootless-descend path rows long;
      right = λ b at.
          let v = value n low b in
          let least = value-low n low b in
          let most = value-high n low b in
          let room = p.within in
          ap (λ o. unwrap_or o d) (sym (front-descend path b rows long) ∙ ap (front rows) (sym (bits-in width n low b p at)) ∙ sym (front_bits width others v fits (omega arith)))
          ∙ answers v least most;
      light = omega (arith, weight-descend (weight_of weights) path rows, weight_bits width weights others);
    }
