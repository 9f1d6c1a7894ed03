-- Rows of a part and of its halves.
use Rattle.std.proofs.Common.{◌≡◌, ◌∷◌, ◌++◌, ℕ, List, [], ◌+◌, ◌-◌, ◌%◌, ◌^◌, ◌<◌, ◌≤◌, Bool, true, false, refl, ap, arith, sym, ◌∙◌, inl, inr, subst}
use Rattle.std.specs.Prelude.{◌⊎◌, ◌&&◌, cond, find, Option, Some, None, option_map, unwrap_or, nat_le}
use Rattle.std.specs.List.{AllByRecursion}
use Rattle.std.proofs.lemmas.Bool.{false≢true, leb-true, le-leb}
use Rattle.std.proofs.lemmas.Nat.{pow_pos}
use Rattle.field_boxes.specs.Headline.Prefix.{FitsWidth, prefix_holds}
use Rattle.field_boxes.proofs.Prefixes.{interval-prefix}
use Rattle.prefix_min.specs.declared.row.PrefixRow.{PrefixRow}
use Rattle.prefix_min.specs.PrefixList.{front}
use Rattle.prefix_min.specs.Rows.{IsPart, IsInside, Nests, AreNested, row_of}

pub both : (a b : Bool) → (a && b) ≡ true → (a ≡ true) × (b ≡ true)
both true b h = (refl, h)
both false b h = absurd (false≢true h)

-- a row holds the values of its interval
pub held_within : (width : ℕ) (r : PrefixRow) (v : ℕ) → FitsWidth width r.prefix → prefix_holds width r.prefix v ≡ true → (r.prefix.value ≤ v) × (v < r.prefix.value + 2 ^ (width - r.prefix.len))
held_within width r v fits h =
    let k = width - r.prefix.len in
    let parts = both (nat_le r.prefix.value v) (nat_le v (r.prefix.value + (2 ^ k - 1))) (interval-prefix k r.prefix.value v fits.low ∙ h) in
    let above = leb-true r.prefix.value v parts.0 in
    let under = leb-true v (r.prefix.value + (2 ^ k - 1)) parts.1 in
    (above, omega (arith, under, pow_pos k))

pub within-held : (width : ℕ) (r : PrefixRow) (v : ℕ) → FitsWidth width r.prefix → r.prefix.value ≤ v → v < r.prefix.value + 2 ^ (width - r.prefix.len) → prefix_holds width r.prefix v ≡ true
within-held width r v fits above under =
    let k = width - r.prefix.len in
    sym (interval-prefix k r.prefix.value v fits.low) ∙ rw (le-leb r.prefix.value v above, le-leb v (r.prefix.value + (2 ^ k - 1)) (omega (arith, under))) refl

free_bits : (width bits : ℕ) → bits ≤ width → width - (width - bits) ≡ bits
free_bits width bits le = omega arith

-- the row of a part is inside it
pub row-inside : (width bits low label : ℕ) → IsPart width bits low → IsInside width bits low (row_of width bits low label)
row-inside width bits low label p =
    let e = free_bits width bits p.len in
    let fits : FitsWidth width (row_of width bits low label).prefix = record {
      wide = p.wide;
      len = omega arith;
      small = omega (arith, p.within, pow_pos bits);
      low = subst (λ k. low % 2 ^ k ≡ 0) (sym e) p.aligned;
    } in
    record {
      fits = fits;
      len = omega (arith, p.len);
      from = omega arith;
      below = omega (arith, ap (λ k. 2 ^ k) e);
    }

pub row-holds : (width bits low label v : ℕ) → IsPart width bits low → low ≤ v → v < low + 2 ^ bits → prefix_holds width (row_of width bits low label).prefix v ≡ true
row-holds width bits low label v p above under =
    within-held width (row_of width bits low label) v (row-inside width bits low label p).fits above (omega (arith, under, ap (λ k. 2 ^ k) (free_bits width bits p.len)))

pub all_weaker : (P Q : PrefixRow → Type 0) (xs : List PrefixRow) → ((r : PrefixRow) → P r → Q r) → AllByRecursion P xs → AllByRecursion Q xs
all_weaker P Q [] f g = tt
all_weaker P Q (x ∷ xs) f g = (f x g.0, all_weaker P Q xs f g.1)

pub not_true : (b : Bool) → (b ≡ true → ⊥) → b ≡ false
not_true true h = absurd (h refl)
not_true false h = refl

front_none : (t : Bool) (r : PrefixRow) (rest : Option PrefixRow) → t ≡ false → option_map (λ x. x.label) rest ≡ None →
    option_map (λ x. x.label) (cond t (Some r) rest) ≡ None
front_none true r rest e h = cc
front_none false r rest e h = h

-- rows that don't hold a value don't answer it
pub front-unheld : (width v : ℕ) (rows : List PrefixRow) → AllByRecursion (λ r. prefix_holds width r.prefix v ≡ false) rows → front width rows v ≡ None
front-unheld width v [] h = refl
front-unheld width v (r ∷ rows) h =
    front_none (prefix_holds width r.prefix v) r (find (λ x. prefix_holds width x.prefix v) rows) h.0 (front-unheld width v rows h.1)

-- rows of a part hold no value outside it
pub front-outside : (width bits low v : ℕ) (rows : List PrefixRow) → AllByRecursion (IsInside width bits low) rows → (v < low) ⊎ (low + 2 ^ bits ≤ v) →
    front width rows v ≡ None
front-outside width bits low v rows inside out =
    front-unheld width v rows (all_weaker (IsInside width bits low) (λ r. prefix_holds width r.prefix v ≡ false) rows
    (λ r i. not_true (prefix_holds width r.prefix v) (λ h.
    let w = held_within width r v i.fits h in
    elim out [ inl lt ↦ omega (arith, w.0, i.from, lt) | inr ge ↦ omega (arith, w.1, i.below, ge) ])) inside)

append_step : (t : Bool) (r : PrefixRow) (o q : Option PrefixRow) (x d : ℕ) → unwrap_or (option_map (λ y. y.label) o) d ≡ unwrap_or (option_map (λ y. y.label) q) x →
    unwrap_or (option_map (λ y. y.label) (cond t (Some r) o)) d ≡ unwrap_or (option_map (λ y. y.label) (cond t (Some r) q)) x
append_step true r o q x d h = refl
append_step false r o q x d h = h

-- where the first rows hold no value, the others answer
pub front-append : (width : ℕ) (xs ys : List PrefixRow) (v d : ℕ) → unwrap_or (front width (xs ++ ys) v) d ≡ unwrap_or (front width xs v) (unwrap_or (front width ys v) d)
front-append width [] ys v d = refl
front-append width (r ∷ xs) ys v d =
    append_step (prefix_holds width r.prefix v) r (find (λ x. prefix_holds width x.prefix v) (xs ++ ys)) (find (λ x. prefix_holds width x.prefix v) xs)
    (unwrap_or (front width ys v) d) d (front-append width xs ys v d)

pub all_append : (P : PrefixRow → Type 0) (xs ys : List PrefixRow) → AllByRecursion P xs → AllByRecursion P ys → AllByRecursion P (xs ++ ys)
all_append P [] ys g h = h
all_append P (x ∷ xs) ys g h = (g.0, all_append P xs ys g.1 h)

pub nested_append : (width : ℕ) (P Q : PrefixRow → Type 0) (xs ys : List PrefixRow) → ((r s : PrefixRow) → P r → Q s → Nests width r s) →
    AllByRecursion P xs → AllByRecursion Q ys → AreNested width xs → AreNested width ys → AreNested width (xs ++ ys)
nested_append width P Q [] ys f p q g h = h
nested_append width P Q (x ∷ xs) ys f p q g h =
    (all_append (Nests width x) xs ys g.0 (all_weaker Q (Nests width x) ys (λ s. f x s p.0) q), nested_append width P Q xs ys f p.1 q g.1 h)

-- what lies in a part lies in a part about it
pub inside_wider : {width n bits low at : ℕ} {r : PrefixRow} → IsInside width n at r → n ≤ bits → low ≤ at → at + 2 ^ n ≤ low + 2 ^ bits →
    IsInside width bits low r
inside_wider i le from to = record { fits = i.fits; len = omega (arith, i.len, le); from = omega (arith, i.from, from); below = omega (arith, i.below, to) }

-- two parts of n bits that hold no value together
abbrev pub AreApart : ℕ → ℕ → ℕ → Type 0
AreApart n one two = (one + 2 ^ n ≤ two) ⊎ (two + 2 ^ n ≤ one)

-- nor do their rows
pub apart : {width n one two : ℕ} → AreApart n one two → (r s : PrefixRow) → IsInside width n one r → IsInside width n two s → Nests width r s
apart {width = width} away r s i j v h k = absurd (
    let a = held_within width r v i.fits h in
    let b = held_within width s v j.fits k in
    elim away [ inl le ↦ omega (arith, a.1, i.below, b.0, j.from, le) | inr le ↦ omega (arith, a.0, i.from, b.1, j.below, le) ]
    )

-- what the rows of the one and then of the other answer
pub apart_answer : (width n one two v d x : ℕ) (xs ys : List PrefixRow) → AreApart n one two → AllByRecursion (IsInside width n one) xs →
    AllByRecursion (IsInside width n two) ys →
    ((one ≤ v) × (v < one + 2 ^ n) × (unwrap_or (front width xs v) d ≡ x)) ⊎ ((two ≤ v) × (v < two + 2 ^ n) × (unwrap_or (front width ys v) d ≡ x)) →
    unwrap_or (front width (xs ++ ys) v) d ≡ x
apart_answer width n one two v d x xs ys away p q (inl h) =
    let out : (v < two) ⊎ (two + 2 ^ n ≤ v) = elim away [ inl le ↦ inl (omega (arith, h.1, le)) | inr le ↦ inr (omega (arith, h.0, le)) ] in
    front-append width xs ys v d ∙ ap (λ o. unwrap_or (front width xs v) (unwrap_or o d)) (front-outside width n two v ys q out) ∙ h.2
apart_answer width n one two v d x xs ys away p q (inr h) =
    let out : (v < one) ⊎ (one + 2 ^ n ≤ v) = elim away [ inl le ↦ inr (omega (arith, h.0, le)) | inr le ↦ inl (omega (arith, h.1, le)) ] in
    front-append width xs ys v d ∙ ap (λ o. unwrap_or o (unwrap_or (front width ys v) d)) (front-outside width n one v xs p out) ∙ h.2

pub front_head : (t : Bool) (r : PrefixRow) (o : Option PrefixRow) (d : ℕ) → t ≡ true → unwrap_or (option_map (λ x. x.label) (cond t (Some r) o)) d ≡ r.label
front_head true r o d h = refl
front_head false r o d h = absurd (false≢true h)
