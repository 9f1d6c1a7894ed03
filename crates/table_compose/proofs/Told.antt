-- Of two lists it can be told whether they decide alike.
use Rattle.std.proofs.Common.{◌≡◌, ◌∷◌, ℕ, zero, suc, List, [], ◌<◌, ◌^◌, Bool, true, false, Option, Some, None, refl, ap, arith, sym, ◌∙◌, inl, inr, subst}
use Rattle.std.specs.Prelude.{◌⊎◌}
use Rattle.std.specs.Bool.{Decides}
use Rattle.std.specs.Str.{bytes_eq}
use Rattle.std.proofs.lemmas.Bool.{cases_lt, false≢true}
use Rattle.std.proofs.lemmas.Option.{none-some, same_Some}
use Rattle.std.proofs.lemmas.Slice.Eq.{bytes_eq-Decides}
use Rattle.field_boxes.specs.Headline.Classifier.{Rule, residue, source}
use Rattle.field_boxes.specs.Headline.Fields.{width}
use Rattle.field_boxes.proofs.Residues.{source-residue}
use Rattle.table_compose.specs.Choices.{AreAlike}
use Rattle.table_compose.proofs.OneCost.{alike-residue}

-- the fact holds, or it doesn't
abbrev pub Told : Type 0 → Type 0
Told P = P ⊎ ¬ P

by_test : {P : Type 0} (t : Bool) → Decides t P → Told P
by_test true d = inl (d.0 refl)
by_test false d = inr (λ p. false≢true (d.1 p))

names_told : (a b : Option (List ℕ)) → Told (a ≡ b)
names_told None None = inl refl
names_told None (Some y) = inr (λ e. none-some y e)
names_told (Some x) None = inr (λ e. none-some x (sym e))
names_told (Some x) (Some y) = elim (by_test (bytes_eq x y) (bytes_eq-Decides x y)) [
  | inl e ↦ inl (ap Some e)
  | inr other ↦ inr (λ e. other (same_Some x y e))
]

-- what holds of the numbers below one, and of that one
each_more : (P : ℕ → Type 0) (n : ℕ) → ((v : ℕ) → v < n → P v) → P n → (v : ℕ) → v < suc n → P v
each_more P n below here v small = elim (cases_lt v n) [
  | inl less ↦ below v less
  | inr ge ↦ let same : n ≡ v = omega (arith, small, ge) in subst P same here
]

-- of numbers below a bound it can be told whether a fact holds of all, where it can be told of each
each_told : (P : ℕ → Type 0) → ((v : ℕ) → Told (P v)) → (n : ℕ) → Told ((v : ℕ) → v < n → P v)
each_told P told zero = inl (λ v small. absurd (omega (arith, small)))
each_told P told (suc n) = elim (told n) [
  | inl here ↦ elim (each_told P told n) [
    | inl below ↦ inl (each_more P n below here)
    | inr some ↦ inr (λ all. some (λ v small. all v (omega (arith, small))))
  ]
  | inr this ↦ inr (λ all. this (all n (omega arith)))
]

no_field : (R S : List (Rule (List ℕ))) → source [] [] R ≡ source [] [] S → AreAlike [] R S
no_field R S e [] ok = e
no_field R S e (v ∷ values) ok = absurd ok

-- lists are alike where their residues are at each value of the first field
one_field : (f : ℕ) (fields : List ℕ) (R S : List (Rule (List ℕ))) → ((v : ℕ) → v < 2 ^ width f → AreAlike fields (residue f v R) (residue f v S)) → AreAlike (f ∷ fields) R S
one_field f fields R S h [] ok = absurd ok
one_field f fields R S h (v ∷ values) ok = source-residue f v fields values R ∙ h v ok.0 values ok.1 ∙ sym (source-residue f v fields values S)

pub alike_told : (fields : List ℕ) (R S : List (Rule (List ℕ))) → Told (AreAlike fields R S)
alike_told [] R S = elim (names_told (source [] [] R) (source [] [] S)) [
  | inl e ↦ inl (no_field R S e)
  | inr other ↦ inr (λ h. other (h [] tt))
]
alike_told (f ∷ fields) R S =
    elim (each_told (λ v. AreAlike fields (residue f v R) (residue f v S)) (λ v. alike_told fields (residue f v R) (residue f v S)) (2 ^ width f)) [
      | inl all ↦ inl (one_field f fields R S all)
      | inr some ↦ inr (λ h. some (alike-residue f fields R S h))
    ]
