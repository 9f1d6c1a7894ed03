-- The place of a byte, as a search finds it.
use Rattle.std.proofs.Common.{◌≡◌, ◌∷◌, ℕ, zero, suc, ◌+◌, List, Bool, true, false, cond, [], ap, refl, sym, ◌∙◌, arith, add-one, Some, None}
use Rattle.std.specs.Prelude.{Option, option_map, position}
use Rattle.std.proofs.lemmas.Bool.{false≢true}
use Rattle.bstr.specs.Find.{IsFirstByte}
use Rattle.text_lines.proofs.Positions.{position-cons}

found_step : (p : ℕ → Bool) (b : ℕ) (text : List ℕ) (t : Bool) (r : Option ℕ) → p b ≡ t → IsFirstByte p (b ∷ text) r →
    ((o : Option ℕ) → IsFirstByte p text o → o ≡ position p text) → r ≡ cond t (Some 0) (option_map (λ i. i + 1) (position p text))
found_step p b text true None e h more = absurd (h 0 (omega arith) (omega arith) e)
found_step p b text true (Some zero) e h more = refl
found_step p b text true (Some (suc k)) e h more = absurd (h.0.before 0 (omega arith) (omega arith) e)
found_step p b text false None e h more =
    ap (option_map (λ i. i + 1)) (more None (λ k low high passes. h (suc k) (omega arith) (omega (arith, high)) passes))
found_step p b text false (Some zero) e h more = absurd (false≢true (sym e ∙ h.1))
found_step p b text false (Some (suc k)) e h more =
    let high = h.0.high in
    let found = more (Some k) (record { low = omega arith; high = omega (arith, high); before = λ i low below passes. h.0.before (suc i) (omega arith) (omega (arith, below)) passes }, h.1) in
    ap Some (sym (add-one k)) ∙ ap (option_map (λ i. i + 1)) found

pub found-position : (p : ℕ → Bool) (text : List ℕ) (r : Option ℕ) → IsFirstByte p text r → r ≡ position p text
found-position p [] None h = refl
found-position p [] (Some k) h = let high = h.0.high in absurd (omega (arith, high))
found-position p (b ∷ text) r h = found_step p b text (p b) r refl h (λ o found. found-position p text o found) ∙ sym (position-cons p b text)
