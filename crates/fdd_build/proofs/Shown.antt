-- What shows of a box laid over or under an answer.
use Rattle.std.proofs.Common.{◌≡◌, ℕ, refl, sym}
use Rattle.std.specs.Prelude.{Bool, true, false, ◌&&◌, cond, nat_eq}
use Rattle.std.proofs.lemmas.Bool.Decides.{Decides-eqb}
use Rattle.fdd_build.specs.declared.overlay.Overlay.TheVariants.{Answer, Decision}
use Rattle.fdd_build.specs.Overlay.{shown}

pub box_over : (decision lower : ℕ) (inside : Bool) → shown (Decision decision) (cond inside 1 0) lower ≡ cond inside decision lower
box_over decision lower true = refl
box_over decision lower false = refl

under_by : (decision upper : ℕ) (none inside : Bool) → nat_eq upper 0 ≡ none → cond none (cond inside decision 0) upper ≡ cond (none && inside) decision upper
under_by decision upper true true h = refl
under_by decision upper true false h = sym ((Decides-eqb upper 0).0 h)
under_by decision upper false inside h = refl

pub box_under : (decision upper : ℕ) (inside : Bool) → shown Answer upper (cond inside decision 0) ≡ cond (nat_eq upper 0 && inside) decision upper
box_under decision upper inside = under_by decision upper (nat_eq upper 0) inside refl
