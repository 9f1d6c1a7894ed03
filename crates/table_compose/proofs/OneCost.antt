-- A list has one least cost, and lists that decide alike have the same.
use Rattle.std.proofs.Common.{◌≡◌, ◌∷◌, ℕ, List, [], ◌<◌, ◌^◌, sym, ◌∙◌, arith}
use Rattle.std.specs.Prelude.{slice_index_or}
use Rattle.field_boxes.specs.Headline.Fields.{width}
use Rattle.field_boxes.specs.Headline.Classifier.{Rule, residue}
use Rattle.field_boxes.proofs.Residues.{source-residue}
use Rattle.table_compose.specs.Headline.LeastCost.{IsPlan, IsLeastCost}
use Rattle.table_compose.specs.Choices.{AreAlike}

pub cost-unique : {A : Type 0} (fields : List ℕ) (R : List (Rule A)) (m n : ℕ) → IsLeastCost fields R m → IsLeastCost fields R n → m ≡ n
unfolding IsLeastCost
cost-unique [] R m n c d = c ∙ sym d
cost-unique (f ∷ fields) R m n c d =
    let a = c.reached in let b = d.reached in omega (arith, a.3, b.3, c.least b.0 b.1 b.2, d.least a.0 a.1 a.2)

pub alike-sym : {A : Type 0} (fields : List ℕ) (R S : List (Rule A)) → AreAlike fields R S → AreAlike fields S R
alike-sym fields R S h values ok = sym (h values ok)

pub alike-trans : {A : Type 0} (fields : List ℕ) (R S T : List (Rule A)) → AreAlike fields R S → AreAlike fields S T → AreAlike fields R T
alike-trans fields R S T h k values ok = h values ok ∙ k values ok

-- residues of alike lists at one value are alike over the fields that are left
pub alike-residue : {A : Type 0} (f : ℕ) (fields : List ℕ) (R S : List (Rule A)) → AreAlike (f ∷ fields) R S →
    (v : ℕ) → v < 2 ^ width f → AreAlike fields (residue f v R) (residue f v S)
alike-residue f fields R S h v small values ok =
    sym (source-residue f v fields values R) ∙ h (v ∷ values) (small, ok) ∙ source-residue f v fields values S

plan-alike : {A : Type 0} (f : ℕ) (fields : List ℕ) (R S : List (Rule A)) (plan : _) → AreAlike (f ∷ fields) R S → IsPlan f fields R plan → IsPlan f fields S plan
plan-alike f fields R S plan h p = record {
  fits = p.fits;
  in_field = p.in_field;
  alike = λ v small. let c = p.alike v small in (
    c.0,
    c.1,
    c.2,
    alike-trans fields (residue f v S) (residue f v R) (residue f c.0.value S)
        (alike-sym fields (residue f v R) (residue f v S) (alike-residue f fields R S h v small))
        (alike-trans fields (residue f v R) (residue f c.0.value R) (residue f c.0.value S) c.3 (alike-residue f fields R S h c.0.value c.2)),
  );
}

pub alike-cost : {A : Type 0} (fields : List ℕ) (R S : List (Rule A)) (n : ℕ) → AreAlike fields R S → IsLeastCost fields R n → IsLeastCost fields S n
unfolding IsLeastCost
alike-cost [] R S n h c = c
alike-cost (f ∷ fields) R S n h c =
    let there = c.reached in
    let back = alike-sym (f ∷ fields) R S h in record {
      reached = (
        there.0,
        plan-alike f fields R S there.0 h there.1,
        (λ k d small. let x = slice_index_or there.0 k d in
            alike-cost fields (residue f x.value R) (residue f x.value S) x.cost (alike-residue f fields R S h x.value (there.1.in_field k d small)) (there.2 k d small)),
        there.3,
      );
      least = λ plan p costs. c.least plan (plan-alike f fields S R plan back p)
          (λ k d small. let x = slice_index_or plan k d in
          alike-cost fields (residue f x.value S) (residue f x.value R) x.cost (alike-residue f fields S R back x.value (p.in_field k d small)) (costs k d small));
    }
