-- With no field left a row is kept exactly where some context wants it.
use Rattle.field_boxes.specs.Headline.Fields.{AreValues}
use Rattle.std.proofs.Common.{◌≡◌, ◌∷◌, ℕ, List, [], ◌<◌, Bool, true, false, refl}
use Rattle.std.specs.Prelude.{cond}
use Rattle.redundancy_laws.specs.Rows.{answer_or, last_row}
use Rattle.redundancy_laws.specs.Contexts.{Contexts, MeetFirst, IsRightMark, IsRight, IsWanted}

wanted_at : (cs : Contexts) (decision : ℕ) → IsWanted cs false (last_row decision) →
    (c : ℕ) (values : List ℕ) → MeetFirst [] cs [] (last_row decision) c values → cs.after c values ≡ decision
wanted_at cs decision w c [] meet = w c meet.0 meet.2
wanted_at cs decision w c (v ∷ values) meet = absurd meet.1

wanted_mark : (cs : Contexts) (b : Bool) (decision : ℕ) → IsWanted cs b (last_row decision) → IsRightMark [] cs [] b (last_row decision) []
wanted_mark cs true decision (c, less, met, differ) = (c, [], (less, tt, met, (refl, refl)), differ)
wanted_mark cs false decision w = wanted_at cs decision w

answer_at : (cs : Contexts) (b : Bool) (decision : ℕ) (out : ℕ → List ℕ → ℕ) (c : ℕ) (values : List ℕ) → AreValues [] values →
    out c [] ≡ cond b decision (cs.after c []) → out c values ≡ answer_or values (cond b (last_row decision ∷ []) []) (cs.after c values)
answer_at cs true decision out c [] ok h = h
answer_at cs false decision out c [] ok h = h
answer_at cs b decision out c (v ∷ values) ok h = absurd ok

pub leaf-right : (cs : Contexts) (b : Bool) (decision : ℕ) (out : ℕ → List ℕ → ℕ) → IsWanted cs b (last_row decision) →
    ((c : ℕ) → c < cs.count → out c [] ≡ cond b decision (cs.after c [])) → IsRight [] cs (record { row = last_row decision; kept = b } ∷ []) out
leaf-right cs b decision out wanted h = record {
  answers = λ c less values ok. answer_at cs b decision out c values ok (h c less);
  each = (wanted_mark cs b decision wanted, tt);
}
