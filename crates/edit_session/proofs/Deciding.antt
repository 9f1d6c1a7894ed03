-- What a lookup decides, by the lists of the tables.
use Rattle.std.proofs.Common.{◌≡◌, ◌∷◌, ℕ, ◌<◌, ◌^◌, List, [], Option, Some, None, cond, ap, ◌∙◌, arith, length, slice_index}
use Rattle.field_boxes.specs.Headline.Classifier.{Rule, source}
use Rattle.field_boxes.specs.Headline.Fields.{IsHeader, stated, width}
use Rattle.bank_update.specs.Machine.{State, Update, has_turned, old_or_new}
use Rattle.bank_update.specs.Standing.{answer}
use Rattle.edit_session.specs.Machine.{Copies, decided, decided_with}
use Rattle.edit_session.specs.Sound.{AreTablesOf, IsPendingOf, IsTableOf}

-- five values within the fields are a header
pub header-of : (values : List ℕ) → length values ≡ 5 → ((k : ℕ) → k < 5 → slice_index values k < 2 ^ width k) → IsHeader values
header-of (a ∷ b ∷ c ∷ d ∷ e ∷ []) five small =
    (small 0 (omega arith), (small 1 (omega arith), (small 2 (omega arith), (small 3 (omega arith), (small 4 (omega arith), tt)))))
header-of [] five small = absurd (omega (arith, five))
header-of (a ∷ []) five small = absurd (omega (arith, five))
header-of (a ∷ b ∷ []) five small = absurd (omega (arith, five))
header-of (a ∷ b ∷ c ∷ []) five small = absurd (omega (arith, five))
header-of (a ∷ b ∷ c ∷ d ∷ []) five small = absurd (omega (arith, five))
header-of (a ∷ b ∷ c ∷ d ∷ e ∷ f ∷ values) five small = absurd (omega (arith, five))

decided_by : (settled : List (Rule (List ℕ))) (pending : Option (List (Rule (List ℕ)))) (s : State) (p : Option Update) (values : List ℕ) → IsHeader values →
    IsTableOf settled s.settled → IsPendingOf pending p →
    let copies : Copies = record { settled = settled; pending = pending } in
    old_or_new s p values ≡ decided_with s copies p values
decided_by settled None s None values header old new = old values header
decided_by settled (Some rules) s None values header old new = absurd new
decided_by settled None s (Some u) values header old new = absurd new
decided_by settled (Some rules) s (Some u) values header old new =
    let turned = has_turned s u values in
    ap (λ (o : Option (List ℕ)). cond turned o (answer s.settled values)) (new values header)
    ∙ ap (λ (o : Option (List ℕ)). cond turned (source stated values rules) o) (old values header)

-- the answer of a table is what its list decides
pub decided-is : (s : State) (copies : Copies) (values : List ℕ) → IsHeader values → AreTablesOf copies s → old_or_new s s.pending values ≡ decided s copies values
decided-is s copies values header tables = decided_by copies.settled copies.pending s s.pending values header tables.settled tables.pending
