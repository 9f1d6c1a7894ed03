-- What holds of all that is kept, and of one more.
use Rattle.std.proofs.Common.{◌≡◌, ap, sym, ◌∙◌, subst, refl, ℕ}
use Rattle.std.specs.Prelude.{Bool, true, false, cond, nat_eq, Option, Some}
use Rattle.std.proofs.lemmas.Bool.Decides.{Decides-eqb, Decides-and}
use Rattle.std.proofs.lemmas.Option.{same_Some}
use Rattle.field_order.specs.declared.fronts.Asked.{Asked}
use Rattle.field_order.specs.declared.worth.Valued.{Valued}
use Rattle.field_order.specs.Fronts.{same_asked}
use Rattle.field_order.specs.Worth.{same_valued}

pub asked_is : (p q : Asked) → same_asked p q ≡ true → p ≡ q
asked_is p q h =
    let both = (Decides-and (nat_eq p.id.0 q.id.0) (nat_eq p.field q.field) (Decides-eqb p.id.0 q.id.0) (Decides-eqb p.field q.field)).0 h in
    ap (λ (n : ℕ). let r : Asked = record { id = record { 0 = n }; field = p.field } in r) both.0
    ∙ ap (λ (n : ℕ). let r : Asked = record { id = q.id; field = n } in r) both.1

pub valued_is : (p q : Valued) → same_valued p q ≡ true → p ≡ q
valued_is p q h =
    let both = (Decides-and (nat_eq p.id.0 q.id.0) (nat_eq p.order q.order) (Decides-eqb p.id.0 q.id.0) (Decides-eqb p.order q.order)).0 h in
    ap (λ (n : ℕ). let r : Valued = record { id = record { 0 = n }; order = p.order } in r) both.0
    ∙ ap (λ (n : ℕ). let r : Valued = record { id = q.id; order = n } in r) both.1

module _ {K X : Type 0} (same : K → K → Bool) (is : (p q : K) → same p q ≡ true → p ≡ q) (P : K → X → Type 0) (old new : K → Option X) (key : K) (x : X) where
  kept_by : (q : K) (y : X) (t : Bool) → same key q ≡ t → new q ≡ cond t (Some x) (old q) → ((k : K) (z : X) → old k ≡ Some z → P k z) → P key x → new q ≡ Some y → P q y
  kept_by q y true is_same at all here h = subst (λ k. P k y) (is key q is_same) (subst (λ z. P key z) (same_Some x y (sym at ∙ h)) here)
  kept_by q y false is_same at all here h = all q y (sym at ∙ h)

  pub kept : ((q : K) → new q ≡ cond (same key q) (Some x) (old q)) → ((k : K) (z : X) → old k ≡ Some z → P k z) → P key x → (q : K) (y : X) → new q ≡ Some y → P q y
  kept at all here q y h = kept_by q y (same key q) refl (at q) all here h
