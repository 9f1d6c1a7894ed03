-- What holds of all pairs that are kept, and of one more.
use Rattle.std.proofs.Common.{◌≡◌, ap, sym, ◌∙◌, subst, refl, ℕ, Bool, true, false, cond, nat_eq}
use Rattle.std.proofs.lemmas.Bool.Decides.{Decides-eqb, Decides-and}
use Rattle.fdd_ops.specs.declared.pair.Pair.{Pair}
use Rattle.fdd_ops.specs.Agreed.{same_pair}

pair_is : (p q : Pair) → p.which.0 ≡ q.which.0 → p.answers.0 ≡ q.answers.0 → p ≡ q
pair_is p q w a =
    ap (λ (n : ℕ). let r : Pair = record { which = record { 0 = n }; answers = p.answers } in r) w
    ∙ ap (λ (n : ℕ). let r : Pair = record { which = q.which; answers = record { 0 = n } } in r) a

same_is : (p q : Pair) → same_pair p q ≡ true → p ≡ q
same_is p q h =
    let both = (Decides-and (nat_eq p.which.0 q.which.0) (nat_eq p.answers.0 q.answers.0) (Decides-eqb p.which.0 q.which.0) (Decides-eqb p.answers.0 q.answers.0)).0 h in
    pair_is p q both.0 both.1

module _ (old new : Pair → Bool) (pair : Pair) (is : (q : Pair) → new q ≡ cond (same_pair pair q) true (old q)) where
  kept_by : (P : Pair → Type 0) (q : Pair) (t : Bool) → same_pair pair q ≡ t → new q ≡ cond t true (old q) →
      ((k : Pair) → old k ≡ true → P k) → P pair → new q ≡ true → P q
  kept_by P q true same at all here h = subst P (same_is pair q same) here
  kept_by P q false same at all here h = all q (sym at ∙ h)

  -- what holds of each kept pair, and of one more, holds of each that is kept then
  pub kept : (P : Pair → Type 0) → ((k : Pair) → old k ≡ true → P k) → P pair → (q : Pair) → new q ≡ true → P q
  kept P all here q h = kept_by P q (same_pair pair q) refl (is q) all here h

  still_by : (q : Pair) (t : Bool) → new q ≡ cond t true (old q) → old q ≡ true → new q ≡ true
  still_by q true at h = at
  still_by q false at h = at ∙ h

  -- what was kept is kept after one more pair
  pub still : (q : Pair) → old q ≡ true → new q ≡ true
  still q h = still_by q (same_pair pair q) (is q) h
