-- States that are known, and those that were found where none is.
use Rattle.std.proofs.Common.{◌≡◌, ◌<◌, ℕ, List, Bool, true, false, ap, sym, subst, ◌∙◌, length, get_or, arith, Option, Some, None, IfSome, is_none, map, unwrap_or}
use Rattle.std.proofs.lemmas.List.{get_or_default, get_or-map}
use Rattle.rule_audit.specs.Labels.{is_open}

chosen : {X : Type 0} (P : X → Type 0) (known : Option X) (found : X) (opens : Bool) → opens ≡ is_none known → IfSome known P → (opens ≡ true → P found) → P (unwrap_or known found)
chosen P (Some state) found opens e told labelled = told
chosen P None found opens e told labelled = labelled e

-- the state at a place is right, whether it is the one that is known or the one that was found
pub chosen_at : {X : Type 0} (P : X → Type 0) (known : List (Option X)) (found states : List X) (left_open : List Bool) (k : ℕ) (d e : X) → k < length known → length states ≡ length known →
    left_open ≡ map is_none known → get_or states k e ≡ unwrap_or (get_or known k None) (get_or found k e) → IfSome (get_or known k None) P → (is_open left_open k ≡ true → P (get_or found k e)) →
    P (get_or states k d)
chosen_at P known found states left_open k d e less long marks is told labelled =
    let opens : is_open left_open k ≡ is_none (get_or known k None) = ap (λ bs. get_or bs k false) marks ∙ get_or-map is_none known k None false less in
    subst P (sym (get_or_default states k d e (omega (arith, less, long)) ∙ is)) (chosen P (get_or known k None) (get_or found k e) (is_open left_open k) opens told labelled)
