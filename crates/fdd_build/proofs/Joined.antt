-- What a list decides, by its two parts.
use Rattle.std.proofs.Common.{◌≡◌, ◌∷◌, ◌++◌, ◌<◌, ◌∙◌, ℕ, List, [], length, arith, refl, ap, sym}
use Rattle.std.specs.Prelude.{Bool, true, false, ◌&&◌, ◌||◌, cond, nat_eq, map, find, unwrap_or, option_map, Some}
use Rattle.std.specs.List.{list_any}
use Rattle.std.proofs.lemmas.Bool.Decides.{Decides-eqb}
use Rattle.field_boxes.specs.declared.rule.Rule as code
use Rattle.field_boxes.specs.Headline.Classifier.{Rule, matches}
use Rattle.field_boxes.specs.Rules.{rule_of}
use Rattle.fdd_build.specs.declared.overlay.Overlay.TheVariants.{Answer}
use Rattle.fdd_build.specs.Overlay.{shown}
use Rattle.fdd_build.specs.Rules.{decided, hides}

decided_head : (fields header : List ℕ) (rule : code.Rule) (rules : List code.Rule) (m : Bool) → matches fields header (rule_of rule) ≡ m →
    decided fields (rule ∷ rules) header ≡ cond m rule.decision (decided fields rules header)
decided_head fields header rule rules true h =
    ap (λ b. unwrap_or (option_map (λ (r : Rule ℕ). r.decision) (cond b (Some (rule_of rule)) (find (matches fields header) (map rule_of rules)))) 0) h
decided_head fields header rule rules false h =
    ap (λ b. unwrap_or (option_map (λ (r : Rule ℕ). r.decision) (cond b (Some (rule_of rule)) (find (matches fields header) (map rule_of rules)))) 0) h

hides_head : (fields header : List ℕ) (rule : code.Rule) (m : Bool) → matches fields header (rule_of rule) ≡ m → hides fields rule header ≡ (nat_eq rule.decision 0 && m)
hides_head fields header rule m h = ap (λ b. nat_eq rule.decision 0 && b) h

-- one more rule that may hide
pub hidden_too : (earlier here : Bool) (below : ℕ) → cond here 0 (cond earlier 0 below) ≡ cond (earlier || here) 0 below
hidden_too true true below = refl
hidden_too true false below = refl
hidden_too false true below = refl
hidden_too false false below = refl

-- the rule in front decides: where it decides 0, it hides what comes after
in_front : (decision lower : ℕ) (more none : Bool) → nat_eq decision 0 ≡ none → decision ≡ cond none (cond ((none && true) || more) 0 lower) decision
in_front decision lower more true h = (Decides-eqb decision 0).0 h
in_front decision lower more false h = refl

not_hidden : (b more : Bool) → ((b && false) || more) ≡ more
not_hidden true more = refl
not_hidden false more = refl

abbrev lower_shown : List ℕ → List ℕ → List code.Rule → List code.Rule → ℕ
lower_shown fields header first second = cond (list_any (λ r. hides fields r header) first) 0 (decided fields second header)

joined_by : (fields header : List ℕ) (rule : code.Rule) (first second : List code.Rule) (m : Bool) → matches fields header (rule_of rule) ≡ m →
    decided fields (first ++ second) header ≡ shown Answer (decided fields first header) (lower_shown fields header first second) →
    decided fields (rule ∷ first ++ second) header ≡ shown Answer (decided fields (rule ∷ first) header) (lower_shown fields header (rule ∷ first) second)
joined_by fields header rule first second true h rest =
    let any = list_any (λ r. hides fields r header) first in
    let lower = decided fields second header in
    decided_head fields header rule (first ++ second) true h
    ∙ in_front rule.decision lower any (nat_eq rule.decision 0) refl
    ∙ sym (ap (λ n. shown Answer n (lower_shown fields header (rule ∷ first) second)) (decided_head fields header rule first true h)
    ∙ ap (λ b. shown Answer rule.decision (cond (b || any) 0 lower)) (hides_head fields header rule true h))
joined_by fields header rule first second false h rest =
    let any = list_any (λ r. hides fields r header) first in
    let lower = decided fields second header in
    decided_head fields header rule (first ++ second) false h
    ∙ rest
    ∙ sym (ap (λ n. shown Answer n (lower_shown fields header (rule ∷ first) second)) (decided_head fields header rule first false h)
    ∙ ap (λ b. shown Answer (decided fields first header) (cond (b || any) 0 lower)) (hides_head fields header rule false h)
    ∙ ap (λ b. shown Answer (decided fields first header) (cond b 0 lower)) (not_hidden (nat_eq rule.decision 0) any))

pub joined : (fields header : List ℕ) (first second : List code.Rule) →
    decided fields (first ++ second) header ≡ shown Answer (decided fields first header) (lower_shown fields header first second)
joined fields header [] second = refl
joined fields header (rule ∷ first) second = joined_by fields header rule first second (matches fields header (rule_of rule)) refl (joined fields header first second)

pub decides_none : (fields header : List ℕ) (rules : List code.Rule) → length rules < 1 → decided fields rules header ≡ 0
decides_none fields header [] h = refl
decides_none fields header (rule ∷ rules) h = absurd (omega (arith, h))

pub decides_one : (fields header : List ℕ) (rule : code.Rule) → decided fields (rule ∷ []) header ≡ cond (matches fields header (rule_of rule)) rule.decision 0
decides_one fields header rule = decided_head fields header rule [] (matches fields header (rule_of rule)) refl
