-- What rules decide by number, and by name.
use Rattle.std.proofs.Common.{◌≡◌, ◌∷◌, ℕ, ◌<◌, ◌≤◌, zero, suc, List, [], Bool, true, false, cond, ap, refl, sym, ◌∙◌, arith, length, get_or, Some}
use Rattle.std.specs.Prelude.{map, find, unwrap_or, option_map, slice_get}
use Rattle.std.specs.List.{AllByRecursion}
use Rattle.std.proofs.lemmas.Option.{slice_get-get_or}
use Rattle.field_boxes.specs.declared.rule.Rule as code
use Rattle.field_boxes.specs.Headline.Classifier.{Rule, matches, source}
use Rattle.field_boxes.specs.NamedRules.{IsNumberedBy, named_rule, named_rules}
use Rattle.field_boxes.specs.Headline.Names.{text_of}
use Rattle.field_boxes.specs.Names.{name_at}
use Rattle.field_boxes.specs.Rules.{rule_of}
use Rattle.field_boxes.proofs.SameSets.{matches_by_sets}
use Rattle.fdd_build.specs.Rules.{decided}

pub decided_head : (fields header : List ℕ) (rule : code.Rule) (rules : List code.Rule) (m : Bool) → matches fields header (rule_of rule) ≡ m →
    decided fields (rule ∷ rules) header ≡ cond m rule.decision (decided fields rules header)
decided_head fields header rule rules true h =
    ap (λ b. unwrap_or (option_map (λ (r : Rule ℕ). r.decision) (cond b (Some (rule_of rule)) (find (matches fields header) (map rule_of rules)))) 0) h
decided_head fields header rule rules false h =
    ap (λ b. unwrap_or (option_map (λ (r : Rule ℕ). r.decision) (cond b (Some (rule_of rule)) (find (matches fields header) (map rule_of rules)))) 0) h

-- the number of a name is no number of none
some_name : (names : List (List ℕ)) (n : ℕ) → (0 < n) × (n ≤ length names) → Some (text_of (name_at names n)) ≡ name_at names n
some_name names zero h = absurd (omega (arith, h.0))
some_name names (suc k) h =
    let at : slice_get names k ≡ Some (get_or names k []) = slice_get-get_or names k [] (omega (arith, h.1)) in
    rw at refl

abbrev IsNamed : List ℕ → List (List ℕ) → List code.Rule → List ℕ → Type 0
IsNamed fields names rules header = source fields header (named_rules names rules) ≡ name_at names (decided fields rules header)

named_head : (fields : List ℕ) (names : List (List ℕ)) (header : List ℕ) (rule : code.Rule) (rules : List code.Rule) (m : Bool) → matches fields header (rule_of rule) ≡ m →
    IsNumberedBy names rule → IsNamed fields names rules header → IsNamed fields names (rule ∷ rules) header
named_head fields names header rule rules true h numbered rest =
    ap (λ b. option_map (λ (r : Rule (List ℕ)). r.decision) (cond b (Some (named_rule names rule)) (find (matches fields header) (named_rules names rules)))) (matches_by_sets fields header (named_rule names rule) (rule_of rule) refl ∙ h)
    ∙ some_name names rule.decision numbered
    ∙ sym (ap (name_at names) (decided_head fields header rule rules true h))
named_head fields names header rule rules false h numbered rest =
    ap (λ b. option_map (λ (r : Rule (List ℕ)). r.decision) (cond b (Some (named_rule names rule)) (find (matches fields header) (named_rules names rules)))) (matches_by_sets fields header (named_rule names rule) (rule_of rule) refl ∙ h)
    ∙ rest
    ∙ sym (ap (name_at names) (decided_head fields header rule rules false h))

-- the name that rules decide is that of the number that they decide
pub named : (fields : List ℕ) (names : List (List ℕ)) (rules : List code.Rule) (header : List ℕ) → AllByRecursion (IsNumberedBy names) rules → IsNamed fields names rules header
named fields names [] header h = refl
named fields names (rule ∷ rules) header h = named_head fields names header rule rules (matches fields header (rule_of rule)) refl h.0 (named fields names rules header h.1)

within_head : (fields : List ℕ) (names : List (List ℕ)) (header : List ℕ) (rule : code.Rule) (rules : List code.Rule) (m : Bool) → matches fields header (rule_of rule) ≡ m →
    IsNumberedBy names rule → decided fields rules header ≤ length names → decided fields (rule ∷ rules) header ≤ length names
within_head fields names header rule rules true h numbered rest = rw (decided_head fields header rule rules true h) numbered.1
within_head fields names header rule rules false h numbered rest = rw (decided_head fields header rule rules false h) rest

-- the number that rules decide is one of the names', or 0
pub within : (fields : List ℕ) (names : List (List ℕ)) (rules : List code.Rule) (header : List ℕ) → AllByRecursion (IsNumberedBy names) rules → decided fields rules header ≤ length names
within fields names [] header h = omega arith
within fields names (rule ∷ rules) header h = within_head fields names header rule rules (matches fields header (rule_of rule)) refl h.0 (within fields names rules header h.1)
