-- What rules decide on one header, by the rule that is found first.
use Rattle.std.proofs.Common.{◌≡◌, ◌∷◌, ℕ, ◌≤◌, List, [], Bool, true, false, cond, ap, refl, sym, ◌∙◌, arith, length, Some}
use Rattle.std.specs.Prelude.{find, unwrap_or, option_map, Option}
use Rattle.std.proofs.lemmas.List.Elements.{All-tail}
use Rattle.field_boxes.specs.declared.rule.Rule as code
use Rattle.field_boxes.specs.Headline.Fields.{stated}
use Rattle.field_boxes.specs.Headline.Classifier.{matches}
use Rattle.field_boxes.specs.Rules.{rule_of}
use Rattle.fdd_build.specs.Rules.{decided}
use Rattle.fdd_build.proofs.Decided.{decided_head}
use Rattle.list_equiv.specs.Names.{AreWithin}

-- the decision of the first rule that the code finds, or 0
abbrev pub found_decision : Option code.Rule → ℕ
found_decision found = unwrap_or (option_map (λ (r : code.Rule). r.decision) found) 0

abbrev pub first_of_code : List ℕ → List code.Rule → Option code.Rule
first_of_code header rules = find (λ (r : code.Rule). matches stated header (rule_of r)) rules

found_head : (header : List ℕ) (rule : code.Rule) (rules : List code.Rule) (m : Bool) → matches stated header (rule_of rule) ≡ m →
    found_decision (first_of_code header rules) ≡ decided stated rules header → found_decision (first_of_code header (rule ∷ rules)) ≡ decided stated (rule ∷ rules) header
found_head header rule rules true h rest =
    ap (λ b. found_decision (cond b (Some rule) (first_of_code header rules))) h ∙ sym (decided_head stated header rule rules true h)
found_head header rule rules false h rest =
    ap (λ b. found_decision (cond b (Some rule) (first_of_code header rules))) h ∙ rest ∙ sym (decided_head stated header rule rules false h)

-- the decision of the rule that is found first is that of the rules
pub found : (header : List ℕ) (rules : List code.Rule) → found_decision (first_of_code header rules) ≡ decided stated rules header
found header [] = refl
found header (rule ∷ rules) = found_head header rule rules (matches stated header (rule_of rule)) refl (found header rules)

within_head : (names : List (List ℕ)) (header : List ℕ) (rule : code.Rule) (rules : List code.Rule) (m : Bool) → matches stated header (rule_of rule) ≡ m →
    rule.decision ≤ length names → decided stated rules header ≤ length names → decided stated (rule ∷ rules) header ≤ length names
within_head names header rule rules true h here rest = rw (decided_head stated header rule rules true h) here
within_head names header rule rules false h here rest = rw (decided_head stated header rule rules false h) rest

-- the number that rules decide is one of the names', or 0
pub within : (names : List (List ℕ)) (rules : List code.Rule) (header : List ℕ) → AreWithin names rules → decided stated rules header ≤ length names
within names [] header h = omega arith
within names (rule ∷ rules) header h =
    within_head names header rule rules (matches stated header (rule_of rule)) refl (h 0 rule (omega arith))
    (within names rules header (All-tail (λ (r : code.Rule). r.decision ≤ length names) rule rules h))
