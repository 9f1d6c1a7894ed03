-- Rules of common numbers, and what they decide.
use Rattle.std.proofs.Common.{◌≡◌, ◌∷◌, ◌++◌, ℕ, ◌+◌, ◌<◌, List, [], Bool, true, false, cond, Some, ap, refl, sym, ◌∙◌, length, get_or, take}
use Rattle.std.specs.Prelude.{find, map, option_map, unwrap_or}
use Rattle.std.proofs.lemmas.List.{map-append, take_more}
use Rattle.field_boxes.specs.declared.rule.Rule as code
use Rattle.field_boxes.specs.Headline.Classifier.{Rule, matches, source}
use Rattle.field_boxes.specs.Headline.Fields.{stated}
use Rattle.field_boxes.specs.Rules.{rule_of}
use Rattle.field_boxes.proofs.SameSets.{matches_by_sets}
use Rattle.fdd_build.specs.Rules.{decided}
use Rattle.fdd_build.proofs.Decided.{decided_head}
use Rattle.list_equiv.specs.Names.{common_number, common_rule}

-- with one more rule
pub pushed : {more : List code.Rule} (last : code.Rule) (names others : List (List ℕ)) (made items : List code.Rule) (r : code.Rule) (i : ℕ) → more ≡ made ++ last ∷ [] → i < length items → r ≡ get_or items i r →
    rule_of last ≡ common_rule names others r → map rule_of made ≡ map (common_rule names others) (take i items) → map rule_of more ≡ map (common_rule names others) (take (i + 1) items)
pushed last names others made items r i e less is same before =
    ap (map rule_of) e
    ∙ map-append rule_of made (last ∷ [])
    ∙ ap (λ rs. rs ++ rule_of last ∷ []) before
    ∙ ap (λ (x : Rule ℕ). map (common_rule names others) (take i items) ++ x ∷ []) same
    ∙ sym (map-append (common_rule names others) (take i items) (r ∷ []))
    ∙ ap (map (common_rule names others)) (ap (λ (x : code.Rule). take i items ++ x ∷ []) is ∙ sym (take_more items i r less))

-- what rules decide, of which the first may match
abbrev first_of : Bool → Rule ℕ → List (Rule ℕ) → List ℕ → ℕ
first_of m r rules header = unwrap_or (option_map (λ (x : Rule ℕ). x.decision) (cond m (Some r) (find (matches stated header) rules))) 0

module _ (names others : List (List ℕ)) (header : List ℕ) (last : Rule ℕ) (opens : matches stated header last ≡ true) (none : last.decision ≡ 1) where
  abbrev common_decided : List code.Rule → ℕ
  common_decided rules = unwrap_or (source stated header (map (common_rule names others) rules ++ last ∷ [])) 0

  abbrev DecideCommon : List code.Rule → Type 0
  DecideCommon rules = common_decided rules ≡ common_number names others (decided stated rules header)

  common_head : (r : code.Rule) (rules : List code.Rule) (m : Bool) → matches stated header (rule_of r) ≡ m → DecideCommon rules → DecideCommon (r ∷ rules)
  common_head r rules true h rest =
      ap (λ b. first_of b (common_rule names others r) (map (common_rule names others) rules ++ last ∷ []) header) (matches_by_sets stated header (common_rule names others r) (rule_of r) refl ∙ h)
      ∙ ap (common_number names others) (sym (decided_head stated header r rules true h))
  common_head r rules false h rest =
      ap (λ b. first_of b (common_rule names others r) (map (common_rule names others) rules ++ last ∷ []) header) (matches_by_sets stated header (common_rule names others r) (rule_of r) refl ∙ h)
      ∙ rest
      ∙ ap (common_number names others) (sym (decided_head stated header r rules false h))

  decide_common : (rules : List code.Rule) → DecideCommon rules
  decide_common [] = ap (λ b. first_of b last [] header) opens ∙ none
  decide_common (r ∷ rules) = common_head r rules (matches stated header (rule_of r)) refl (decide_common rules)

-- with a rule behind them that matches, they decide the common number of what the rules decide
pub decides_common : {more : List code.Rule} (names others : List (List ℕ)) (rules made : List code.Rule) (last : code.Rule) (header : List ℕ) → more ≡ made ++ last ∷ [] →
    map rule_of made ≡ map (common_rule names others) rules → matches stated header (rule_of last) ≡ true → last.decision ≡ 1 →
    decided stated more header ≡ common_number names others (decided stated rules header)
decides_common names others rules made last header e is opens none =
    ap (λ rs. decided stated rs header) e
    ∙ ap (λ rs. unwrap_or (source stated header rs) 0) (map-append rule_of made (last ∷ []) ∙ ap (λ rs. rs ++ rule_of last ∷ []) is)
    ∙ decide_common names others header (rule_of last) opens none rules
