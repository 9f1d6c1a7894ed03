-- What the label of a header shows of an open rule is what comes behind the rule.
use Rattle.std.proofs.Common.{◌≡◌, ◌∷◌, ℕ, ◌<◌, ◌+◌, zero, suc, List, [], Bool, true, false, cond, ap, sym, refl, ◌∙◌, arith, Option, Some, None, eq-eqb, ne_eqb}
use Rattle.field_boxes.specs.declared.rule.Rule as code
use Rattle.field_boxes.specs.Headline.Fields.{stated}
use Rattle.fdd_build.specs.Rules.{decided}
use Rattle.rule_audit.specs.declared.label.Next.{Next}
use Rattle.rule_audit.specs.Labels.{AllBelow, is_open, label_at, labelled, next_of, number_of, own_number}
use Rattle.rule_audit.specs.Meeting.{next_behind, next_shown}
use Rattle.rule_audit.proofs.Joining.{label_back, no_label}
use Rattle.rule_audit.proofs.Named.{meets}

module _ (first : ℕ) (some : 0 < first) (left_open : List Bool) (header : List ℕ) where
  abbrev shows : ℕ → ℕ → Option Next
  shows place n = next_shown place (label_at first n)

  own : (place : ℕ) (next : Next) → shows place (number_of first (record { place = place; next = next })) ≡ Some next
  own place next =
      ap (next_shown place) (label_back first (record { place = place; next = next }))
      ∙ ap (λ t. cond t (Some next) None) (eq-eqb place place refl)

  other : (place from : ℕ) (next : Next) → (from ≡ place → ⊥) → shows place (number_of first (record { place = from; next = next })) ≡ None
  other place from next h =
      ap (next_shown place) (label_back first (record { place = from; next = next }))
      ∙ ap (λ t. cond t (Some next) None) (ne_eqb from place h)

  nothing : (place n : ℕ) → n < first → shows place n ≡ None
  nothing place n h = ap (next_shown place) (no_label first n h)

  -- the number of another rule shows nothing
  not_own : (place from : ℕ) (o : Bool) (rule : code.Rule) (next : ℕ) → rule.decision < first → (from ≡ place → ⊥) → shows place (own_number first o from rule next) ≡ None
  not_own place from true rule next low h = other place from (next_of rule.decision next) h
  not_own place from false rule next low h = nothing place rule.decision low

  abbrev label_head : Bool → ℕ → code.Rule → List code.Rule → ℕ
  label_head m from rule rules = cond m (own_number first (is_open left_open from) from rule (decided stated rules header)) (labelled first left_open (suc from) rules header)

  below_by : (rule : code.Rule) (rules : List code.Rule) (place from : ℕ) (m : Bool) → rule.decision < first → place < from →
      shows place (labelled first left_open (suc from) rules header) ≡ None → shows place (label_head m from rule rules) ≡ None
  below_by rule rules place from true low h rest = not_own place from (is_open left_open from) rule (decided stated rules header) low (λ e. omega (arith, h, e))
  below_by rule rules place from false low h rest = rest

  -- a label's place is not before that of the first of its rules
  not_below : (rules : List code.Rule) (place from : ℕ) → AllBelow first rules → place < from → shows place (labelled first left_open from rules header) ≡ None
  not_below [] place from low h = nothing place 0 some
  not_below (rule ∷ rules) place from low h = below_by rule rules place from (meets stated header rule) low.0 h (not_below rules place (suc from) low.1 (omega (arith, h)))

  zeroth : (from : ℕ) (rule : code.Rule) (rules : List code.Rule) (m : Bool) → is_open left_open from ≡ true → AllBelow first rules →
      shows from (label_head m from rule rules) ≡ cond m (Some (next_of rule.decision (decided stated rules header))) None
  zeroth from rule rules true opens low =
      ap (λ o. shows from (own_number first o from rule (decided stated rules header))) opens ∙ own from (next_of rule.decision (decided stated rules header))
  zeroth from rule rules false opens low = not_below rules from (suc from) low (omega arith)

  later : (from k : ℕ) (rule : code.Rule) (rules : List code.Rule) (m : Bool) → rule.decision < first →
      shows (suc from + k) (labelled first left_open (suc from) rules header) ≡ next_behind rules k header →
      shows (from + suc k) (label_head m from rule rules) ≡ cond m None (next_behind rules k header)
  later from k rule rules true low rest =
      not_own (from + suc k) from (is_open left_open from) rule (decided stated rules header) low (λ same. omega (arith, same))
  later from k rule rules false low rest =
      let same : from + suc k ≡ suc from + k = omega arith in
      ap (λ n. shows n (labelled first left_open (suc from) rules header)) same ∙ rest

  from_place : (from k : ℕ) (rules : List code.Rule) → AllBelow first rules → is_open left_open (from + k) ≡ true →
      shows (from + k) (labelled first left_open from rules header) ≡ next_behind rules k header
  from_place from zero [] low opens = nothing (from + 0) 0 some
  from_place from (suc k) [] low opens = nothing (from + suc k) 0 some
  from_place from zero (rule ∷ rules) low opens =
      let same : from + 0 ≡ from = omega arith in
      ap (λ n. shows n (labelled first left_open from (rule ∷ rules) header)) same
      ∙ zeroth from rule rules (meets stated header rule) (ap (is_open left_open) (sym same) ∙ opens) low.1
  from_place from (suc k) (rule ∷ rules) low opens =
      let same : suc from + k ≡ from + suc k = omega arith in
      later from k rule rules (meets stated header rule) low.0 (from_place (suc from) k rules low.1 (ap (is_open left_open) same ∙ opens))

  pub shows_behind : (k : ℕ) (rules : List code.Rule) → AllBelow first rules → is_open left_open k ≡ true →
      next_shown k (label_at first (labelled first left_open 0 rules header)) ≡ next_behind rules k header
  shows_behind k rules low opens =
      let same : 0 + k ≡ k = omega arith in
      ap (λ n. shows n (labelled first left_open 0 rules header)) (sym same) ∙ from_place 0 k rules low (ap (is_open left_open) same ∙ opens)
