-- The states of rules with names, by what comes behind each rule.
use Rattle.std.proofs.Common.{◌≡◌, ◌∷◌, ℕ, List, [], Bool, true, false, ◌+◌, ◌<◌, arith, ap, ◌∙◌, lt-ltb, suc, zero, cond, not, length, position, nat_lt, Some, None, slice_index_or, refl, sym, Option, remove, subst, inl, inr, ◌⊎◌, nat_eq, All, eq-eqb, ne_eqb}
use Rattle.std.proofs.lemmas.List.Quantifiers.{position-Some}
use Rattle.std.specs.List.{position_or_len, remove, AllByRecursion}
use Rattle.field_boxes.specs.declared.rule.Rule as code
use Rattle.field_boxes.specs.Headline.Classifier.{matches, source}
use Rattle.field_boxes.specs.Headline.Fields.{stated, IsHeader}
use Rattle.field_boxes.specs.Rules.{rule_of}
use Rattle.fdd_build.specs.Rules.{decided}
use Rattle.fdd_build.proofs.Decided.{decided_head, named, within}
use Rattle.rule_audit.specs.declared.label.Next.{Next}
use Rattle.rule_audit.specs.Labels.{next_of, AllBelow, AllDecide}
use Rattle.rule_audit.specs.Meeting.{next_behind, IsNeeded, IsStateSoFar}
use Rattle.std.proofs.lemmas.List.Elements.{recursion_from_All}
use Rattle.std.proofs.lemmas.List.{length-map}
use Rattle.field_boxes.specs.NamedRules.{IsNumberedBy, named_rule, named_rules}
use Rattle.field_boxes.specs.Names.{AreDistinct, name_at}
use Rattle.rule_audit.specs.declared.label.Next.TheVariants.{Nothing, Alike, Otherwise}
use Rattle.rule_audit.specs.declared.state.RuleState.{RuleState}
use Rattle.rule_audit.specs.declared.state.RuleState.TheVariants.{Live, Droppable, Never}
use Rattle.rule_audit.specs.State.{AreStates, IsChanged, IsFirst, IsState}
use Rattle.field_boxes.proofs.SameSets.{matches_by_sets}

-- the element at k passes, and none before it
abbrev pub PassesFirst : {X : Type 0} → (X → Bool) → List X → ℕ → Type 0
PassesFirst p [] k = ⊥
PassesFirst p (x ∷ xs) zero = p x ≡ true
PassesFirst p (x ∷ xs) (suc k) = (p x ≡ false) × PassesFirst p xs k

passes-at : {X : Type 0} (p : X → Bool) (xs : List X) (k : ℕ) (d : X) → k < length xs → p (slice_index_or xs k d) ≡ true →
    ((j : ℕ) → j < k → p (slice_index_or xs j d) ≡ false) → PassesFirst p xs k
passes-at p [] k d small here before = omega (arith, small)
passes-at p (x ∷ xs) zero d small here before = here
passes-at p (x ∷ xs) (suc k) d small here before =
    (before 0 (omega arith), passes-at p xs k d (omega (arith, small)) here (λ j less. before (suc j) (omega (arith, less))))

pub position-passes : {X : Type 0} (p : X → Bool) (xs : List X) (k : ℕ) → position p xs ≡ Some k → PassesFirst p xs k
position-passes p [] k e = cc
position-passes p (x ∷ xs) k e = let h = position-Some p (x ∷ xs) k x e in passes-at p (x ∷ xs) k x h.0 h.1 h.2

passes-len : {X : Type 0} (p : X → Bool) (xs : List X) (k : ℕ) → PassesFirst p xs k → (k < length xs) × (position_or_len p xs ≡ k)
passes-len p [] k h = absurd h
passes-len p (x ∷ xs) zero h = (omega arith, ap (λ t. cond (not t) (1 + position_or_len p xs) 0) h)
passes-len p (x ∷ xs) (suc k) h =
    let r = passes-len p xs k h.1 in
    (omega (arith, r.0), ap (λ t. cond (not t) (1 + position_or_len p xs) 0) h.0 ∙ (omega (arith, r.1)))

pub passes-position : {X : Type 0} (p : X → Bool) (xs : List X) (k : ℕ) → PassesFirst p xs k → position p xs ≡ Some k
passes-position p xs k h =
    let r = passes-len p xs k h in
    ap (λ n. cond (nat_lt n (length xs)) (Some n) None) r.1 ∙ ap (λ t. cond t (Some k) None) (lt-ltb k (length xs) r.0)

abbrev pub meets : List ℕ → List ℕ → code.Rule → Bool
meets fields header rule = matches fields header (rule_of rule)

-- the rule at k isn't the first, and without it nothing changes; or it is, and the rules decide so without it beside all of them
abbrev pub Tells : List ℕ → List ℕ → List code.Rule → ℕ → Option Next → Type 0
Tells fields header rules k None = (PassesFirst (meets fields header) rules k → ⊥) × (decided fields (remove rules k) header ≡ decided fields rules header)
Tells fields header rules k (Some next) = PassesFirst (meets fields header) rules k × (next ≡ next_of (decided fields rules header) (decided fields (remove rules k) header))

module _ (header : List ℕ) where
  not_false : (t : Bool) → t ≡ true → t ≡ false → ⊥
  not_false t p q = cc

  zeroth : (rule : code.Rule) (rules : List code.Rule) (m : Bool) → meets stated header rule ≡ m →
      Tells stated header (rule ∷ rules) 0 (cond m (Some (next_of rule.decision (decided stated rules header))) None)
  zeroth rule rules true e = (e, ap (λ d. next_of d (decided stated rules header)) (sym (decided_head stated header rule rules true e)))
  zeroth rule rules false e = ((λ p. not_false (meets stated header rule) p e), sym (decided_head stated header rule rules false e))

  later_at : (rule : code.Rule) (rules : List code.Rule) (k : ℕ) (o : Option Next) → meets stated header rule ≡ false → Tells stated header rules k o → Tells stated header (rule ∷ rules) (suc k) o
  later_at rule rules k None e t = (
    (λ p. t.0 p.1),
    decided_head stated header rule (remove rules k) false e ∙ t.1 ∙ sym (decided_head stated header rule rules false e),
  )
  later_at rule rules k (Some next) e t = (
    (e, t.0),
    t.1
        ∙ ap (λ d. next_of d (decided stated (remove rules k) header)) (sym (decided_head stated header rule rules false e))
        ∙ ap (λ d. next_of (decided stated (rule ∷ rules) header) d) (sym (decided_head stated header rule (remove rules k) false e)),
  )

  later : (rule : code.Rule) (rules : List code.Rule) (k : ℕ) (m : Bool) → meets stated header rule ≡ m → Tells stated header rules k (next_behind rules k header) →
      Tells stated header (rule ∷ rules) (suc k) (cond m None (next_behind rules k header))
  later rule rules k true e t = (
    (λ p. not_false (meets stated header rule) e p.0),
    decided_head stated header rule (remove rules k) true e ∙ sym (decided_head stated header rule rules true e),
  )
  later rule rules k false e t = later_at rule rules k (next_behind rules k header) e t

  pub tells : (k : ℕ) (rules : List code.Rule) → Tells stated header rules k (next_behind rules k header)
  tells zero (rule ∷ rules) = zeroth rule rules (meets stated header rule) refl
  tells (suc k) (rule ∷ rules) = later rule rules k (meets stated header rule) refl (tells k rules)
  tells k rules = ((λ p. p), refl)

-- each rule decides something
pub all_decide : (names : List (List ℕ)) (rules : List code.Rule) → AllByRecursion (IsNumberedBy names) rules → AllDecide rules
all_decide names [] h = tt
all_decide names (rule ∷ rules) h = (h.0.0, all_decide names rules h.1)

-- and none more than the number of names
pub all_below : (names : List (List ℕ)) (first : ℕ) (rules : List code.Rule) → length names < first → AllByRecursion (IsNumberedBy names) rules → AllBelow first rules
all_below names first [] few h = tt
all_below names first (rule ∷ rules) few h = (omega (arith, few, h.0.1), all_below names first rules few h.1)

numbered_remove : (names : List (List ℕ)) (rules : List code.Rule) (k : ℕ) → AllByRecursion (IsNumberedBy names) rules → AllByRecursion (IsNumberedBy names) (remove rules k)
numbered_remove names [] zero h = h
numbered_remove names [] (suc k) h = h
numbered_remove names (rule ∷ rules) zero h = h.1
numbered_remove names (rule ∷ rules) (suc k) h = (h.0, numbered_remove names rules k h.1)

named_remove : (names : List (List ℕ)) (rules : List code.Rule) (k : ℕ) → remove (named_rules names rules) k ≡ named_rules names (remove rules k)
named_remove names [] zero = refl
named_remove names [] (suc k) = refl
named_remove names (rule ∷ rules) zero = refl
named_remove names (rule ∷ rules) (suc k) = ap (λ rs. named_rule names rule ∷ rs) (named_remove names rules k)

module _ (header : List ℕ) where
  same_meets : (names : List (List ℕ)) (rule : code.Rule) → matches stated header (named_rule names rule) ≡ meets stated header rule
  same_meets names rule = matches_by_sets stated header (named_rule names rule) (rule_of rule) refl

  first_named : (names : List (List ℕ)) (rules : List code.Rule) (k : ℕ) → PassesFirst (meets stated header) rules k → PassesFirst (matches stated header) (named_rules names rules) k
  first_named names [] k h = h
  first_named names (rule ∷ rules) zero h = same_meets names rule ∙ h
  first_named names (rule ∷ rules) (suc k) h = (same_meets names rule ∙ h.0, first_named names rules k h.1)

  first_numbered : (names : List (List ℕ)) (rules : List code.Rule) (k : ℕ) → PassesFirst (matches stated header) (named_rules names rules) k → PassesFirst (meets stated header) rules k
  first_numbered names [] k h = h
  first_numbered names (rule ∷ rules) zero h = sym (same_meets names rule) ∙ h
  first_numbered names (rule ∷ rules) (suc k) h = (sym (same_meets names rule) ∙ h.0, first_numbered names rules k h.1)

  -- where a rule matches, something is decided
  decides : (rules : List code.Rule) (k : ℕ) → AllDecide rules → PassesFirst (meets stated header) rules k → 0 < decided stated rules header
  decides [] k all h = absurd h
  decides (rule ∷ rules) zero all h = rw (decided_head stated header rule rules true h) all.0
  decides (rule ∷ rules) (suc k) all h = rw (decided_head stated header rule rules false h.0) (decides rules k all.1 h.1)

-- with the same decision the next one is alike
alike_next : (d : ℕ) → 0 < d → next_of d d ≡ Alike
alike_next d h =
    ap (λ t. cond t Nothing (cond (nat_eq d d) Alike Otherwise)) (ne_eqb d 0 (λ e. omega (arith, h, e)))
    ∙ ap (λ t. cond t Alike Otherwise) (eq-eqb d d refl)

needed_differs : (d e : ℕ) → 0 < d → IsNeeded (Some (next_of d e)) → e ≡ d → ⊥
needed_differs d e h needed same = subst (λ n. IsNeeded (Some n)) (ap (next_of d) same ∙ alike_next d h) needed

differ_needed_by : (s t : Bool) → t ≡ false → IsNeeded (Some (cond s Nothing (cond t Alike Otherwise)))
differ_needed_by false true e = absurd (let f : true ≡ false = e in cc)
differ_needed_by s t e = tt

differ_needed : (d e : ℕ) → (e ≡ d → ⊥) → IsNeeded (Some (next_of d e))
differ_needed d e h = differ_needed_by (nat_eq e 0) (nat_eq d e) (ne_eqb d e (λ same. h (sym same)))

module _ (names : List (List ℕ)) (rules : List code.Rule) (numbered : AllByRecursion (IsNumberedBy names) rules) (distinct : AreDistinct names) (k : ℕ) (header : List ℕ) where
  abbrev all_number : ℕ
  all_number = decided stated rules header

  abbrev without_number : ℕ
  without_number = decided stated (remove rules k) header

  without : source stated header (remove (named_rules names rules) k) ≡ name_at names without_number
  without = ap (source stated header) (named_remove names rules k) ∙ named stated names (remove rules k) header (numbered_remove names rules k numbered)

  same_numbers : without_number ≡ all_number → IsChanged (named_rules names rules) k header → ⊥
  same_numbers e changed = changed (without ∙ ap (name_at names) e ∙ sym (named stated names rules header numbered))

  other_numbers : (without_number ≡ all_number → ⊥) → IsChanged (named_rules names rules) k header
  other_numbers differ e =
      differ (distinct without_number all_number (within stated names (remove rules k) header (numbered_remove names rules k numbered)) (within stated names rules header numbered)
      (sym without ∙ e ∙ named stated names rules header numbered))

  changed_by : (o : Option Next) → Tells stated header rules k o → IsNeeded o → IsChanged (named_rules names rules) k header
  changed_by None t needed = absurd needed
  changed_by (Some next) t needed =
      other_numbers (needed_differs all_number without_number (decides header rules k (all_decide names rules numbered) t.0) (subst (λ n. IsNeeded (Some n)) t.1 needed))

  needed_by : (o : Option Next) → Tells stated header rules k o → IsChanged (named_rules names rules) k header → IsNeeded o
  needed_by None t changed = absurd (same_numbers t.1 changed)
  needed_by (Some next) t changed = subst (λ n. IsNeeded (Some n)) (sym t.1) (differ_needed all_number without_number (λ e. same_numbers e changed))

  first_by : (o : Option Next) → Tells stated header rules k o → o ≡ Some Alike → IsFirst (named_rules names rules) k header
  first_by None t e = let f : None ≡ Some Alike = e in cc
  first_by (Some next) t e = passes-position (matches stated header) (named_rules names rules) k (first_named header names rules k t.0)

  none_by : (o : Option Next) → Tells stated header rules k o → o ≡ None → IsFirst (named_rules names rules) k header → ⊥
  none_by None t e first = t.0 (first_numbered header names rules k (position-passes (matches stated header) (named_rules names rules) k first))
  none_by (Some next) t e first = let f : Some next ≡ None = e in cc

  alike_by : (o : Option Next) → Tells stated header rules k o → IsFirst (named_rules names rules) k header → (o ≡ Some Alike) ⊎ IsNeeded o
  alike_by None t first = absurd (none_by None t refl first)
  alike_by (Some Alike) t first = inl refl
  alike_by o t first = inr tt

module _ (names : List (List ℕ)) (rules : List code.Rule) (numbered : AllByRecursion (IsNumberedBy names) rules) (distinct : AreDistinct names) (k : ℕ) where
  abbrev shown : List ℕ → Option Next
  shown header = next_behind rules k header

  told : (header : List ℕ) → Tells stated header rules k (shown header)
  told header = tells header k rules

  is_state : (state : RuleState) → IsStateSoFar IsHeader shown state → IsState (named_rules names rules) k state
  is_state (Live header) s = record {
    in_fields = s.0;
    holds = changed_by names rules numbered distinct k header.values (shown header.values) (told header.values) s.1;
    least = λ h ok before changed. s.2 h ok before (needed_by names rules numbered distinct k h (shown h) (told h) changed);
  }
  is_state (Droppable header) s = (
    (λ h ok changed. s.0 h ok (needed_by names rules numbered distinct k h (shown h) (told h) changed)),
    record {
      in_fields = s.1;
      holds = first_by names rules numbered distinct k header.values (shown header.values) (told header.values) s.2;
      least = λ h ok before first. elim (alike_by names rules numbered distinct k h (shown h) (told h) first) [
        | inl alike ↦ s.3 h ok before alike
        | inr needed ↦ s.0 h ok needed
      ];
    },
  )
  is_state Never s = λ h ok first. none_by names rules numbered distinct k h (shown h) (told h) (s h ok) first

pub are_states : (names : List (List ℕ)) (rules : List code.Rule) (states : List RuleState) → All (IsNumberedBy names) rules → AreDistinct names → length states ≡ length rules →
    ((k : ℕ) (d : RuleState) → k < length rules → IsStateSoFar IsHeader (next_behind rules k) (slice_index_or states k d)) →
    AreStates (named_rules names rules) states
are_states names rules states numbered distinct count each = record {
  count = count ∙ sym (length-map rules (named_rule names));
  each = λ k d less.
      is_state names rules (recursion_from_All (IsNumberedBy names) rules numbered) distinct k (slice_index_or states k d)
      (each k d (let n = length-map rules (named_rule names) in omega (arith, n, less)));
}
