-- The state of a rule once more headers are met.
use Rattle.std.proofs.Common.{◌≡◌, ℕ, List, ◌∙◌, ap, sym, subst, inl, inr, ◌⊎◌, Option, Some, None}
use Rattle.field_boxes.specs.declared.header.Header.{Header}
use Rattle.field_boxes.specs.Fields.{ComesBefore}
use Rattle.rule_audit.specs.declared.label.Next.{Next}
use Rattle.rule_audit.specs.declared.label.Next.TheVariants.{Nothing, Alike, Otherwise}
use Rattle.rule_audit.specs.declared.state.RuleState.{RuleState}
use Rattle.rule_audit.specs.declared.state.RuleState.TheVariants.{Live, Droppable, Never}
use Rattle.rule_audit.specs.Meeting.{IsNeeded, IsStateSoFar, state_after}
use Rattle.rule_audit.proofs.Order.{before_itself, in_turn}

-- an earlier header that was met shows the same
pub record IsKnown (Old : List ℕ → Type 0) {X : Type 0} (shown : List ℕ → X) (h : List ℕ) : Type 0 where
  pub earlier : List ℕ
  pub old : Old earlier
  pub same : shown earlier ≡ shown h
  pub before : ComesBefore earlier h

module _ (shown : List ℕ → Option Next) (Old New : List ℕ → Type 0) (grows : (h : List ℕ) → Old h → New h) where
  -- headers that show what earlier ones show change nothing
  module _ (known : (h : List ℕ) → New h → Old h ⊎ IsKnown Old shown h) where
    nowhere : ((h : List ℕ) → Old h → IsNeeded (shown h) → ⊥) → (h : List ℕ) → New h → IsNeeded (shown h) → ⊥
    nowhere none h new needed = elim (known h new) [ inl old ↦ none h old needed | inr k ↦ none k.earlier k.old (subst IsNeeded (sym k.same) needed) ]

    not_before : (P : Option Next → Type 0) (at : List ℕ) → ((h : List ℕ) → Old h → ComesBefore h at → P (shown h) → ⊥) →
        (h : List ℕ) → New h → ComesBefore h at → P (shown h) → ⊥
    not_before P at none h new before p = elim (known h new) [
      | inl old ↦ none h old before p
      | inr k ↦ none k.earlier k.old (in_turn k.earlier h at k.before before) (subst P (sym k.same) p)
    ]

    pub widened : (state : RuleState) → IsStateSoFar Old shown state → IsStateSoFar New shown state
    widened (Live header) s = (grows header.values s.0, s.1, not_before IsNeeded header.values s.2)
    widened (Droppable header) s = (nowhere s.0, grows header.values s.1, s.2, not_before (λ o. o ≡ Some Alike) header.values s.3)
    widened Never s = λ h new. elim (known h new) [ inl old ↦ s h old | inr k ↦ sym k.same ∙ s k.earlier k.old ]

  -- one header more, after all earlier ones
  module _ (header : Header) (last : New header.values) (known : (h : List ℕ) → New h → Old h ⊎ (h ≡ header.values)) (after : (h : List ℕ) → Old h → ComesBefore h header.values) where
    still : (P : Option Next → Type 0) → (P (shown header.values) → ⊥) → ((h : List ℕ) → Old h → P (shown h) → ⊥) → (h : List ℕ) → New h → P (shown h) → ⊥
    still P here none h new p = elim (known h new) [ inl old ↦ none h old p | inr same ↦ here (subst (λ x. P (shown x)) same p) ]

    old_least : (P : Option Next → Type 0) (at : List ℕ) → Old at → ((h : List ℕ) → Old h → ComesBefore h at → P (shown h) → ⊥) →
        (h : List ℕ) → New h → ComesBefore h at → P (shown h) → ⊥
    old_least P at met none h new before p = elim (known h new) [
      | inl old ↦ none h old before p
      | inr same ↦ before_itself at (in_turn at header.values at (after at met) (subst (λ x. ComesBefore x at) same before))
    ]

    new_least : (P : Option Next → Type 0) → ((h : List ℕ) → Old h → P (shown h) → ⊥) → (h : List ℕ) → New h → ComesBefore h header.values → P (shown h) → ⊥
    new_least P none h new before p = elim (known h new) [
      | inl old ↦ none h old p
      | inr same ↦ before_itself header.values (subst (λ x. ComesBefore x header.values) same before)
    ]

    not_needed : ((h : List ℕ) → Old h → shown h ≡ None) → (h : List ℕ) → Old h → IsNeeded (shown h) → ⊥
    not_needed none h old needed = subst IsNeeded (none h old) needed

    not_alike : ((h : List ℕ) → Old h → shown h ≡ None) → (h : List ℕ) → Old h → shown h ≡ Some Alike → ⊥
    not_alike none h old is = let e : None ≡ Some Alike = sym (none h old) ∙ is in cc

    keeps_live : (earlier : Header) → IsStateSoFar Old shown (Live earlier) → IsStateSoFar New shown (Live earlier)
    keeps_live earlier s = (grows earlier.values s.0, s.1, old_least IsNeeded earlier.values s.0 s.2)

    keeps_droppable : (earlier : Header) → (IsNeeded (shown header.values) → ⊥) → IsStateSoFar Old shown (Droppable earlier) → IsStateSoFar New shown (Droppable earlier)
    keeps_droppable earlier here s =
        (still IsNeeded here s.0, grows earlier.values s.1, s.2, old_least (λ o. o ≡ Some Alike) earlier.values s.1 s.3)

    live_now : IsNeeded (shown header.values) → ((h : List ℕ) → Old h → IsNeeded (shown h) → ⊥) → IsStateSoFar New shown (Live header)
    live_now needed none = (last, needed, new_least IsNeeded none)

    pub one_more : (o : Option Next) → shown header.values ≡ o → (state : RuleState) → IsStateSoFar Old shown state → IsStateSoFar New shown (state_after o header state)
    one_more None e (Live earlier) s = keeps_live earlier s
    one_more None e (Droppable earlier) s = keeps_droppable earlier (λ needed. subst IsNeeded e needed) s
    one_more None e Never s = λ h new. elim (known h new) [ inl old ↦ s h old | inr same ↦ ap shown same ∙ e ]
    one_more (Some Nothing) e (Live earlier) s = keeps_live earlier s
    one_more (Some Nothing) e Never s = live_now (subst IsNeeded (sym e) tt) (not_needed s)
    one_more (Some Otherwise) e (Live earlier) s = keeps_live earlier s
    one_more (Some Otherwise) e Never s = live_now (subst IsNeeded (sym e) tt) (not_needed s)
    one_more (Some Alike) e (Live earlier) s = keeps_live earlier s
    one_more (Some Alike) e (Droppable earlier) s = keeps_droppable earlier (λ needed. subst IsNeeded e needed) s
    one_more (Some Alike) e Never s =
        (still IsNeeded (λ needed. subst IsNeeded e needed) (not_needed s), last, e, new_least (λ o. o ≡ Some Alike) (not_alike s))
    one_more o e x s = live_now (subst IsNeeded (sym e) tt) s.0

-- what is shown matters for the headers that were met alone
pub shown_alike : (Met : List ℕ → Type 0) (shown other : List ℕ → Option Next) → ((h : List ℕ) → Met h → shown h ≡ other h) →
    (state : RuleState) → IsStateSoFar Met shown state → IsStateSoFar Met other state
shown_alike Met shown other same (Live header) s =
    (s.0, subst IsNeeded (same header.values s.0) s.1, λ h met before needed. s.2 h met before (subst IsNeeded (sym (same h met)) needed))
shown_alike Met shown other same (Droppable header) s = (
  (λ h met needed. s.0 h met (subst IsNeeded (sym (same h met)) needed)),
  s.1,
  sym (same header.values s.1) ∙ s.2,
  (λ h met before is. s.3 h met before (same h met ∙ is)),
)
shown_alike Met shown other same Never s = λ h met. sym (same h met) ∙ s h met
