-- When a rule has all headers of a box, and when it has some of them, by what it has of each field.
use Rattle.std.proofs.Common.{◌≡◌, ℕ, ◌≤◌, ◌<◌, List, [], ◌∷◌, length, arith, refl, ap, subst, sym, ◌∙◌, get_or}
use Rattle.std.specs.Prelude.{Bool, true, false, cond, map, nat_eq, slice_index, slice_index_or, IsTrue, IsFalse}
use Rattle.std.proofs.lemmas.Bool.{eqb-true, eq-eqb}
use Rattle.std.proofs.lemmas.List.{get_or-map, length-map}
use Rattle.field_boxes.specs.declared.span.Span.{Span}
use Rattle.field_boxes.specs.Headline.Fields.{stated}
use Rattle.field_boxes.specs.Fields.{greatest_of}
use Rattle.field_boxes.specs.Headline.Classifier.{Interval, Rule, interval_holds, union_holds, matches}
use Rattle.field_boxes.specs.Spans.{interval_of}
use Rattle.field_boxes.specs.SpanLists.{filling}
use Rattle.field_boxes.specs.Boxes.{box_of, EachHeader, SomeHeader, EachValue, SomeValue}
use Rattle.field_boxes.proofs.Unions.{between, holds_between}
use Rattle.field_boxes.proofs.FieldByField.{five, large, header_at, each_matches, header_of, is_header, header_matches, header_fails, box_set, set_at}

-- one of the sets that are given as slices
pub given_set : {X : Type 0} (f : X → List Interval) (xs : List X) (sets : List (List Interval)) (k : ℕ) (d : X) → map f xs ≡ sets → k < length sets → f (get_or xs k d) ≡ slice_index_or sets k []
given_set f xs sets k d e h = let n = length-map xs f in sym (get_or-map f xs k d [] (omega (arith, n, ap length e))) ∙ ap (λ (ss : List (List Interval)). slice_index_or ss k []) e

-- what holds of a field's greatest value, a span and a set, each named in another way
pub moved : (Q : ℕ → Span → List Interval → Type 0) (g g' : ℕ) (s s' : Span) (is is' : List Interval) → g ≡ g' → s ≡ s' → is ≡ is' → Q g s is → Q g' s' is'
moved Q g g' s s' is is' a b c h = subst (λ x. Q x s' is') a (subst (λ x. Q g x is') b (subst (λ x. Q g s x) c h))

module _ (spans : List Span) (count : length spans ≡ 5) (rule : Rule ℕ) where
  abbrev span : ℕ → Span
  span k = slice_index_or spans k filling

  abbrev held : ℕ → ℕ → Bool
  held k v = union_holds v (slice_index_or rule.sets k [])

  abbrev box : Rule ℕ
  box = record { sets = box_of spans; decision = 0 }

  -- a box with a span that begins past its field has no header
  pub no_header : (P : List ℕ → Type 0) (k : ℕ) → k < 5 → greatest_of k < (span k).lo → EachHeader (box_of spans) P
  no_header P k low past header is inside =
      let at = header_at k header low is in
      let in_span = between at.0 (interval_of (span k)) (sym (box_set spans k at.0 filling (omega (arith, count))) ∙ at.2 box inside) in
      let begins = in_span.0 in
      let top = large k at.0 low at.1 in
      absurd (omega (arith, past))

  pub all_held : ((k : ℕ) → k < 5 → EachValue (greatest_of k) (span k) (λ v. IsTrue (held k v))) → EachHeader (box_of spans) (λ h. IsTrue (matches stated h rule))
  all_held each header is inside =
      each_matches box rule header is
      (λ k v low small here. set_at rule k v ∙ each k low v (large k v low small) (sym (box_set spans k v filling (omega (arith, count))) ∙ here)) inside

  pub none_held : (k : ℕ) → k < 5 → EachValue (greatest_of k) (span k) (λ v. IsFalse (held k v)) → EachHeader (box_of spans) (λ h. IsFalse (matches stated h rule))
  none_held k low each header is inside =
      let at = header_at k header low is in
      at.3 rule (set_at rule k at.0 ∙ each at.0 (large k at.0 low at.1) (sym (box_set spans k at.0 filling (omega (arith, count))) ∙ at.2 box inside))

  -- values for a header in the box
  abbrev InBox : (ℕ → ℕ) → Type 0
  InBox w = (k : ℕ) → k < 5 → (w k ≤ greatest_of k) × (interval_holds (w k) (interval_of (span k)) ≡ true)

  some_header : (w : ℕ → ℕ) (P : List ℕ → Type 0) → InBox w → P (header_of w) → SomeHeader (box_of spans) P
  some_header w P each here = (
    header_of w,
    is_header w (λ k low. (each k low).0),
    header_matches w box (λ k low. box_set spans k (w k) filling (omega (arith, count)) ∙ (each k low).1),
    here,
  )

  -- one value at one place, and the least of the span elsewhere
  abbrev with_value : ℕ → ℕ → ℕ → ℕ
  with_value k v j = cond (nat_eq j k) v (span j).lo

  value_in : (k v j : ℕ) (t : Bool) → nat_eq j k ≡ t → v ≤ greatest_of k → interval_holds v (interval_of (span k)) ≡ true → (span j).lo ≤ greatest_of j →
      (cond t v (span j).lo ≤ greatest_of j) × (interval_holds (cond t v (span j).lo) (interval_of (span j)) ≡ true)
  value_in k v j true e top inside begins =
      let same = sym (eqb-true j k e) in
      (subst (λ i. v ≤ greatest_of i) same top, subst (λ i. interval_holds v (interval_of (span i)) ≡ true) same inside)
  value_in k v j false e top inside begins =
      let ordered = (span j).ordered in
      (begins, holds_between (span j).lo (interval_of (span j)) (omega arith) ordered)

  pub some_missing : (k : ℕ) → k < 5 → SomeValue (greatest_of k) (span k) (λ v. IsFalse (held k v)) → ((j : ℕ) → j < 5 → (span j).lo ≤ greatest_of j) → SomeHeader (box_of spans) (λ h. IsFalse (matches stated h rule))
  some_missing k low value begin =
      let v = value.0 in
      some_header (with_value k v) (λ h. IsFalse (matches stated h rule)) (λ j five. value_in k v j (nat_eq j k) refl value.1 value.2 (begin j five))
      (header_fails (with_value k v) rule k low (set_at rule k (with_value k v k) ∙ ap (λ t. held k (cond t v (span k).lo)) (eq-eqb k k refl) ∙ value.3))

  pub some_held : ((k : ℕ) → k < 5 → SomeValue (greatest_of k) (span k) (λ v. IsTrue (held k v))) → SomeHeader (box_of spans) (λ h. IsTrue (matches stated h rule))
  some_held value =
      let a = value 0 (omega arith) in
      let b = value 1 (omega arith) in
      let c = value 2 (omega arith) in
      let d = value 3 (omega arith) in
      let e = value 4 (omega arith) in
      let w : ℕ → ℕ = λ k. slice_index (a.0 ∷ b.0 ∷ c.0 ∷ d.0 ∷ e.0 ∷ []) k in
      some_header w (λ h. IsTrue (matches stated h rule))
      (λ k low. five (λ j. (w j ≤ greatest_of j) × (interval_holds (w j) (interval_of (span j)) ≡ true)) (a.1, a.2) (b.1, b.2) (c.1, c.2) (d.1, d.2) (e.1, e.2) k low)
      (header_matches w rule (λ k low. set_at rule k (w k) ∙ five (λ j. held j (w j) ≡ true) a.3 b.3 c.3 d.3 e.3 k low))
