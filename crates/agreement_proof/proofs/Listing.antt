-- Lines that are put behind a text, one by one.
use Rattle.std.proofs.Common.{◌≡◌, ◌∷◌, ◌++◌, ◌⊎◌, ◌∙◌, ℕ, ◌+◌, ◌<◌, ◌≤◌, ◌^◌, List, [], Option, Some, None, true, Contains, ap, arith, get_or, inl, inr, length, map, refl, slice_get, subst, sym, append-nil}
use Rattle.std.specs.List.{AllPairs, flat_map}
use Rattle.std.proofs.lemmas.Bool.{cases_lt}
use Rattle.std.proofs.lemmas.List.{flat_map_more, get_or_append_left, get_or_default, get_or_push, length_push, map-append}
use Rattle.std.proofs.lemmas.List.Elements.{Contains-append_left, Contains-push_cases}
use Rattle.std.proofs.lemmas.List.Quantifiers.{all_pairs_push}
use Rattle.std.proofs.lemmas.Option.{get_or_from_slice_get, none-some, same_Some, slice_get-get_or, slice_get_past, slice_get_within}
use Rattle.agreement_check.specs.declared.pair.Pair.{Pair}
use Rattle.agreement_check.specs.declared.step.Step.{Step}
use Rattle.agreement_check.specs.Claims.{IsOpenPair, Taken, pair_claim}
use Rattle.agreement_check.specs.Covers.{Sides, Claim}
use Rattle.agreement_check.specs.Pairs.{comes_before}
use Rattle.agreement_check.specs.Proofs.{Cover, Covered, Holds, cover_text, pair_text, steps_in}
use Rattle.agreement_check.proofs.Ordered.{before, is-before}
use Rattle.agreement_proof.specs.Showing.{AreStepsOf}
use Rattle.agreement_proof.specs.Texts.{AreApart, IsWithin, PutsCover, PutsCovers, PutsPair, PutsPairs, pair_line_text, steps_text}

-- Covers.

-- the line of these steps
pub cover-put : (s : Sides) (c : Claim) (kind : ℕ) (named : List Step → ℕ) (steps : List Step) (before after : List ℕ) (reach : ℕ) → AreStepsOf s c c.cube steps →
    after ≡ before ++ (kind ∷ steps_text steps) → reach ≡ named steps → PutsCover s c kind named before after reach
cover-put s c kind named steps before after reach h e f = record {
  cover = h.cover;
  holds = h.holds;
  text = e ∙ ap (λ xs. before ++ (kind ∷ steps_text xs)) h.are;
  reach_is = f ∙ ap named h.are;
}

pub no-covers : (s : Sides) (claim : ℕ → Claim) (kind : ℕ) (named : List Step → ℕ) (text reaches : List ℕ) → reaches ≡ [] → PutsCovers s claim kind named 0 text text reaches
no-covers s claim kind named text reaches none = record {
  covers = [];
  each = refl;
  hold = λ k cover e. absurd (none-some cover (sym (slice_get_past {X = Cover} [] k (omega arith)) ∙ e));
  text = sym (append-nil text);
  reaches_are = none;
}

-- an item of a list with one more behind
pushed_item : {A : Type 0} (xs : List A) (y x : A) (k : ℕ) → slice_get (xs ++ y ∷ []) k ≡ Some x → (slice_get xs k ≡ Some x) ⊎ ((k ≡ length xs) × (y ≡ x))
pushed_item xs y x k e =
    let within = slice_get_within (xs ++ y ∷ []) k x e in
    let at : get_or (xs ++ y ∷ []) k x ≡ x = get_or_from_slice_get (xs ++ y ∷ []) k x x e in
    elim (cases_lt k (length xs)) [
      | inl less ↦ inl (slice_get-get_or xs k x less ∙ ap (λ z. Some z) (sym (get_or_append_left xs (y ∷ []) x k less) ∙ at))
      | inr more ↦
          let same : length xs ≡ k = omega (arith, more, within, length_push xs y) in
          inr (sym same, sym (get_or_push xs y x k same) ∙ at)
    ]

pushed_holds : (s : Sides) (claim : ℕ → Claim) (covers : List Cover) (new : Cover) (n : ℕ) → length covers ≡ n → ((k : ℕ) (cover : Cover) → slice_get covers k ≡ Some cover → Holds s (claim k) (claim k).cube cover) →
    Holds s (claim n) (claim n).cube new → (k : ℕ) (cover : Cover) → slice_get (covers ++ new ∷ []) k ≡ Some cover → Holds s (claim k) (claim k).cube cover
pushed_holds s claim covers new n count hold own k cover e = elim (pushed_item covers new cover k e) [
  | inl old ↦ hold k cover old
  | inr last ↦ subst (λ x. Holds s (claim k) (claim k).cube x) last.1 (subst (λ i. Holds s (claim i) (claim i).cube new) (sym (last.0 ∙ count)) own)
]

pub covers-more : (s : Sides) (claim : ℕ → Claim) (kind : ℕ) (named : List Step → ℕ) (n : ℕ) (first mid after old new : List ℕ) (reach : ℕ) → PutsCovers s claim kind named n first mid old →
    PutsCover s (claim n) kind named mid after reach → new ≡ old ++ reach ∷ [] → PutsCovers s claim kind named (n + 1) first after new
covers-more s claim kind named n first mid after old new reach p q e = record {
  covers = p.covers ++ q.cover ∷ [];
  each = length_push p.covers q.cover ∙ ap (λ k. k + 1) p.each;
  hold = pushed_holds s claim p.covers q.cover n p.each p.hold q.holds;
  text = q.text ∙ ap (λ xs. xs ++ (kind ∷ cover_text q.cover)) p.text ∙ flat_map_more (λ cover. kind ∷ cover_text cover) first p.covers q.cover;
  reaches_are = e ∙ ap (λ xs. xs ++ reach ∷ []) p.reaches_are ∙ ap (λ r. map (λ cover. named (steps_in cover)) p.covers ++ r ∷ []) q.reach_is
      ∙ sym (map-append (λ cover. named (steps_in cover)) p.covers (q.cover ∷ []));
}

-- Pairs.

pub pair-put : (s : Sides) (p : Pair) (steps : List Step) (before after : List ℕ) → AreStepsOf s (pair_claim s p) (pair_claim s p).cube steps → after ≡ before ++ pair_line_text p steps → PutsPair s p before after
pair-put s p steps before after h e = record { cover = h.cover; holds = h.holds; text = e ∙ ap (λ xs. before ++ pair_line_text p xs) h.are }

abbrev pair_in : Covered → Pair
pair_in c = c.pair

none_before : (q : Pair) (entry : ℕ) → entry ≡ 0 → comes_before q (record { rule = 0; entry = entry }) ≡ true → ⊥
none_before q entry e t = elim (is-before q (record { rule = 0; entry = entry }) t) [ inl less ↦ omega (arith, e, less) | inr same ↦ omega (arith, same.1) ]

no_item : {A : Type 0} (x : A) → Contains [] x → ⊥
no_item x (k, less, is) = omega (arith, less)

pub no-pairs : (s : Sides) (t : Taken) (text : List ℕ) → PutsPairs s t (record { rule = 0; entry = 0 }) text text 0
no-pairs s t text = record {
  pairs = [];
  each = refl;
  few = omega arith;
  hold = λ c has. absurd (no_item c has);
  within = λ c has. absurd (no_item c has);
  rising = λ i j d less within. absurd (omega (arith, within));
  earlier = λ q has. absurd (no_item q has);
  each_open = λ q early in_both is. absurd (none_before q 0 refl early);
  text = sym (append-nil text);
}

-- the next pair of the entry
abbrev after_pair : Pair → Pair
after_pair p = record { rule = p.rule + 1; entry = p.entry }

before_next : (p q : Pair) → comes_before q p ≡ true → comes_before q (after_pair p) ≡ true
before_next p q t = elim (is-before q p t) [ inl less ↦ before q (after_pair p) (inl less) | inr same ↦ before q (after_pair p) (inr (same.0, omega (arith, same.1))) ]

itself_before : (p : Pair) → comes_before p (after_pair p) ≡ true
itself_before p = before p (after_pair p) (inr (refl, omega arith))

same_pair : (p q : Pair) → p.rule ≡ q.rule → p.entry ≡ q.entry → p ≡ q
same_pair p q e f = ap (λ n. record { rule = n; entry = p.entry }) e ∙ ap (λ n. record { rule = q.rule; entry = n }) f

or_itself : (p q : Pair) → comes_before q (after_pair p) ≡ true → (comes_before q p ≡ true) ⊎ (p ≡ q)
or_itself p q t = elim (is-before q (after_pair p) t) [
  | inl less ↦ inl (before q p (inl less))
  | inr same ↦ elim (cases_lt q.rule p.rule) [
    | inl less ↦ inl (before q p (inr (same.0, less)))
    | inr more ↦ inr (same_pair p q (let e : p.rule ≡ q.rule = omega (arith, more, same.1) in e) (sym same.0))
  ]
]

pub pair-left : (s : Sides) (t : Taken) (p : Pair) (first text : List ℕ) (count : ℕ) → PutsPairs s t p first text count → (IsOpenPair s t p → ⊥) → PutsPairs s t (after_pair p) first text count
pair-left s t p first text count h not = record {
  pairs = h.pairs;
  each = h.each;
  few = h.few;
  hold = h.hold;
  within = h.within;
  rising = h.rising;
  earlier = λ q has. before_next p q (h.earlier q has);
  each_open = λ q early in_both is. elim (or_itself p q early) [
    | inl old ↦ h.each_open q old in_both is
    | inr same ↦ absurd (not (subst (λ x. IsOpenPair s t x) (sym same) is))
  ];
  text = h.text;
}

pushed : (P : Covered → Type 0) (xs : List Covered) (y : Covered) → ((c : Covered) → Contains xs c → P c) → P y → (c : Covered) → Contains (xs ++ y ∷ []) c → P c
pushed P xs y f p c has = elim (Contains-push_cases xs y c has) [ inl old ↦ f c old | inr last ↦ subst P last p ]

last_item : {A : Type 0} (xs : List A) (y : A) → Contains (xs ++ y ∷ []) y
last_item xs y = (length xs, (let e = length_push xs y in omega (arith, e)), get_or_push xs y y (length xs) refl)

mapped : (xs : List Covered) (y : Covered) → map pair_in (xs ++ y ∷ []) ≡ map pair_in xs ++ y.pair ∷ []
mapped xs y = map-append pair_in xs (y ∷ [])

rising_push : (ps : List Pair) (p : Pair) → AllPairs (λ q r. comes_before q r ≡ true) ps → ((q : Pair) → Contains ps q → comes_before q p ≡ true) → AllPairs (λ q r. comes_before q r ≡ true) (ps ++ p ∷ [])
rising_push ps p rise early = all_pairs_push (λ q r. comes_before q r ≡ true) ps p rise (λ k d less. early (get_or ps k d) (k, less, get_or_default ps k (get_or ps k d) d less))

earlier_push : (ps : List Pair) (p : Pair) → ((q : Pair) → Contains ps q → comes_before q p ≡ true) → (q : Pair) → Contains (ps ++ p ∷ []) q → comes_before q (after_pair p) ≡ true
earlier_push ps p early q has = elim (Contains-push_cases ps p q has) [
  | inl old ↦ before_next p q (early q old)
  | inr last ↦ subst (λ x. comes_before x (after_pair p) ≡ true) last (itself_before p)
]

open_push : (s : Sides) (t : Taken) (ps : List Pair) (p : Pair) → ((q : Pair) → comes_before q p ≡ true → IsWithin s q → IsOpenPair s t q → Contains ps q) →
    (q : Pair) → comes_before q (after_pair p) ≡ true → IsWithin s q → IsOpenPair s t q → Contains (ps ++ p ∷ []) q
open_push s t ps p each q early in_both is = elim (or_itself p q early) [
  | inl old ↦ Contains-append_left ps (p ∷ []) q (each q old in_both is)
  | inr same ↦ subst (λ x. Contains (ps ++ p ∷ []) x) same (last_item ps p)
]

pub pairs-more : (s : Sides) (t : Taken) (p : Pair) (first mid after : List ℕ) (count more : ℕ) → PutsPairs s t p first mid count → PutsPair s p mid after → IsWithin s p → more ≡ count + 1 → more < 2 ^ 32 →
    PutsPairs s t (after_pair p) first after more
pairs-more s t p first mid after count more h q in_both e few =
    let own : Covered = record { pair = p; cover = q.cover } in
    let moved : map pair_in h.pairs ++ p ∷ [] ≡ map pair_in (h.pairs ++ own ∷ []) = sym (mapped h.pairs own) in
    record {
      pairs = h.pairs ++ own ∷ [];
      each = omega (arith, e, h.each, length_push h.pairs own);
      few = few;
      hold = pushed (λ c. Holds s (pair_claim s c.pair) (pair_claim s c.pair).cube c.cover) h.pairs own h.hold q.holds;
      within = pushed (λ c. IsWithin s c.pair) h.pairs own h.within in_both;
      rising = subst (λ ps. AllPairs (λ x y. comes_before x y ≡ true) ps) moved (rising_push (map pair_in h.pairs) p h.rising h.earlier);
      earlier = subst (λ ps. (x : Pair) → Contains ps x → comes_before x (after_pair p) ≡ true) moved (earlier_push (map pair_in h.pairs) p h.earlier);
      each_open = subst (λ ps. (x : Pair) → comes_before x (after_pair p) ≡ true → IsWithin s x → IsOpenPair s t x → Contains ps x) moved (open_push s t (map pair_in h.pairs) p h.each_open);
      text = q.text ∙ ap (λ xs. xs ++ pair_text own) h.text ∙ flat_map_more pair_text first h.pairs own;
    }

-- behind the last pair of an entry comes the first of the next one
over_end : (j : ℕ) (q : Pair) (rule : ℕ) → comes_before q (record { rule = rule; entry = j }) ≡ true → comes_before q (record { rule = 0; entry = j + 1 }) ≡ true
over_end j q rule t = elim (is-before q (record { rule = rule; entry = j }) t) [
  | inl less ↦ before q (record { rule = 0; entry = j + 1 }) (inl (omega (arith, less)))
  | inr same ↦ before q (record { rule = 0; entry = j + 1 }) (inl (omega (arith, same.0)))
]

back_in : (s : Sides) (j : ℕ) (q : Pair) (rule : ℕ) → length s.list.rules.items < rule → IsWithin s q → comes_before q (record { rule = 0; entry = j + 1 }) ≡ true → comes_before q (record { rule = rule; entry = j }) ≡ true
back_in s j q rule all in_both t = elim (is-before q (record { rule = 0; entry = j + 1 }) t) [
  | inl less ↦ elim (cases_lt q.entry j) [
    | inl low ↦ before q (record { rule = rule; entry = j }) (inl low)
    | inr high ↦ before q (record { rule = rule; entry = j }) (inr ((let e : q.entry ≡ j = omega (arith, less, high) in e), omega (arith, all, in_both.rule)))
  ]
  | inr same ↦ absurd (omega (arith, same.1))
]

pub row-ended : (s : Sides) (t : Taken) (j rule : ℕ) (first text : List ℕ) (count : ℕ) → length s.list.rules.items < rule → PutsPairs s t (record { rule = rule; entry = j }) first text count →
    PutsPairs s t (record { rule = 0; entry = j + 1 }) first text count
row-ended s t j rule first text count all h = record {
  pairs = h.pairs;
  each = h.each;
  few = h.few;
  hold = h.hold;
  within = h.within;
  rising = h.rising;
  earlier = λ q has. over_end j q rule (h.earlier q has);
  each_open = λ q early in_both is. h.each_open q (back_in s j q rule all in_both early) in_both is;
  text = h.text;
}
