-- Whether steps are a cover.
use Rattle.std.proofs.Common.{◌≡◌, ◌∷◌, ◌++◌, ◌∙◌, ℕ, ◌+◌, ◌<◌, ◌≤◌, List, [], Bool, true, false, ap, arith, get_or, length, max, refl, subst, sym, take, append-nil}
use Rattle.std.specs.Bool.{OnTrue}
use Rattle.std.proofs.lemmas.List.{get_or_default, take_all, take_more}
use Rattle.ternary_words.specs.declared.word.Word.{Word}
use Rattle.agreement_check.specs.declared.cover.Cover.{Cover}
use Rattle.agreement_check.specs.declared.step.Step.{Step}
use Rattle.agreement_check.specs.declared.step.Step.TheVariants.{InRule}
use Rattle.agreement_check.specs.Covering.{GoesOn, StandsFor, cubes_left}
use Rattle.agreement_check.specs.Covers.{Sides, Claim, AreCovered, IsCover, entries_named, rules_named}
use Rattle.agreement_check.proofs.Covering.{entries-more, rules-more}

-- one step more
abbrev pub no_step : Step
no_step = InRule 0

pub rules-further : (steps : List Step) (i old own new : ℕ) → i < length steps → old ≡ rules_named (take i steps) → own ≡ rules_named (get_or steps i no_step ∷ []) → new ≡ max own old → new ≡ rules_named (take (i + 1) steps)
rules-further steps i old own new less e f g =
    let step = get_or steps i no_step in
    let joined : rules_named (take (i + 1) steps) ≡ max (rules_named (take i steps)) (rules_named (step ∷ [])) = ap rules_named (take_more steps i no_step less) ∙ rules-more (take i steps) (step ∷ []) in
    omega (arith, e, f, g, joined)

pub entries-further : (steps : List Step) (i old own new : ℕ) → i < length steps → old ≡ entries_named (take i steps) → own ≡ entries_named (get_or steps i no_step ∷ []) → new ≡ max own old → new ≡ entries_named (take (i + 1) steps)
entries-further steps i old own new less e f g =
    let step = get_or steps i no_step in
    let joined : entries_named (take (i + 1) steps) ≡ max (entries_named (take i steps)) (entries_named (step ∷ [])) = ap entries_named (take_more steps i no_step less) ∙ entries-more (take i steps) (step ∷ []) in
    omega (arith, e, f, g, joined)

pub stands-further : (s : Sides) (c : Claim) (steps : List Step) (i : ℕ) (cover : Cover) → i < length steps → StandsFor s c (take i steps ++ get_or steps i no_step ∷ []) cover → StandsFor s c (take (i + 1) steps) cover
stands-further s c steps i cover less h = subst (λ xs. StandsFor s c xs cover) (sym (take_more steps i no_step less)) h

none_left : (s : Sides) (c : Claim) (left : List Word) → length left ≡ 0 → AreCovered s c (cubes_left left) []
none_left s c [] e = tt
none_left s c (w ∷ left) e = absurd (omega (arith, e))

-- with no cover to come the steps are one
whole : (s : Sides) (c : Claim) (steps : List Step) (cover : Cover) → (0 < cover.due → ⊥) → GoesOn s c steps cover → IsCover s c steps
whole s c steps cover none g =
    subst (IsCover s c) (append-nil steps) (g.enough [] (none_left s c cover.left.items (let e : length cover.left.items ≡ 0 = grind (arith, none, g.each_due) in e)))

on_true : (b : Bool) (P Q : Type 0) → (P → Q) → OnTrue b P → OnTrue b Q
on_true true P Q f h = f h
on_true false P Q f h = tt

pub all-taken : (s : Sides) (c : Claim) (steps : List Step) (i : ℕ) (cover : Cover) → length steps ≤ i → (0 < cover.due → ⊥) → StandsFor s c (take i steps) cover → OnTrue cover.holds (IsCover s c steps)
all-taken s c steps i cover all none h =
    on_true cover.holds (GoesOn s c (take i steps) cover) (IsCover s c steps) (λ g. subst (IsCover s c) (take_all i steps all) (whole s c (take i steps) cover none g)) h.holds
