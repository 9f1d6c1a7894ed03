-- What a pass from the last entry to the first keeps is part of the table, answers alike and is tight, and nothing else is kept by one.
use Rattle.std.proofs.Common.{◌≡◌, ◌∷◌, ◌⊎◌, ℕ, zero, suc, List, [], ◌<◌, Bool, true, false, length, refl, ap, arith, sym, ◌∙◌, subst, inl, inr}
use Rattle.std.specs.Prelude.{◌≢◌, ◌||◌, cond}
use Rattle.std.specs.List.{list_any, remove}
use Rattle.std.proofs.lemmas.Bool.{or_parts}
use Rattle.field_boxes.specs.Alike.{AreAlike, IsTight}
use Rattle.field_boxes.specs.Headline.Fields.{IsHeader}
use Rattle.ternary_words.specs.declared.entry.Entry.{Entry}
use Rattle.ternary_words.specs.Entries.{answer, entry_matches, IsPart}
use Rattle.redundancy_laws.specs.Pass.{IsNeeded, IsRedundant, Keeps}

part_step : (e : Entry) (entries kept later : List Entry) (N R : Type 0) → (N × (kept ≡ e ∷ later)) ⊎ (R × (kept ≡ later)) → IsPart later entries → IsPart kept (e ∷ entries)
part_step e entries kept later N R (inl h) p = inl (later, h.1, p)
part_step e entries kept later N R (inr h) p = inr (subst (λ ks. IsPart ks entries) (sym h.1) p)

pub part : (before entries kept : List Entry) → Keeps before entries kept → IsPart kept entries
part before [] kept h = h
part before (e ∷ entries) kept h = part_step e entries kept h.0 (IsNeeded before e h.0) (IsRedundant before e h.0) h.2 (part (e ∷ before) entries h.0 h.1)

alike_at : (header : List ℕ) (before later kept entries : List Entry) (e : Entry) (t : Bool) → entry_matches header e ≡ t → IsHeader header → list_any (entry_matches header) before ≡ false →
    (IsNeeded before e later × (kept ≡ e ∷ later)) ⊎ (IsRedundant before e later × (kept ≡ later)) → (list_any (entry_matches header) (e ∷ before) ≡ false → answer later header ≡ answer entries header) →
    answer kept header ≡ answer (e ∷ entries) header
alike_at header before later kept entries e true is one none (inl h) k = ap (λ ks. answer ks header) h.1 ∙ ap (λ t. cond t e.decision (answer later header)) is ∙ sym (ap (λ t. cond t e.decision (answer entries header)) is)
alike_at header before later kept entries e true is one none (inr h) k = ap (λ ks. answer ks header) h.1 ∙ h.0 header (one, none, is) ∙ sym (ap (λ t. cond t e.decision (answer entries header)) is)
alike_at header before later kept entries e false is one none (inl h) k =
    ap (λ ks. answer ks header) h.1 ∙ ap (λ t. cond t e.decision (answer later header)) is ∙ k (ap (λ t. t || list_any (entry_matches header) before) is ∙ none) ∙ sym (ap (λ t. cond t e.decision (answer entries header)) is)
alike_at header before later kept entries e false is one none (inr h) k =
    ap (λ ks. answer ks header) h.1 ∙ k (ap (λ t. t || list_any (entry_matches header) before) is ∙ none) ∙ sym (ap (λ t. cond t e.decision (answer entries header)) is)

alike_after : (header : List ℕ) (before entries kept : List Entry) → Keeps before entries kept → IsHeader header → list_any (entry_matches header) before ≡ false → answer kept header ≡ answer entries header
alike_after header before [] kept h one none = ap (λ ks. answer ks header) h
alike_after header before (e ∷ entries) kept h one none =
    alike_at header before h.0 kept entries e (entry_matches header e) refl one none h.2 (alike_after header (e ∷ before) entries h.0 h.1 one)

pub alike : (entries kept : List Entry) → Keeps [] entries kept → AreAlike (answer kept) (answer entries)
alike entries kept h header one = alike_after header [] entries kept h one refl

-- a header that no entry before matches, and that changes its answer without the kept entry at the place
abbrev Changes : List Entry → List Entry → ℕ → Type 0
Changes before kept place = (header : List ℕ) × IsHeader header × (list_any (entry_matches header) before ≡ false) × (answer (remove kept place) header ≢ answer kept header)

change_here : (before later : List Entry) (e : Entry) → IsNeeded before e later → Changes before (e ∷ later) zero
change_here before later e h =
    (h.0, h.1.0, h.1.1, λ k. h.2 (k ∙ ap (λ t. cond t e.decision (answer later h.0)) h.1.2))

change_later : (before later : List Entry) (e : Entry) (place : ℕ) → Changes (e ∷ before) later place → Changes before (e ∷ later) (suc place)
change_later before later e place h =
    let n = or_parts (entry_matches h.0 e) (list_any (entry_matches h.0) before) h.2 in
    (h.0, h.1, n.1, λ k. h.3 (sym (ap (λ t. cond t e.decision (answer (remove later place) h.0)) n.0) ∙ k ∙ ap (λ t. cond t e.decision (answer later h.0)) n.0))

kept_change : (before later : List Entry) (e : Entry) → IsNeeded before e later → ((place : ℕ) → place < length later → Changes (e ∷ before) later place) → (place : ℕ) → place < length (e ∷ later) → Changes before (e ∷ later) place
kept_change before later e need k zero less = change_here before later e need
kept_change before later e need k (suc place) less = change_later before later e place (k place (omega (arith, less)))

change_step : (before later kept : List Entry) (e : Entry) → (IsNeeded before e later × (kept ≡ e ∷ later)) ⊎ (IsRedundant before e later × (kept ≡ later)) →
    ((place : ℕ) → place < length later → Changes (e ∷ before) later place) → (place : ℕ) → place < length kept → Changes before kept place
change_step before later kept e (inl h) k place less =
    subst (λ ks. Changes before ks place) (sym h.1) (kept_change before later e h.0 k place (subst (λ ks. place < length ks) h.1 less))
change_step before later kept e (inr h) k place less =
    let c = k place (subst (λ ks. place < length ks) h.1 less) in
    subst (λ ks. Changes before ks place) (sym h.1) (c.0, c.1, (or_parts (entry_matches c.0 e) (list_any (entry_matches c.0) before) c.2).1, c.3)

changes : (before entries kept : List Entry) → Keeps before entries kept → (place : ℕ) → place < length kept → Changes before kept place
changes before [] kept h place less = absurd (omega (arith, less, ap length h))
changes before (e ∷ entries) kept h place less = change_step before h.0 kept e h.2 (changes (e ∷ before) entries h.0 h.1) place less

pub tight : (entries kept : List Entry) → Keeps [] entries kept → IsTight answer kept
tight entries kept h place less = let c = changes [] entries kept h place less in (c.0, c.1, c.3)

one_step : (before : List Entry) (e : Entry) (xs ys later others : List Entry) → later ≡ others → (IsNeeded before e later × (xs ≡ e ∷ later)) ⊎ (IsRedundant before e later × (xs ≡ later)) →
    (IsNeeded before e others × (ys ≡ e ∷ others)) ⊎ (IsRedundant before e others × (ys ≡ others)) → xs ≡ ys
one_step before e xs ys later others same (inl h) (inl k) = h.1 ∙ ap (λ rs. e ∷ rs) same ∙ sym k.1
one_step before e xs ys later others same (inl h) (inr k) = absurd (h.0.2 (ap (λ rs. answer rs h.0.0) same ∙ k.0 h.0.0 h.0.1))
one_step before e xs ys later others same (inr h) (inl k) = absurd (k.0.2 (ap (λ rs. answer rs k.0.0) (sym same) ∙ h.0 k.0.0 k.0.1))
one_step before e xs ys later others same (inr h) (inr k) = h.1 ∙ same ∙ sym k.1

-- two passes keep the same
pub one : (before entries xs ys : List Entry) → Keeps before entries xs → Keeps before entries ys → xs ≡ ys
one before [] xs ys h k = h ∙ sym k
one before (e ∷ entries) xs ys h k = one_step before e xs ys h.0 k.0 (one (e ∷ before) entries h.0 k.0 h.1 k.1) h.2 k.2
