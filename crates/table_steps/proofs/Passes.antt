-- A word passes entries, one after another.
use Rattle.std.proofs.Common.{◌≡◌, ◌⊎◌, ◌∷◌, ◌++◌, ℕ, List, [], Bool, true, false, ◌+◌, ◌<◌, ◌≤◌, ap, sym, subst, ◌∙◌, length, get_or, drop, inl, inr, cond}
use Rattle.std.specs.List.{list_any}
use Rattle.std.proofs.lemmas.List.{at_drop_more, at_drop_all}
use Rattle.field_boxes.specs.Headline.Fields.{IsHeader}
use Rattle.ternary_words.specs.declared.word.Word.{Word}
use Rattle.ternary_words.specs.declared.entry.Entry.{Entry}
use Rattle.ternary_words.specs.Entries.{matches, answer}
use Rattle.word_cover.specs.Covers.{Covers, AreDisjoint, HoldsBoth}
use Rattle.table_steps.specs.Free.{IsFree}
use Rattle.table_steps.specs.Passing.{ArePassed, IsNext, IsLast}
use Rattle.table_steps.proofs.Outcomes.{not_both, apart_from, by_case, only_one, unless}
use Rattle.table_steps.proofs.Among.{none_with}

-- what the entries from a place on answer
pub answer_here : (entries : List Entry) (e : Entry) (k : ℕ) (h : List ℕ) → k < length entries → e ≡ get_or entries k e →
    answer (drop k entries) h ≡ cond (matches h e.word) e.decision (answer (drop (k + 1) entries) h)
answer_here entries e k h less is =
    at_drop_more (λ es. answer es h) entries k e less ∙ ap (λ (x : Entry). cond (matches h x.word) x.decision (answer (drop (k + 1) entries) h)) (sym is)

-- one step, for one header
one_step : (whole left right d ed : ℕ) (m above new : Bool) → left ≡ cond m ed right →
    (above ≡ false → ((m ≡ true) × (ed ≡ d)) ⊎ ((new ≡ false) × (m ≡ false))) →
    (whole ≡ d) ⊎ ((above ≡ false) × (whole ≡ left)) → (whole ≡ d) ⊎ ((new ≡ false) × (whole ≡ right))
one_step whole left right d ed m above new e f (inl h) = inl h
one_step whole left right d ed m above new e f (inr h) = elim (f h.0) [
  | inl p ↦ inl (h.1 ∙ e ∙ ap (λ t. cond t ed right) p.0 ∙ p.1)
  | inr p ↦ inr (p.0, h.1 ∙ e ∙ ap (λ t. cond t ed right) p.1)
]

last_step : (whole left right d ed : ℕ) (m above : Bool) → left ≡ cond m ed right → (above ≡ false → (m ≡ true) × (ed ≡ d)) →
    (whole ≡ d) ⊎ ((above ≡ false) × (whole ≡ left)) → whole ≡ d
last_step whole left right d ed m above e f (inl h) = h
last_step whole left right d ed m above e f (inr h) = let p = f h.0 in h.1 ∙ e ∙ ap (λ t. cond t ed right) p.0 ∙ p.1

pub passed-next : (hidden above new : List Word) (entries : List Entry) (w : Word) (d k : ℕ) (e : Entry) → k < length entries → e ≡ get_or entries k e →
    IsNext above new e w d → ArePassed hidden above entries w d k → ArePassed hidden new entries w d (k + 1)
passed-next hidden above new entries w d k e less here next passed h is m none =
    one_step (answer entries h) (answer (drop k entries) h) (answer (drop (k + 1) entries) h) d e.decision (matches h e.word) (list_any (matches h) above) (list_any (matches h) new)
    (answer_here entries e k h less here) (next h is m) (passed h is m none)

pub passed-last : (hidden above : List Word) (entries : List Entry) (w : Word) (d k : ℕ) (e : Entry) → k < length entries → e ≡ get_or entries k e →
    IsLast above e w d → ArePassed hidden above entries w d k → IsFree hidden entries w d
passed-last hidden above entries w d k e less here last passed h is m none =
    last_step (answer entries h) (answer (drop k entries) h) (answer (drop (k + 1) entries) h) d e.decision (matches h e.word) (list_any (matches h) above)
    (answer_here entries e k h less here) (last h is m) (passed h is m none)

-- all entries are passed
pub passed-all : (hidden above : List Word) (entries : List Entry) (w : Word) (d k : ℕ) → length entries ≤ k → d ≡ 0 → ArePassed hidden above entries w d k → IsFree hidden entries w d
passed-all hidden above entries w d k end none_decided passed h is m none = elim (passed h is m none) [
  | inl e ↦ e
  | inr p ↦ p.1 ∙ at_drop_all (λ es. answer es h) entries k end ∙ sym none_decided
]

pub passed-covered : (hidden above : List Word) (entries : List Entry) (w : Word) (d k : ℕ) → Covers above w → ArePassed hidden above entries w d k → IsFree hidden entries w d
passed-covered hidden above entries w d k covers passed h is m none = elim (passed h is m none) [
  | inl e ↦ e
  | inr p ↦ absurd (not_both (list_any (matches h) above) (covers h is m) p.0)
]

-- an entry that doesn't meet the word
pub next-apart : (above : List Word) (e : Entry) (w : Word) (d : ℕ) → AreDisjoint e.word w → IsNext above above e w d
next-apart above e w d apart h is m none = inr (none, apart_from (matches h e.word) (matches h w) (apart h is) m)

-- an entry of the same decision
pub next-same : (above new : List Word) (e : Entry) (w : Word) (d : ℕ) → e.decision ≡ d → new ≡ above ++ e.word ∷ [] → IsNext above new e w d
next-same above new e w d same more h is m none = elim (by_case (matches h e.word)) [
  | inl t ↦ inl (t, same)
  | inr f ↦ inr (ap (list_any (matches h)) more ∙ none_with h above e.word none f, f)
]

-- an entry whose part of the word is covered
hidden_there : (above : List Word) (e : Entry) (w both : Word) → HoldsBoth w e.word both → Covers above both →
    (h : List ℕ) → IsHeader h → matches h w ≡ true → list_any (matches h) above ≡ false → matches h e.word ≡ false
hidden_there above e w both holds covers h is m none =
    unless (matches h e.word) (λ t. not_both (list_any (matches h) above) (covers h is (holds h is m t)) none)

pub next-hidden : (above new : List Word) (e : Entry) (w both : Word) (d : ℕ) → new ≡ above → HoldsBoth w e.word both → Covers above both → IsNext above new e w d
next-hidden above new e w both d same holds covers =
    subst (λ (xs : List Word). IsNext above xs e w d) (sym same) (λ h is m none. inr (none, hidden_there above e w both holds covers h is m none))

-- an entry that holds the word
pub last-same : (above : List Word) (e : Entry) (w : Word) (d : ℕ) → e.decision ≡ d → Covers (e.word ∷ []) w → IsLast above e w d
last-same above e w d same holds h is m none = (only_one (matches h e.word) (holds h is m), same)

pub last-hidden : (above : List Word) (e : Entry) (w both : Word) (d : ℕ) → HoldsBoth w e.word both → Covers above both → Covers (e.word ∷ []) w → IsLast above e w d
last-hidden above e w both d holds covers inside h is m none =
    absurd (not_both (matches h e.word) (only_one (matches h e.word) (inside h is m)) (hidden_there above e w both holds covers h is m none))

-- a walk that looks for the first that matches
pub answer-found : (entries : List Entry) (e : Entry) (k : ℕ) (h : List ℕ) → k < length entries → e ≡ get_or entries k e → matches h e.word ≡ true →
    answer entries h ≡ answer (drop k entries) h → e.decision ≡ answer entries h
answer-found entries e k h less is m so = sym (so ∙ answer_here entries e k h less is ∙ ap (λ t. cond t e.decision (answer (drop (k + 1) entries) h)) m)

pub answer-next : (entries : List Entry) (e : Entry) (k : ℕ) (h : List ℕ) → k < length entries → e ≡ get_or entries k e → matches h e.word ≡ false →
    answer entries h ≡ answer (drop k entries) h → answer entries h ≡ answer (drop (k + 1) entries) h
answer-next entries e k h less is m so = so ∙ answer_here entries e k h less is ∙ ap (λ t. cond t e.decision (answer (drop (k + 1) entries) h)) m
