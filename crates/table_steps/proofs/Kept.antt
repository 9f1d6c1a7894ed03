-- Tables that need an entry.
use Rattle.std.proofs.Common.{◌≡◌, ◌∷◌, ℕ, List, [], true, false, ◌+◌, ◌<◌, ◌-◌, ◌≢◌, ap, refl, sym, ◌∙◌, arith, length, get_or, take, drop, suc, zero, inl, inr, cond, subst}
use Rattle.std.specs.List.{list_any, remove}
use Rattle.std.proofs.lemmas.List.{take_rest}
use Rattle.std.proofs.lemmas.Bool.{cases_lt}
use Rattle.field_boxes.specs.Headline.Fields.{IsHeader}
use Rattle.ternary_words.specs.declared.entry.Entry.{Entry}
use Rattle.ternary_words.specs.Entries.{entry_matches, answer}
use Rattle.table_steps.specs.Needs.{IsWanted}
use Rattle.table_steps.proofs.Outcomes.{neither}

-- a header that no entry before the place matches
removed_behind : (table : List Entry) (k : ℕ) (h : List ℕ) → k < length table → list_any (entry_matches h) (take k table) ≡ false → answer (remove table k) h ≡ answer (drop (suc k) table) h
removed_behind [] k h less none = absurd (omega (arith, less))
removed_behind (x ∷ table) zero h less none = refl
removed_behind (x ∷ table) (suc k) h less none =
    let n = neither (entry_matches h x) (list_any (entry_matches h) (take k table)) none in
    ap (λ t. cond t x.decision (answer (remove table k) h)) n.0 ∙ removed_behind table k h (omega (arith, less)) n.1

pub kept_here : (table : List Entry) (k : ℕ) (e : Entry) (h : List ℕ) → k < length table → e ≡ get_or table k e → list_any (entry_matches h) (take k table) ≡ false → entry_matches h e ≡ true →
    answer table h ≡ e.decision
kept_here [] k e h less is none m = absurd (omega (arith, less))
kept_here (x ∷ table) zero e h less is none m =
    ap (λ (y : Entry). cond (entry_matches h y) y.decision (answer table h)) (sym is) ∙ ap (λ t. cond t e.decision (answer table h)) m
kept_here (x ∷ table) (suc k) e h less is none m =
    let n = neither (entry_matches h x) (list_any (entry_matches h) (take k table)) none in
    ap (λ t. cond t x.decision (answer table h)) n.0 ∙ kept_here table k e h (omega (arith, less)) is n.1 m

pub wanted-apart : (table : List Entry) (k : ℕ) (e : Entry) (h : List ℕ) → k < length table → e ≡ get_or table k e →
    IsWanted (take k table) e (take (length table - (k + 1)) (drop (k + 1) table)) h → IsHeader h × (answer (remove table k) h ≢ answer table h)
wanted-apart table k e h less is wanted =
    let n : k + 1 ≡ suc k = omega arith in
    let rest = ap (λ (es : List Entry). answer es h) (take_rest table (k + 1)) in
    (wanted.is, λ same. wanted.unlike (rest ∙ ap (λ i. answer (drop i table) h) n ∙ sym (removed_behind table k h less wanted.first) ∙ same ∙ kept_here table k e h less is wanted.first wanted.met))

pub each-next : (P : ℕ → Type 0) (n : ℕ) → ((k : ℕ) → k < n → P k) → P n → (k : ℕ) → k < n + 1 → P k
each-next P n below here k h = elim (cases_lt k n) [
  | inl less ↦ below k less
  | inr more ↦ let e : n ≡ k = omega (arith, h, more) in subst P e here
]
