-- What holds of each entry of a list, one after another.
use Rattle.std.proofs.Common.{◌≡◌, ◌+◌, ◌<◌, ℕ, List, length, ap, arith, subst, sym, ◌∙◌, get_or, inl, inr}
use Rattle.std.proofs.lemmas.Bool.{cases_lt}
use Rattle.std.proofs.lemmas.List.{get_or_default}
use Rattle.ternary_words.specs.declared.entry.Entry.{Entry}

-- what holds up to an entry and of it
pub up_to_next : (P : Entry → Type 0) (entries : List Entry) (i : ℕ) (e : Entry) → i < length entries → e ≡ get_or entries i e → ((k : ℕ) (d : Entry) → k < i → P (get_or entries k d)) → P e →
    (k : ℕ) (d : Entry) → k < i + 1 → P (get_or entries k d)
up_to_next P entries i e less is before here k d l = elim (cases_lt k i) [
  | inl earlier ↦ before k d earlier
  | inr past ↦
      let same : k ≡ i = omega (arith, l, past) in
      subst (λ n. P (get_or entries n d)) (sym same) (subst P (is ∙ get_or_default entries i e d less) here)
]
