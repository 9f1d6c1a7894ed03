-- The words of a run, put at their places from the last one on.
use Rattle.std.proofs.Common.{◌≡◌, ℕ, ◌<◌, ◌≤◌, List, length, map, set, get_or, ap, sym, subst, ◌∙◌, arith, Some, None, inl, inr, suc}
use Rattle.std.proofs.lemmas.Bool.{cases_eq}
use Rattle.std.proofs.lemmas.List.{length-set, length-map, get_or-set_same, get_or-set_other, get_or-map, ext_get_or}
use Rattle.ternary_words.specs.declared.entry.Entry.{Entry}
use Rattle.bit_merge.specs.Slots.{Slots, at}

abbrev pub words_of : List Entry → Slots
words_of run = map (λ (e : Entry). Some e.word) run

-- the words from this place on stand there, and the earlier places are empty
pub record AreFilled (run : List Entry) (slots : Slots) (place : ℕ) : Type 0 where
  pub count : length slots ≡ length run
  pub within : place ≤ length run
  pub empty : (k : ℕ) → k < place → at slots k ≡ None
  pub full : (k : ℕ) → place ≤ k → at slots k ≡ at (words_of run) k

pub filled-next : (run : List Entry) (slots now : Slots) (n p : ℕ) (e : Entry) → AreFilled run slots n → suc p ≡ n → e ≡ get_or run p e → now ≡ set slots p (Some e.word) → AreFilled run now p
filled-next run slots now n p e h next is made =
    let inside : p < length run = omega (arith, h.within, next) in
    let within : p < length slots = omega (arith, inside, h.count) in
    let here = get_or-map (λ (x : Entry). Some x.word) run p e None inside ∙ ap (λ (x : Entry). Some x.word) (sym is) in
    subst (λ l. AreFilled run l p) (sym made) record {
      count = length-set slots p (Some e.word) ∙ h.count;
      within = omega (arith, inside);
      empty = λ k less. get_or-set_other slots p k (Some e.word) None (λ same. omega (arith, same, less)) ∙ h.empty k (omega (arith, next, less));
      full = λ k le. elim (cases_eq k p) [
        | inl same ↦ ap (at (set slots p (Some e.word))) same ∙ get_or-set_same slots p (Some e.word) None within ∙ sym here ∙ ap (at (words_of run)) (sym same)
        | inr other ↦ get_or-set_other slots p k (Some e.word) None other ∙ h.full k (omega (arith, next, le, other))
      ];
    }

-- where no place is left, the words are those of the run
pub filled-end : (run : List Entry) (slots : Slots) (n : ℕ) → n ≤ 0 → AreFilled run slots n → slots ≡ words_of run
filled-end run slots n none h =
    ext_get_or None slots (words_of run) (h.count ∙ sym (length-map run (λ (x : Entry). Some x.word))) (λ k less. h.full k (omega (arith, none)))
