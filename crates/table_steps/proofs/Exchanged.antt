-- Tables whose first entries are exchanged for others.
use Rattle.std.proofs.Common.{◌≡◌, ◌⊎◌, ◌∷◌, ◌++◌, ℕ, List, [], Bool, true, false, ◌+◌, ◌<◌, ◌-◌, ◌||◌, ap, refl, sym, ◌∙◌, length, get_or, take, drop, suc, zero, inl, inr, cond, subst}
use Rattle.std.specs.List.{list_any}
use Rattle.std.proofs.lemmas.List.{take_more, take_rest}
use Rattle.std.proofs.lemmas.List.Folds.{list_any-append}
use Rattle.field_boxes.specs.Headline.Fields.{IsHeader}
use Rattle.field_boxes.specs.Alike.{AreAlike}
use Rattle.ternary_words.specs.declared.word.Word.{Word}
use Rattle.ternary_words.specs.declared.entry.Entry.{Entry}
use Rattle.ternary_words.specs.Entries.{matches, entry_matches, answer}
use Rattle.word_cover.specs.Covers.{AreAmong, Covers}
use Rattle.table_steps.specs.Free.{IsFree, words_of}
use Rattle.table_steps.specs.Exchange.{AnswerAs, LeaveRest}
use Rattle.table_steps.proofs.Outcomes.{neither, by_case, not_both}
use Rattle.table_steps.proofs.Among.{none_among, none_in_both, none_with, words_more}
use Rattle.table_steps.proofs.Kept.{kept_here}

any_words : (h : List ℕ) (entries : List Entry) → list_any (entry_matches h) entries ≡ list_any (matches h) (words_of entries)
any_words h [] = refl
any_words h (x ∷ entries) = ap (λ t. matches h x.word || t) (any_words h entries)

-- two lists of entries, one behind the other
front_answers : (m s : Bool) (d x y : ℕ) → (s ≡ true → x ≡ y) → m || s ≡ true → cond m d x ≡ cond m d y
front_answers true s d x y f h = refl
front_answers false s d x y f h = f h

answer_front : (xs ys : List Entry) (h : List ℕ) → list_any (matches h) (words_of xs) ≡ true → answer (xs ++ ys) h ≡ answer xs h
answer_front [] ys h any = absurd (cc any)
answer_front (x ∷ xs) ys h any =
    front_answers (matches h x.word) (list_any (matches h) (words_of xs)) x.decision (answer (xs ++ ys) h) (answer xs h) (answer_front xs ys h) any

answer_past : (xs ys : List Entry) (h : List ℕ) → list_any (matches h) (words_of xs) ≡ false → answer (xs ++ ys) h ≡ answer ys h
answer_past [] ys h none = refl
answer_past (x ∷ xs) ys h none =
    let n = neither (matches h x.word) (list_any (matches h) (words_of xs)) none in
    ap (λ t. cond t x.decision (answer (xs ++ ys) h)) n.0 ∙ answer_past xs ys h n.1

answer_from : (table : List Entry) (k : ℕ) (h : List ℕ) → list_any (matches h) (words_of (take k table)) ≡ false → answer table h ≡ answer (drop k table) h
answer_from table zero h none = refl
answer_from [] (suc k) h none = refl
answer_from (x ∷ table) (suc k) h none =
    let n = neither (matches h x.word) (list_any (matches h) (words_of (take k table))) none in
    ap (λ t. cond t x.decision (answer table h)) n.0 ∙ answer_from table k h n.1

-- the new entries, one more
one_more : (whole : ℕ) (entries : List Entry) (e : Entry) (h : List ℕ) (any : Bool) → list_any (matches h) (words_of entries) ≡ any →
    (any ≡ true → answer entries h ≡ whole) → (matches h e.word ≡ true → any ≡ false → whole ≡ e.decision) →
    list_any (matches h) (words_of entries ++ e.word ∷ []) ≡ true → answer (entries ++ e ∷ []) h ≡ whole
one_more whole entries e h true is front last any = answer_front entries (e ∷ []) h is ∙ front refl
one_more whole entries e h false is front last any = answer_past entries (e ∷ []) h is ∙ elim (by_case (matches h e.word)) [
  | inl t ↦ ap (λ s. cond s e.decision 0) t ∙ sym (last t refl)
  | inr f ↦ absurd (not_both (list_any (matches h) (words_of entries ++ e.word ∷ [])) any (none_with h (words_of entries) e.word is f))
]

pub answer_as-next : (new table : List Entry) (e : Entry) (k : ℕ) → k < length new → e ≡ get_or new k e → IsFree (words_of (take k new)) table e.word e.decision →
    AnswerAs (take k new) table → AnswerAs (take (k + 1) new) table
answer_as-next new table e k less is free so h header any =
    let more = take_more new k e less ∙ ap (λ x. take k new ++ x ∷ []) (sym is) in
    ap (λ es. answer es h) more
    ∙ one_more (answer table h) (take k new) e h (list_any (matches h) (words_of (take k new))) refl (so h header) (free h header)
    (ap (list_any (matches h)) (sym (words_more new e k less is)) ∙ any)

-- the old entries, as far as they were looked at
abbrev pub ArePassedOver : List Word → List Entry → ℕ → ℕ → Type 0
ArePassedOver words table count k =
    (h : List ℕ) → IsHeader h → list_any (matches h) words ≡ false →
    (answer table h ≡ answer (drop count table) h) ⊎ (list_any (matches h) (words_of (take k table)) ≡ false)

passed_over : (words : List Word) (table : List Entry) (e : Entry) (h : List ℕ) (count k : ℕ) → IsHeader h → k < length table → e ≡ get_or table k e → IsFree (words ++ words_of (take k table)) (drop count table) e.word e.decision →
    list_any (matches h) words ≡ false → list_any (matches h) (words_of (take k table)) ≡ false → (m : Bool) → matches h e.word ≡ m →
    (answer table h ≡ answer (drop count table) h) ⊎ (list_any (matches h) (words_of (take (k + 1) table)) ≡ false)
passed_over words table e h count k header less is free none before true m =
    inl (kept_here table k e h less is (any_words h (take k table) ∙ before) m ∙ sym (free h header m (none_in_both h words (words_of (take k table)) none before)))
passed_over words table e h count k header less is free none before false m =
    inr (ap (list_any (matches h)) (words_more table e k less is) ∙ none_with h (words_of (take k table)) e.word before m)

pub passed_over-next : (words : List Word) (table : List Entry) (e : Entry) (count k : ℕ) → k < length table → e ≡ get_or table k e →
    IsFree (words ++ words_of (take k table)) (take (length table - count) (drop count table)) e.word e.decision →
    ArePassedOver words table count k → ArePassedOver words table count (k + 1)
passed_over-next words table e count k less is free so h header none = elim (so h header none) [
  | inl same ↦ inl same
  | inr before ↦ passed_over words table e h count k header less is
      (subst (λ (es : List Entry). IsFree (words ++ words_of (take k table)) es e.word e.decision) (take_rest table count) free) none before (matches h e.word) refl
]

pub passed_over-all : (words : List Word) (table : List Entry) (count k : ℕ) → k ≡ count → ArePassedOver words table count k → LeaveRest words table count
passed_over-all words table count k end so h header none = elim (so h header none) [
  | inl same ↦ same
  | inr before ↦ answer_from table count h (ap (λ n. list_any (matches h) (words_of (take n table))) (sym end) ∙ before)
]

-- an entry that the new ones cover, and one that some of them leave free
pub free-covered : (words hidden before : List Word) (rest : List Entry) (w : Word) (d : ℕ) → AreAmong words hidden → Covers words w → IsFree (hidden ++ before) rest w d
free-covered words hidden before rest w d among covers h header m none =
    let n = neither (list_any (matches h) hidden) (list_any (matches h) before) (sym (list_any-append (matches h) hidden before) ∙ none) in
    absurd (not_both (list_any (matches h) hidden) (among h (covers h header m)) n.0)

pub free-among : (words hidden before : List Word) (rest : List Entry) (w : Word) (d : ℕ) → AreAmong words hidden → IsFree (words ++ before) rest w d → IsFree (hidden ++ before) rest w d
free-among words hidden before rest w d among free h header m none =
    let n = neither (list_any (matches h) hidden) (list_any (matches h) before) (sym (list_any-append (matches h) hidden before) ∙ none) in
    free h header m (none_in_both h words before (none_among h words hidden among n.0) n.1)

pub exchanged : (table new : List Entry) (count : ℕ) → AnswerAs new table → LeaveRest (words_of new) table count → AreAlike (answer (new ++ drop count table)) (answer table)
exchanged table new count front rest h header = elim (by_case (list_any (matches h) (words_of new))) [
  | inl any ↦ answer_front new (drop count table) h any ∙ front h header any
  | inr none ↦ answer_past new (drop count table) h none ∙ sym (rest h header none)
]
