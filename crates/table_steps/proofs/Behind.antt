-- Entries that answer what a word matches and hidden words don't.
use Rattle.std.proofs.Common.{◌≡◌, ◌∷◌, ◌++◌, ℕ, List, [], Bool, true, false, ◌+◌, ◌<◌, ◌≤◌, ◌||◌, ap, refl, sym, ◌∙◌, arith, length, get_or, drop, not, suc, zero, cond, append-nil, append_assoc}
use Rattle.std.specs.List.{list_any}
use Rattle.std.proofs.lemmas.List.{drop_all}
use Rattle.ternary_words.specs.declared.word.Word.{Word}
use Rattle.ternary_words.specs.declared.entry.Entry.{Entry}
use Rattle.ternary_words.specs.Entries.{matches, answer}
use Rattle.word_cover.specs.Covers.{Covers, AreDisjoint}
use Rattle.table_steps.specs.Free.{IsFree, words_of}
use Rattle.table_steps.specs.Answering.{AnswerBehind, IsApart}
use Rattle.table_steps.proofs.Outcomes.{apart_from, not_both, only_one, unless}
use Rattle.table_steps.proofs.Passes.{answer_here}
use Rattle.table_steps.proofs.Ends.{answer_behind}

-- an entry that holds a word
any_more : (s t : Bool) → t ≡ true → s || t ≡ true
any_more true t e = refl
any_more false t e = e

any_at : (entries : List Entry) (k : ℕ) (e : Entry) (h : List ℕ) → k < length entries → matches h (get_or entries k e).word ≡ true → list_any (matches h) (words_of entries) ≡ true
any_at [] k e h less m = absurd (omega (arith, less))
any_at (x ∷ entries) zero e h less m = ap (λ t. t || list_any (matches h) (words_of entries)) m
any_at (x ∷ entries) (suc k) e h less m = any_more (matches h x.word) (list_any (matches h) (words_of entries)) (any_at entries k e h (omega (arith, less)) m)

pub covers-at : (entries : List Entry) (k : ℕ) (e : Entry) (w : Word) → k < length entries → Covers ((get_or entries k e).word ∷ []) w → Covers (words_of entries) w
covers-at entries k e w less holds h header m = any_at entries k e h less (only_one (matches h (get_or entries k e).word) (holds h header m))

pub apart-met : (hidden : List Word) (e w : Word) → AreDisjoint e w → IsApart hidden e w
apart-met hidden e w apart h header m none = apart_from (matches h e) (matches h w) (apart h header) m

pub if_held : (s : Bool) → not s ≡ false → s ≡ true
if_held true h = refl
if_held false h = absurd (cc h)

pub apart-held : (hidden : List Word) (e w : Word) → Covers hidden e → IsApart hidden e w
apart-held hidden e w covers h header m none = unless (matches h e) (λ t. not_both (list_any (matches h) hidden) (covers h header t) none)

-- an entry that is passed over, one that is taken, and the last one
pub behind-past : (hidden : List Word) (some rest : List Entry) (w : Word) (e : Entry) (k : ℕ) → k < length rest → e ≡ get_or rest k e → IsApart hidden e.word w →
    AnswerBehind hidden (some ++ drop k rest) rest w → AnswerBehind hidden (some ++ drop (k + 1) rest) rest w
behind-past hidden some rest w e k less is apart so h header m none =
    answer_behind some (drop (k + 1) rest) (drop k rest) h
    (sym (answer_here rest e k h less is ∙ ap (λ t. cond t e.decision (answer (drop (k + 1) rest) h)) (apart h header m none)))
    ∙ so h header m none

pub behind-more : (hidden : List Word) (some new rest : List Entry) (w : Word) (e : Entry) (k : ℕ) → k < length rest → e ≡ get_or rest k e → new ≡ some ++ e ∷ [] →
    AnswerBehind hidden (some ++ drop k rest) rest w → AnswerBehind hidden (new ++ drop (k + 1) rest) rest w
behind-more hidden some new rest w e k less is more so h header m none =
    ap (λ es. answer es h) (ap (λ (es : List Entry). es ++ drop (k + 1) rest) more ∙ append_assoc some (e ∷ []) (drop (k + 1) rest))
    ∙ answer_behind some (e ∷ drop (k + 1) rest) (drop k rest) h (sym (answer_here rest e k h less is)) ∙ so h header m none

pub behind-last : (hidden : List Word) (some new rest : List Entry) (w : Word) (e : Entry) (k : ℕ) → k < length rest → e ≡ get_or rest k e → new ≡ some ++ e ∷ [] → Covers (e.word ∷ []) w →
    AnswerBehind hidden (some ++ drop k rest) rest w → AnswerBehind hidden new rest w
behind-last hidden some new rest w e k less is more holds so h header m none =
    let met = only_one (matches h e.word) (holds h header m) in
    ap (λ es. answer es h) more
    ∙ answer_behind some (e ∷ []) (drop k rest) h
    (ap (λ t. cond t e.decision 0) met ∙ sym (ap (λ t. cond t e.decision (answer (drop (k + 1) rest) h)) met) ∙ sym (answer_here rest e k h less is))
    ∙ so h header m none

pub behind-all : (hidden : List Word) (some rest : List Entry) (w : Word) (k : ℕ) → length rest ≤ k → AnswerBehind hidden (some ++ drop k rest) rest w → AnswerBehind hidden some rest w
behind-all hidden some rest w k end so h header m none =
    ap (λ es. answer es h) (sym (append-nil some) ∙ ap (λ (es : List Entry). some ++ es) (sym (drop_all k rest end))) ∙ so h header m none

pub free-answering : (hidden : List Word) (some rest : List Entry) (w : Word) (d : ℕ) → AnswerBehind hidden some rest w → IsFree hidden some w d → IsFree hidden rest w d
free-answering hidden some rest w d same free h header m none = sym (same h header m none) ∙ free h header m none

-- entries found in a part of the rest
pub behind-part : (hidden : List Word) (some part rest : List Entry) (common w : Word) → Covers (common ∷ []) w → AnswerBehind [] part rest common → AnswerBehind hidden some part w → AnswerBehind hidden some rest w
behind-part hidden some part rest common w holds of_rest of_part h header m none =
    of_part h header m none ∙ of_rest h header (only_one (matches h common) (holds h header m)) refl
