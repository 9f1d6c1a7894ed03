-- The first entries that a word passes with nothing above.
use Rattle.std.proofs.Common.{◌≡◌, ◌∷◌, ◌++◌, ℕ, List, [], ◌+◌, ◌<◌, ap, refl, ◌∙◌, length, get_or, take, drop, inl, inr}
use Rattle.std.specs.List.{list_any}
use Rattle.ternary_words.specs.declared.word.Word.{Word}
use Rattle.ternary_words.specs.declared.entry.Entry.{Entry}
use Rattle.ternary_words.specs.Entries.{matches}
use Rattle.word_cover.specs.Covers.{Covers, AreDisjoint, AreAmong}
use Rattle.table_steps.specs.Free.{words_of, IsFree}
use Rattle.table_steps.specs.Passing.{ArePassed}
use Rattle.table_steps.proofs.Outcomes.{apart_from}
use Rattle.table_steps.proofs.Among.{none_among, none_in_both, none_with, words_more}
use Rattle.table_steps.proofs.Passes.{passed-next, passed-last, next-same, last-same}

pub opening-apart : (entries : List Entry) (w : Word) (d k : ℕ) (e : Entry) → k < length entries → e ≡ get_or entries k e → AreDisjoint e.word w →
    ArePassed [] (words_of (take k entries)) entries w d k → ArePassed [] (words_of (take (k + 1) entries)) entries w d (k + 1)
opening-apart entries w d k e less here apart =
    passed-next [] (words_of (take k entries)) (words_of (take (k + 1) entries)) entries w d k e less here
    (λ h is m none. let f = apart_from (matches h e.word) (matches h w) (apart h is) m in
    inr (ap (list_any (matches h)) (words_more entries e k less here) ∙ none_with h (words_of (take k entries)) e.word none f, f))

pub opening-same : (entries : List Entry) (w : Word) (d k : ℕ) (e : Entry) → k < length entries → e ≡ get_or entries k e → e.decision ≡ d →
    ArePassed [] (words_of (take k entries)) entries w d k → ArePassed [] (words_of (take (k + 1) entries)) entries w d (k + 1)
opening-same entries w d k e less here same =
    passed-next [] (words_of (take k entries)) (words_of (take (k + 1) entries)) entries w d k e less here
    (next-same (words_of (take k entries)) (words_of (take (k + 1) entries)) e w d same (words_more entries e k less here))

pub opening-inside : (entries : List Entry) (w : Word) (d k : ℕ) (e : Entry) → k < length entries → e ≡ get_or entries k e → e.decision ≡ d → Covers (e.word ∷ []) w →
    ArePassed [] (words_of (take k entries)) entries w d k → IsFree [] entries w d
opening-inside entries w d k e less here same holds =
    passed-last [] (words_of (take k entries)) entries w d k e less here (last-same (words_of (take k entries)) e w d same holds)

-- from the opening on
pub free-behind : (hidden above : List Word) (entries : List Entry) (w : Word) (d k : ℕ) → ArePassed [] (words_of (take k entries)) entries w d k →
    AreAmong above (hidden ++ words_of (take k entries)) → IsFree above (drop k entries) w d → IsFree hidden entries w d
free-behind hidden above entries w d k passed among free h is m none = elim (passed h is m refl) [
  | inl e ↦ e
  | inr p ↦ p.1 ∙ free h is m (none_among h above (hidden ++ words_of (take k entries)) among (none_in_both h hidden (words_of (take k entries)) none p.0))
]
