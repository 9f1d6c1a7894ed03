-- The words of a line that goes on, byte by byte, and what is kept of the last one.
use Rattle.std.proofs.Common.{◌≡◌, ◌∷◌, ◌++◌, ℕ, ◌<◌, ◌≤◌, List, [], Bool, true, false, length, take, nat_eq, ap, refl, sym, subst, ◌∙◌, arith, append-nil}
use Rattle.std.specs.List.{onto_first}
use Rattle.std.proofs.lemmas.List.{length-append, length-take, take-append-le, take_all}
use Rattle.partition_check.specs.CertificateText.{Lines, lines_of, put_byte}
use Rattle.partition_check.proofs.JoinedLines.{behind, join, lines-append, lines-joined, rest-no_feed}
use Rattle.agreement_check.specs.Texts.{words_of}

-- A line has a word, if an empty one.

abbrev HasWords : List (List ℕ) → Type 0
HasWords all = (word : List ℕ) × (words : List (List ℕ)) × (all ≡ word ∷ words)

some_words : (b : ℕ) (line : List ℕ) (t : Bool) → nat_eq b 32 ≡ t → HasWords (words_of line) → HasWords (words_of (b ∷ line))
some_words b line true e h = ([], words_of line, rw e refl)
some_words b line false e h = (b ∷ h.0, h.1, rw e (ap (onto_first b) h.2))

has_words : (line : List ℕ) → HasWords (words_of line)
has_words [] = ([], [], refl)
has_words (b ∷ line) = some_words b line (nat_eq b 32) refl (has_words line)

no_bytes : (b : ℕ) (line : List ℕ) (t : Bool) → nat_eq b 32 ≡ t → HasWords (words_of line) → words_of (b ∷ line) ≡ [] ∷ [] → ⊥
no_bytes b line true e h same = let again = rw e at same in let is = h.2 in absurd (cc)
no_bytes b line false e h same =
    let again = rw e at same in
    let is : onto_first b (words_of line) ≡ (b ∷ h.0) ∷ h.1 = ap (onto_first b) h.2 in
    absurd (cc)

pub no-bytes : (line : List ℕ) → words_of line ≡ [] ∷ [] → line ≡ []
no-bytes [] same = refl
no-bytes (b ∷ line) same = absurd (no_bytes b line (nat_eq b 32) refl (has_words line) same)

-- One byte more in the last word.

abbrev onto_last : ℕ → List (List ℕ) → List (List ℕ)
onto_last b [] = []
onto_last b (word ∷ []) = (word ++ b ∷ []) ∷ []
onto_last b (word ∷ next ∷ words) = word ∷ onto_last b (next ∷ words)

last_longer : (b : ℕ) (words : List (List ℕ)) (word : List ℕ) → onto_last b (words ++ word ∷ []) ≡ words ++ (word ++ b ∷ []) ∷ []
last_longer b [] word = refl
last_longer b (w ∷ []) word = refl
last_longer b (w ∷ v ∷ words) word = ap (λ ws. w ∷ ws) (last_longer b (v ∷ words) word)

behind_space : (b : ℕ) (all : List (List ℕ)) → HasWords all → [] ∷ onto_last b all ≡ onto_last b ([] ∷ all)
behind_space b all h = subst (λ (ws : List (List ℕ)). [] ∷ onto_last b ws ≡ onto_last b ([] ∷ ws)) (sym h.2) refl

first_or_last : (b c : ℕ) (word : List ℕ) (words : List (List ℕ)) → onto_first c (onto_last b (word ∷ words)) ≡ onto_last b (onto_first c (word ∷ words))
first_or_last b c word [] = refl
first_or_last b c word (next ∷ words) = refl

behind_byte : (b c : ℕ) (all : List (List ℕ)) → HasWords all → onto_first c (onto_last b all) ≡ onto_last b (onto_first c all)
behind_byte b c all h = subst (λ (ws : List (List ℕ)). onto_first c (onto_last b ws) ≡ onto_last b (onto_first c ws)) (sym h.2) (first_or_last b c h.0 h.1)

byte_step : (b c : ℕ) (line : List ℕ) (t : Bool) → nat_eq c 32 ≡ t → words_of (line ++ b ∷ []) ≡ onto_last b (words_of line) → words_of (c ∷ (line ++ b ∷ [])) ≡ onto_last b (words_of (c ∷ line))
byte_step b c line true e h = rw e (ap (λ (ws : List (List ℕ)). [] ∷ ws) h ∙ behind_space b (words_of line) (has_words line))
byte_step b c line false e h = rw e (ap (onto_first c) h ∙ behind_byte b c (words_of line) (has_words line))

with_byte : (b : ℕ) (line : List ℕ) → nat_eq b 32 ≡ false → words_of (line ++ b ∷ []) ≡ onto_last b (words_of line)
with_byte b [] e = rw e refl
with_byte b (c ∷ line) e = byte_step b c line (nat_eq c 32) refl (with_byte b line e)

pub words-byte : (b : ℕ) (line : List ℕ) (words : List (List ℕ)) (word : List ℕ) → nat_eq b 32 ≡ false → words_of line ≡ words ++ word ∷ [] → words_of (line ++ b ∷ []) ≡ words ++ (word ++ b ∷ []) ∷ []
words-byte b line words word e is = with_byte b line e ∙ ap (onto_last b) is ∙ last_longer b words word

-- A space behind it.

space_behind : (c : ℕ) (all : List (List ℕ)) → HasWords all → onto_first c (all ++ [] ∷ []) ≡ onto_first c all ++ [] ∷ []
space_behind c all h = subst (λ (ws : List (List ℕ)). onto_first c (ws ++ [] ∷ []) ≡ onto_first c ws ++ [] ∷ []) (sym h.2) refl

space_step : (c : ℕ) (line : List ℕ) (t : Bool) → nat_eq c 32 ≡ t → words_of (line ++ 32 ∷ []) ≡ words_of line ++ [] ∷ [] → words_of (c ∷ (line ++ 32 ∷ [])) ≡ words_of (c ∷ line) ++ [] ∷ []
space_step c line true e h = rw e (ap (λ (ws : List (List ℕ)). [] ∷ ws) h)
space_step c line false e h = rw e (ap (onto_first c) h ∙ space_behind c (words_of line) (has_words line))

pub words-space : (line : List ℕ) → words_of (line ++ 32 ∷ []) ≡ words_of line ++ [] ∷ []
words-space [] = refl
words-space (c ∷ line) = space_step c line (nat_eq c 32) refl (words-space line)

-- Of which words and last word it is made.

pub one-word : (words : List (List ℕ)) (word : List ℕ) → words ++ word ∷ [] ≡ [] ∷ [] → (words ≡ []) × (word ≡ [])
one-word [] word e = (refl, cc)
one-word (w ∷ []) word e = absurd (cc)
one-word (w ∷ v ∷ words) word e = absurd (cc)

pub never-none : (words : List (List ℕ)) (word : List ℕ) → words ++ word ∷ [] ≡ [] → ⊥
never-none [] word e = absurd (cc)
never-none (w ∷ words) word e = absurd (cc)

-- What is kept of a word.

pub kept-more : (word kept : List ℕ) (b : ℕ) → kept ≡ take 13 word → length kept < 13 → kept ++ b ∷ [] ≡ take 13 (word ++ b ∷ [])
kept-more word kept b e less =
    let few : length word < 13 = omega (arith, length-take 13 word, ap length e, less) in
    ap (λ (t : List ℕ). t ++ b ∷ []) (e ∙ take_all 13 word (omega (arith, few))) ∙ sym (take_all 13 (word ++ b ∷ []) (omega (arith, few, length-append word (b ∷ []))))

pub kept-full : (word kept : List ℕ) (b : ℕ) → kept ≡ take 13 word → 13 ≤ length kept → kept ≡ take 13 (word ++ b ∷ [])
kept-full word kept b e more =
    e ∙ sym (take-append-le 13 word (b ∷ []) (omega (arith, length-take 13 word, ap length e, more)))

pub kept-none : (word : List ℕ) → [] ≡ take 13 word → word ≡ []
kept-none [] e = refl
kept-none (b ∷ word) e = let long = length-take 13 (b ∷ word) in absurd (omega (arith, long, ap length e))

-- The lines of a text with one byte more.

one_byte : (b : ℕ) → nat_eq b 10 ≡ false → lines_of (b ∷ []) ≡ record { whole = []; rest = b ∷ [] }
one_byte b e = rw e refl

pub lines-byte : (text : List ℕ) (b : ℕ) → nat_eq b 10 ≡ false → lines_of (text ++ b ∷ []) ≡ record { whole = (lines_of text).whole; rest = (lines_of text).rest ++ b ∷ [] }
lines-byte text b e =
    let whole = (lines_of text).whole in
    let rest = (lines_of text).rest in
    let last : lines_of (rest ++ b ∷ []) ≡ record { whole = []; rest = rest ++ b ∷ [] } =
    lines-joined rest (b ∷ []) (rest-no_feed text) ∙ ap (λ (l : Lines). join rest l.whole l.rest) (one_byte b e) in
    lines-append text (b ∷ []) ∙ ap (behind whole) last ∙ ap (λ (ls : List (List ℕ)). record { whole = ls; rest = rest ++ b ∷ [] }) (append-nil whole)

pub lines-feed : (text : List ℕ) → lines_of (text ++ 10 ∷ []) ≡ record { whole = (lines_of text).whole ++ (lines_of text).rest ∷ []; rest = [] }
lines-feed text =
    let whole = (lines_of text).whole in
    let rest = (lines_of text).rest in
    lines-append text (10 ∷ []) ∙ ap (behind whole) (lines-joined rest (10 ∷ []) (rest-no_feed text)) ∙ ap (λ (t : List ℕ). record { whole = whole ++ t ∷ []; rest = [] }) (append-nil rest)
