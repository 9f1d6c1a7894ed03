-- The entries that were read so far, in front of what the lines that are left come to.
use Rattle.std.proofs.Common.{◌≡◌, ◌∷◌, ◌++◌, ℕ, suc, ◌+◌, ◌-◌, ◌<◌, List, [], Ok, Err, take, refl, ap, sym, ◌∙◌, arith, append_assoc, append-nil, eq-eqb, Result}
use Rattle.ternary_words.specs.Headline.Table.{Entry, Table}
use Rattle.table_text.specs.declared.error.TableReason.{TableReason}
use Rattle.table_text.specs.Lines.{Line}
use Rattle.table_text.specs.Heading.{Heading}
use Rattle.table_text.specs.Reading.{entry_of, in_front, entries_of, counted}
use Rattle.text_lines.specs.Headline.Reading.{BadLine, at_line}
use Rattle.text_lines.specs.Reading.{IsTextRefused}
use Rattle.text_lines.specs.declared.error.TextError.{TextError}
use Rattle.text_lines.specs.declared.error.TextError.TheVariants as errors
use Rattle.table_text.specs.Refused.{IsBehind, table_view}

-- entries in front of what the rest comes to
abbrev pub with_front : List Entry → Result (List Entry) (BadLine TableReason) → Result (List Entry) (BadLine TableReason)
with_front front (Ok entries) = Ok (front ++ entries)
with_front front (Err bad) = Err bad

abbrev pub bad_at : ℕ → TableReason → BadLine TableReason
bad_at number reason = record { line = number; reason = reason }

-- the reading of lines of which this one is bad
abbrev pub err_at : ℕ → TableReason → Result (List Entry) (BadLine TableReason)
err_at number reason = Err (bad_at number reason)

-- what is read of the lines after so many
abbrev pub resumed : Heading → List Entry → ℕ → List Line → Result (List Entry) (BadLine TableReason)
resumed heading front place lines = with_front front (entries_of heading (place + 2) (take (heading.entries - place) lines))

front_in : (front : List Entry) (number : ℕ) (entry : Entry) (r : Result (List Entry) (BadLine TableReason)) → with_front front (in_front number (Ok entry) r) ≡ with_front (front ++ entry ∷ []) r
front_in front number entry (Ok entries) = let e : front ++ entry ∷ entries ≡ (front ++ entry ∷ []) ++ entries = sym (append_assoc front (entry ∷ []) entries) in ap (λ es. Ok es) e
front_in front number entry (Err bad) = refl

first_taken : (heading : Heading) (place : ℕ) (line : Line) (lines : List Line) → place < heading.entries →
    entries_of heading (place + 2) (take (heading.entries - place) (line ∷ lines)) ≡ in_front (place + 2) (entry_of heading line) (entries_of heading (place + 1 + 2) (take (heading.entries - (place + 1)) lines))
first_taken heading place line lines lt =
    let left : heading.entries - place ≡ suc (heading.entries - (place + 1)) = omega arith in
    let number : place + 2 + 1 ≡ place + 1 + 2 = omega arith in
    ap (λ n. entries_of heading (place + 2) (take n (line ∷ lines))) left
    ∙ ap (λ n. in_front (place + 2) (entry_of heading line) (entries_of heading n (take (heading.entries - (place + 1)) lines))) number

-- one line more was read
resumed-entry : (heading : Heading) (front : List Entry) (place : ℕ) (line : Line) (lines : List Line) (entry : Entry) → place < heading.entries → entry_of heading line ≡ Ok entry →
    resumed heading front place (line ∷ lines) ≡ resumed heading (front ++ entry ∷ []) (place + 1) lines
resumed-entry heading front place line lines entry lt is =
    ap (with_front front) (first_taken heading place line lines lt)
    ∙ ap (λ r. with_front front (in_front (place + 2) r (entries_of heading (place + 1 + 2) (take (heading.entries - (place + 1)) lines)))) is
    ∙ front_in front (place + 2) entry (entries_of heading (place + 1 + 2) (take (heading.entries - (place + 1)) lines))

behind_is : (heading : Heading) (front after : List Entry) (place : ℕ) (line : Line) (lines : List Line) (r : Result Entry TableReason) → place < heading.entries → entry_of heading line ≡ r → IsBehind front r after →
    resumed heading front place (line ∷ lines) ≡ resumed heading after (place + 1) lines
behind_is heading front after place line lines (Ok entry) lt is h = resumed-entry heading front place line lines entry lt is ∙ ap (λ es. resumed heading es (place + 1) lines) (sym h)
behind_is heading front after place line lines (Err reason) lt is h = absurd h

pub resumed-more : (heading : Heading) (front after : List Entry) (place : ℕ) (line : Line) (lines : List Line) → place < heading.entries → IsBehind front (entry_of heading line) after →
    resumed heading front place (line ∷ lines) ≡ resumed heading after (place + 1) lines
resumed-more heading front after place line lines lt h = behind_is heading front after place line lines (entry_of heading line) lt refl h

-- the line is bad
pub resumed-bad : (heading : Heading) (front : List Entry) (place : ℕ) (line : Line) (lines : List Line) (reason : TableReason) → place < heading.entries → entry_of heading line ≡ Err reason →
    resumed heading front place (line ∷ lines) ≡ Err (bad_at (place + 2) reason)
resumed-bad heading front place line lines reason lt is =
    ap (with_front front) (first_taken heading place line lines lt)
    ∙ ap (λ r. with_front front (in_front (place + 2) r (entries_of heading (place + 1 + 2) (take (heading.entries - (place + 1)) lines)))) is

-- all lines that were to be read were
pub resumed-all : (heading : Heading) (front : List Entry) (lines : List Line) → resumed heading front heading.entries lines ≡ Ok front
resumed-all heading front lines =
    let none : heading.entries - heading.entries ≡ 0 = omega arith in
    ap (λ n. with_front front (entries_of heading (heading.entries + 2) (take n lines))) none ∙ ap (λ es. Ok es) (append-nil front)

-- as many lines were found as were stated
pub counted_same : (heading : Heading) (found : ℕ) (read : Result (List Entry) (BadLine TableReason)) (entries : List Entry) → read ≡ Ok entries → found ≡ heading.entries → counted heading found read ≡ Ok (table_view heading entries)
counted_same heading found read entries is same =
    ap (counted heading found) is ∙ rw (eq-eqb found heading.entries same) refl

pub counted_bad : (heading : Heading) (found : ℕ) (read : Result (List Entry) (BadLine TableReason)) (bad : BadLine TableReason) → read ≡ Err bad → counted heading found read ≡ Err bad
counted_bad heading found read bad is = ap (counted heading found) is

same_bad : (read : Result Entry (BadLine TableReason)) (a b : BadLine TableReason) → read ≡ Err a → read ≡ Err b → a ≡ b
same_bad read a b e h = cc

-- the line of this number is refused, and the text with it
pub refused : (error : TextError TableReason) (number : ℕ) (read : Result Entry TableReason) (whole : Result Table (BadLine TableReason)) → IsTextRefused error (at_line number read) →
    ((reason : TableReason) → read ≡ Err reason → whole ≡ Err (bad_at number reason)) → IsTextRefused error whole
refused errors.Memory number read whole h f = tt
refused (errors.BadLine line reason) number (Ok entry) whole h f = absurd (cc)
refused (errors.BadLine line reason) number (Err why) whole h f = f why refl ∙ ap (λ (bad : BadLine TableReason). Err bad) (same_bad (Err (bad_at number why)) (bad_at number why) (bad_at line reason) refl h)
