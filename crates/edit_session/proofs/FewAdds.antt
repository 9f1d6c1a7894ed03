-- A session has at most one command that adds a rule for each 40 bytes of its text.
use Rattle.std.proofs.Common.{◌≡◌, ◌∷◌, ℕ, ◌+◌, ◌-◌, ◌*◌, ◌≤◌, List, Bool, true, false, cond, [], ◌++◌, refl, subst, arith, length, take, map, Ok, Err}
use Rattle.std.specs.Prelude.{Result, count_by, nat_eq, ◌==◌, if◌then◌else◌}
use Rattle.std.specs.List.{ends_with, onto_first}
use Rattle.std.proofs.lemmas.List.{length-take}
use Rattle.std.proofs.lemmas.List.Sums.{sum_by-append, sum_by-cons}
use Rattle.text_lines.specs.Headline.Fallible.{◌>>=◌}
use Rattle.text_lines.specs.Headline.Reading.{BadLine, at_line, read_from}
use Rattle.text_lines.specs.Reading.{with_item}
use Rattle.text_lines.specs.Headline.Lines.{text_lines, is_skipped, lines_of, without_return}
use Rattle.edit_session.specs.declared.reason.SessionReason.{SessionReason}
use Rattle.edit_session.specs.SessionText.{SessionEvent, event_of_line, is_add, session_of}
use Rattle.edit_session.proofs.AddBytes.{adds, line_bytes}

-- the bytes of lines
abbrev bytes_of : List (List ℕ) → ℕ
bytes_of [] = 0
bytes_of (line ∷ lines) = length line + bytes_of lines

onto_bytes : (b : ℕ) (lines : List (List ℕ)) → bytes_of (onto_first b lines) ≡ bytes_of lines + 1
onto_bytes b [] = refl
onto_bytes b (line ∷ lines) = omega arith

lines_step : (b : ℕ) (bytes : List ℕ) (t : Bool) → (b == 10) ≡ t → bytes_of (lines_of bytes) ≤ length bytes → bytes_of (lines_of (b ∷ bytes)) ≤ length (b ∷ bytes)
lines_step b bytes true e h = rw e (omega (arith, h))
lines_step b bytes false e h = let more = onto_bytes b (lines_of bytes) in rw e (omega (arith, h, more))

lines_fit : (bytes : List ℕ) → bytes_of (lines_of bytes) ≤ length bytes
lines_fit [] = omega arith
lines_fit (b ∷ bytes) = lines_step b bytes (b == 10) refl (lines_fit bytes)

shorter_if : (line : List ℕ) (t : Bool) → length (cond t (take (length line - 1) line) line) ≤ length line
shorter_if line true = omega (arith, length-take (length line - 1) line)
shorter_if line false = omega arith

returns_fit : (lines : List (List ℕ)) → bytes_of (map without_return lines) ≤ bytes_of lines
returns_fit [] = omega arith
returns_fit (line ∷ lines) = let this = shorter_if line (ends_with nat_eq line (13 ∷ [])) in let others = returns_fit lines in omega (arith, this, others)

text_fits : (text : List ℕ) → bytes_of (text_lines text) ≤ length text
text_fits text = omega (arith, returns_fit (lines_of text), lines_fit text)

-- lines of so many bytes have few behind some events
abbrev Few : List SessionEvent → ℕ → Result (List SessionEvent) (BadLine SessionReason) → Type 0
Few before n read = (events : List SessionEvent) → read ≡ Ok events → 40 * count_by is_add events ≤ 40 * count_by is_add before + n

one_few : (before : List SessionEvent) (line : List ℕ) (skipped : Bool) (r : Result SessionEvent SessionReason) (next : List SessionEvent) → event_of_line line ≡ r →
    cond skipped (Ok before) (r >>= (λ event. Ok (before ++ event ∷ []))) ≡ Ok next → 40 * count_by is_add next ≤ 40 * count_by is_add before + length line
one_few before line true r next e h = let same : before ≡ next = cc in subst (λ (xs : List SessionEvent). 40 * count_by is_add xs ≤ 40 * count_by is_add before + length line) same (omega arith)
one_few before line false (Err reason) next e h = absurd (cc)
one_few before line false (Ok event) next e h =
    let same : before ++ event ∷ [] ≡ next = cc in
    let this = line_bytes line event e in
    let count = sum_by-append adds before (event ∷ []) in
    let one = sum_by-cons adds event [] in
    subst (λ (xs : List SessionEvent). 40 * count_by is_add xs ≤ 40 * count_by is_add before + length line) same (omega (arith, this, count, one))

then_few : (before : List SessionEvent) (line : List ℕ) (n number : ℕ) (read : Result (List SessionEvent) SessionReason) (rest : List SessionEvent → Result (List SessionEvent) (BadLine SessionReason)) →
    ((next : List SessionEvent) → read ≡ Ok next → 40 * count_by is_add next ≤ 40 * count_by is_add before + length line) → ((next : List SessionEvent) → Few next n (rest next)) →
    Few before (length line + n) (at_line number read >>= rest)
then_few before line n number (Err reason) rest one few = λ events h. absurd (cc)
then_few before line n number (Ok next) rest one few = λ events h. let this = one next refl in let others = few next events h in omega (arith, this, others)

lines_few : (before : List SessionEvent) (number : ℕ) (lines : List (List ℕ)) → Few before (bytes_of lines) (read_from (with_item event_of_line) before number lines)
lines_few before number [] = λ events h. let same : before ≡ events = cc in subst (λ (xs : List SessionEvent). 40 * count_by is_add xs ≤ 40 * count_by is_add before + 0) same (omega arith)
lines_few before number (line ∷ lines) =
    then_few before line (bytes_of lines) number (if is_skipped line then Ok before else with_item event_of_line before line) (λ next. read_from (with_item event_of_line) next (number + 1) lines)
    (λ next. one_few before line (is_skipped line) (event_of_line line) next refl) (λ next. lines_few next (number + 1) lines)

pub few_adds : (text : List ℕ) (events : List SessionEvent) → session_of text ≡ Ok events → 40 * count_by is_add events ≤ length text
few_adds text events h = let few = lines_few [] 1 (text_lines text) events h in let fits = text_fits text in omega (arith, few, fits)
