-- The writes that were read so far, in front of what the lines that are left come to.
use Rattle.std.proofs.Common.{◌≡◌, ◌∷◌, ◌++◌, ℕ, suc, ◌+◌, ◌-◌, ◌<◌, List, [], Ok, Err, take, refl, ap, sym, ◌∙◌, arith, append_assoc, append-nil, eq-eqb, Result}
use Rattle.text_lines.specs.Headline.Reading.{BadLine}
use Rattle.table_text.specs.Lines.{Line}
use Rattle.memory_text.specs.declared.error.SlotReason.{SlotReason}
use Rattle.memory_text.specs.declared.kind.TextKind.{TextKind}
use Rattle.memory_text.specs.Heading.{Heading}
use Rattle.memory_text.specs.Lines.{write_in}
use Rattle.memory_text.specs.Memory.{Write}
use Rattle.memory_text.specs.Reading.{counted, in_front, with_front, writes_in}

abbrev pub bad_at : ℕ → SlotReason → BadLine SlotReason
bad_at number reason = record { line = number; reason = reason }

-- the reading of lines of which this one is bad
abbrev pub err_at : ℕ → SlotReason → Result (List Write) (BadLine SlotReason)
err_at number reason = Err (bad_at number reason)

-- what is read of the lines after so many, of so many that are stated
abbrev pub resumed : TextKind → ℕ → ℕ → List Write → ℕ → ℕ → List Line → Result (List Write) (BadLine SlotReason)
resumed kind slots stated front place from lines = with_front front (writes_in kind slots (place + 2) from (take (stated - place) lines))

front_front : (front more : List Write) (r : Result (List Write) (BadLine SlotReason)) → with_front front (with_front more r) ≡ with_front (front ++ more) r
front_front front more (Ok writes) = let e : front ++ (more ++ writes) ≡ (front ++ more) ++ writes = sym (append_assoc front more writes) in ap (λ ws. Ok ws) e
front_front front more (Err bad) = refl

first_taken : (kind : TextKind) (slots stated place from : ℕ) (line : Line) (lines : List Line) → place < stated →
    writes_in kind slots (place + 2) from (take (stated - place) (line ∷ lines)) ≡ in_front (place + 2) (write_in kind slots from line) (λ next. writes_in kind slots (place + 1 + 2) next (take (stated - (place + 1)) lines))
first_taken kind slots stated place from line lines lt =
    let left : stated - place ≡ suc (stated - (place + 1)) = omega arith in
    let number : place + 2 + 1 ≡ place + 1 + 2 = omega arith in
    ap (λ n. writes_in kind slots (place + 2) from (take n (line ∷ lines))) left
    ∙ ap (λ n. in_front (place + 2) (write_in kind slots from line) (λ next. writes_in kind slots n next (take (stated - (place + 1)) lines))) number

-- one line more was read
pub resumed-more : (kind : TextKind) (slots stated : ℕ) (front after : List Write) (place from next : ℕ) (line : Line) (lines : List Line) (w : Write) → place < stated → write_in kind slots from line ≡ Ok w →
    after ≡ front ++ w ∷ [] → next ≡ suc w.slot → resumed kind slots stated front place from (line ∷ lines) ≡ resumed kind slots stated after (place + 1) next lines
resumed-more kind slots stated front after place from next line lines w lt is e at =
    let rest = λ (n : ℕ). writes_in kind slots (place + 1 + 2) n (take (stated - (place + 1)) lines) in
    ap (with_front front) (first_taken kind slots stated place from line lines lt)
    ∙ ap (λ r. with_front front (in_front (place + 2) r rest)) is
    ∙ front_front front (w ∷ []) (rest (suc w.slot))
    ∙ ap (λ ws. with_front ws (rest (suc w.slot))) (sym e)
    ∙ ap (λ n. with_front after (rest n)) (sym at)

-- the line is bad
pub resumed-bad : (kind : TextKind) (slots stated : ℕ) (front : List Write) (place from : ℕ) (line : Line) (lines : List Line) (reason : SlotReason) → place < stated → write_in kind slots from line ≡ Err reason →
    resumed kind slots stated front place from (line ∷ lines) ≡ Err (bad_at (place + 2) reason)
resumed-bad kind slots stated front place from line lines reason lt is =
    let rest = λ (n : ℕ). writes_in kind slots (place + 1 + 2) n (take (stated - (place + 1)) lines) in
    ap (with_front front) (first_taken kind slots stated place from line lines lt)
    ∙ ap (λ r. with_front front (in_front (place + 2) r rest)) is

-- all lines that were to be read were
pub resumed-all : (kind : TextKind) (slots stated from : ℕ) (front : List Write) (lines : List Line) → resumed kind slots stated front stated from lines ≡ Ok front
resumed-all kind slots stated from front lines =
    let none : stated - stated ≡ 0 = omega arith in
    ap (λ n. with_front front (writes_in kind slots (stated + 2) from (take n lines))) none ∙ ap (λ ws. Ok ws) (append-nil front)

-- as many lines were found as were stated
pub counted_same : (kind : TextKind) (heading : Heading) (found : ℕ) (read : Result (List Write) (BadLine SlotReason)) (writes : List Write) → read ≡ Ok writes → found ≡ heading.lines →
    counted kind heading found read ≡ Ok (record { slots = heading.slots; width = heading.width; writes = writes })
counted_same kind heading found read writes is same = ap (counted kind heading found) is ∙ rw (eq-eqb found heading.lines same) refl

pub counted_bad : (kind : TextKind) (heading : Heading) (found : ℕ) (read : Result (List Write) (BadLine SlotReason)) (bad : BadLine SlotReason) → read ≡ Err bad → counted kind heading found read ≡ Err bad
counted_bad kind heading found read bad is = ap (counted kind heading found) is
