-- What the text of a memory or of a plan spells: it, or the first bad line.
use Rattle.std.specs.Prelude.{ℕ, suc, ◌+◌, ◌==◌, List, [], ◌∷◌, ◌++◌, length, take, min, replicate, Option, Some, None, Result, Ok, Err, if◌then◌else◌}
use Rattle.table_text.specs.declared.error.TableReason.TheVariants.{FirstLine, Count}
use Rattle.text_lines.specs.Headline.Reading.{BadLine}
use Rattle.table_text.specs.Lines.{Line, lines_of}
use Rattle.memory_text.specs.declared.error.SlotReason.{SlotReason}
use Rattle.memory_text.specs.declared.error.SlotReason.TheVariants.{OfTable, Writes}
use Rattle.memory_text.specs.declared.kind.TextKind.{TextKind}
use Rattle.memory_text.specs.declared.kind.TextKind.TheVariants as kinds
use Rattle.memory_text.specs.Heading.{Heading, heading_of}
use Rattle.memory_text.specs.Lines.{write_in}
use Rattle.memory_text.specs.Memory.{Memory, Plan, Write, after}

-- writes in front of those that later lines come to
abbrev pub with_front : List Write → Result (List Write) (BadLine SlotReason) → Result (List Write) (BadLine SlotReason)
with_front front (Err bad) = Err bad
with_front front (Ok writes) = Ok (front ++ writes)

-- a line's write in front of what the lines behind it come to, from the slot behind its own on
abbrev pub in_front : ℕ → Result Write SlotReason → (ℕ → Result (List Write) (BadLine SlotReason)) → Result (List Write) (BadLine SlotReason)
in_front number (Err reason) rest = Err (record { line = number; reason = reason })
in_front number (Ok w) rest = with_front (w ∷ []) (rest (suc w.slot))

-- the writes of lines, of which the first has this number
abbrev pub writes_in : TextKind → ℕ → ℕ → ℕ → List Line → Result (List Write) (BadLine SlotReason)
writes_in kind slots number from [] = Ok []
writes_in kind slots number from (line ∷ lines) = in_front number (write_in kind slots from line) (λ next. writes_in kind slots (number + 1) next lines)

-- another number of lines was found than the first line states
abbrev pub count_differs : TextKind → ℕ → ℕ → SlotReason
count_differs kinds.Memory stated found = OfTable (Count stated found)
count_differs kinds.Plan stated found = Writes stated found

-- the plan of these writes, where as many lines were found as the first line states
abbrev pub counted : TextKind → Heading → ℕ → Result (List Write) (BadLine SlotReason) → Result Plan (BadLine SlotReason)
counted kind heading found (Err bad) = Err bad
counted kind heading found (Ok writes) =
    if found == heading.lines then Ok (record { slots = heading.slots; width = heading.width; writes = writes })
    else Err (record { line = min heading.lines found + 2; reason = count_differs kind heading.lines found })

abbrev pub no_heading : Result Plan (BadLine SlotReason)
no_heading = Err (record { line = 1; reason = OfTable FirstLine })

-- the lines after the first, of which as many as it states are read
abbrev pub after_heading : TextKind → Option Heading → List Line → Result Plan (BadLine SlotReason)
after_heading kind None lines = no_heading
after_heading kind (Some heading) lines = counted kind heading (length lines) (writes_in kind heading.slots 2 0 (take heading.lines lines))

abbrev pub heading_in : TextKind → Line → Option Heading
heading_in kind line = if line.ended then heading_of kind line.text else None

abbrev pub plan_in : TextKind → List Line → Result Plan (BadLine SlotReason)
plan_in kind [] = no_heading
plan_in kind (line ∷ lines) = after_heading kind (heading_in kind line) lines

-- the plan that a text spells, or its first bad line
abbrev pub plan_in_text : List ℕ → Result Plan (BadLine SlotReason)
plan_in_text text = plan_in kinds.Plan (lines_of text)

-- the memory after a plan's writes, where all slots are empty before
abbrev pub memory_after : Plan → Memory
memory_after plan = record { width = plan.width; slots = after (replicate plan.slots None) plan.writes }

abbrev pub as_memory : Result Plan (BadLine SlotReason) → Result Memory (BadLine SlotReason)
as_memory (Err bad) = Err bad
as_memory (Ok plan) = Ok (memory_after plan)

-- the memory that a text spells, whose lines say what their slots hold, or its first bad line
abbrev pub memory_in_text : List ℕ → Result Memory (BadLine SlotReason)
memory_in_text text = as_memory (plan_in kinds.Memory (lines_of text))
