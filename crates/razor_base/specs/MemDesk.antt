-- What a desk in memory has left of its inputs, and what a read of it answers.
use Rattle.std.specs.Prelude.{ℕ, ◌==◌, List, length, min, Option, Some, None, Result, Ok, Err, if◌then◌else◌}
use Rattle.razor_base.specs.Headline.Readings.{Reading}
use Rattle.std.specs.BTreeMap.{get_by_text}
use Rattle.razor_base.specs.Standing.{all_at, left_at}
use Rattle.razor_base.specs.FaultPlan.{fails_next}
use Rattle.razor_limits.specs.declared.failure.Failed.{Failed}
use Rattle.razor_base.specs.declared.mem_desk.MemDesk.{MemDesk}

-- the bytes that are left under a name, if it is there
abbrev pub left_under : MemDesk → List ℕ → Option (List ℕ)
left_under desk name = left_at (get_by_text desk.inputs name)

-- all bytes that were put under a name
abbrev pub put_under : MemDesk → List ℕ → Option (List ℕ)
put_under desk name = all_at (get_by_text desk.inputs name)

-- the reads so far
abbrev pub reads_under : MemDesk → List Reading
reads_under desk = desk.history.reads

-- at most so many bytes are given at once
abbrev pub most_at_once : MemDesk → ℕ
most_at_once desk = desk.most

-- the numbers of the reads that were chosen to fail
abbrev pub chosen_reads : MemDesk → List ℕ
chosen_reads desk = desk.plan.failing.items

-- how many reads into a piece that isn't empty were made
abbrev pub reads_made : MemDesk → ℕ
reads_made desk = desk.plan.calls

-- how many reads failed
abbrev pub read_faults : MemDesk → ℕ
read_faults desk = desk.plan.faults

-- a read of what is left gives at most so many bytes, and fails where nothing is known to be left
abbrev pub gives : ℕ → Option (List ℕ) → Result ℕ Failed
gives most None = Err (record {})
gives most (Some left) = Ok (min most (length left))

-- a read into room for so many bytes fails where it was chosen or the name isn't there
abbrev pub read_answer : MemDesk → List ℕ → ℕ → Result ℕ Failed
read_answer desk name room =
    if room == 0 then Ok 0 else (if fails_next desk.plan then Err (record {}) else gives (min room desk.most) (left_under desk name))
