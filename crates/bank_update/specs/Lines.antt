-- The lines that a script prints.
use Rattle.std.specs.Prelude.{ℕ, Bool, List, [], ◌∷◌, ◌++◌, codes, Option, Some, None, Result, Ok, Err, if◌then◌else◌}
use Rattle.std.specs.Fmt.{decimal}
use Rattle.field_boxes.specs.Headline.Names.{text_of}
use Rattle.bank_update.specs.declared.stage.Stage.{Stage}
use Rattle.bank_update.specs.declared.refusal.BeginRefusal.{BeginRefusal}
use Rattle.bank_update.specs.declared.refusal.BeginRefusal.TheVariants.{Busy, NoRoom}
use Rattle.bank_update.specs.declared.refusal.StepRefusal.{StepRefusal}
use Rattle.bank_update.specs.declared.refusal.StepRefusal.TheVariants.{Idle, DeviceFault}

-- a line feed
abbrev pub line_end : List ℕ
line_end = 10 ∷ []

-- no swap is pending
abbrev pub idle_line : List ℕ
idle_line = codes "idle" ++ line_end

-- the device failed
abbrev pub fault_line : List ℕ
fault_line = codes "device fault" ++ line_end

-- how many writes are done, of how many, and whether the swap goes back
abbrev pub stage_line : ℕ → ℕ → Bool → List ℕ
stage_line done total back = codes "stage " ++ decimal done ++ codes " of " ++ decimal total ++ (if back then codes " back" else []) ++ line_end

-- the stage of a swap, or that none is pending
abbrev pub stage_or_idle : Option Stage → List ℕ
stage_or_idle None = idle_line
stage_or_idle (Some stage) = stage_line stage.done stage.total stage.back

-- how many slots are free above the settled table and below it, and how many are wanted
abbrev pub no_room_line : ℕ → ℕ → ℕ → List ℕ
no_room_line above below wanted = codes "no room " ++ decimal above ++ codes " " ++ decimal below ++ codes " " ++ decimal wanted ++ line_end

-- why no swap begins
abbrev pub begin_refusal_line : BeginRefusal → List ℕ
begin_refusal_line Busy = codes "busy" ++ line_end
begin_refusal_line (NoRoom above below wanted) = no_room_line above below wanted

-- how many writes a swap has
abbrev pub begun_line : ℕ → List ℕ
begun_line total = codes "begun " ++ decimal total ++ line_end

-- how many writes a swap has that begins, or why none does
abbrev pub begin_line : Result ℕ BeginRefusal → List ℕ
begin_line (Ok total) = begun_line total
begin_line (Err refusal) = begin_refusal_line refusal

-- why a step wasn't taken
abbrev pub step_refusal_line : StepRefusal → List ℕ
step_refusal_line Idle = idle_line
step_refusal_line DeviceFault = fault_line

-- what a step answers
abbrev pub step_line : Result Stage StepRefusal → List ℕ
step_line (Ok stage) = stage_or_idle (Some stage)
step_line (Err refusal) = step_refusal_line refusal

-- the name of a decision, or the word for none
abbrev pub look_line : Option (List ℕ) → List ℕ
look_line name = text_of name ++ line_end
