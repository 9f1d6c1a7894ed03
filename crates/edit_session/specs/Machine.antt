-- An editing session: what is kept, and what each event answers and does.
use Rattle.std.specs.Prelude.{◌≡◌, ◌≢◌, ℕ, zero, suc, ◌<◌, ◌==◌, cond, List, [], Option, Some, None, unwrap_or, Result, Ok, Err, if◌then◌else◌}
use Rattle.field_boxes.specs.Headline.Classifier.{Rule, source}
use Rattle.field_boxes.specs.Headline.Fields.{stated}
use Rattle.ternary_words.specs.declared.table.Table as code
use Rattle.ternary_words.specs.Views.{table_of}
use Rattle.bank_update.specs.Machine as updates
use Rattle.bank_update.specs.Machine.{State, Update, abort_answer, has_turned, step_answer}
use Rattle.bank_update.specs.Whole.{unsettled}
use Rattle.bank_update.specs.declared.stage.Stage.{Stage}
use Rattle.edit_session.specs.Lists.{Listed}
use Rattle.edit_session.specs.Methods.{IsMade, IsNeeded, Method}
use Rattle.edit_session.specs.Ways.{HasBegun, LacksRoom, Way}
use Rattle.edit_session.specs.declared.refusal.CommitRefusal.{CommitRefusal}
use Rattle.edit_session.specs.declared.refusal.CommitRefusal.TheVariants as commits

-- the lists at their commits: of the settled table, and of the pending one, if a swap is pending
pub record Copies : Type 0 where
  pub settled : List (Rule (List ℕ))
  pub pending : Option (List (Rule (List ℕ)))

-- the list now, the update machine, the lists of its tables at their commits, by which method tables are made and in which way
-- they are replaced, and the width of slots and the limit of entries
pub record SessionState : Type 0 where
  pub list : Listed
  pub state : State
  pub copies : Copies
  pub method : Method
  pub way : Way
  pub slot : ℕ
  pub limit : ℕ

-- at first the settled table is the empty one, of the empty list
abbrev pub no_copies : Copies
no_copies = record { settled = []; pending = None }

-- a session over so many empty slots
abbrev pub opened : Listed → Method → Way → ℕ → ℕ → ℕ → SessionState
opened list method way slots slot limit = record { list = list; state = unsettled slots; copies = no_copies; method = method; way = way; slot = slot; limit = limit }

-- an edit changes the list alone
abbrev pub with_list : SessionState → Listed → SessionState
with_list s list = record { list = list; state = s.state; copies = s.copies; method = s.method; way = s.way; slot = s.slot; limit = s.limit }

-- the session with its swap and the lists of its tables changed
abbrev pub with_state : SessionState → State → Copies → SessionState
with_state s state copies = record { list = s.list; state = state; copies = copies; method = s.method; way = s.way; slot = s.slot; limit = s.limit }

-- Commit.

-- a table that is handed over for the list: it is one that the method makes of its rules within the limit, so it answers every
-- header as the list and is tight, and it names decisions as the list does
pub record IsTableFor (method : Method) (list : Listed) (slot limit : ℕ) (table : code.Table) : Type 0 where
  pub made : IsMade method list.rules limit slot (table_of table)
  pub names : table.names ≡ list.names

-- the lists of the tables once a swap to a table of the list has begun: one that has no writes is over at once
abbrev pub copies_begun : Listed → ℕ → Copies → Copies
copies_begun list total copies =
    if total == 0 then record { settled = list.rules; pending = None }
    else record { settled = copies.settled; pending = Some list.rules }

-- an update to a table for the list now has begun, of so many writes
pub record IsBegun (s new : SessionState) (total : ℕ) : Type 0 where
  pub table : code.Table
  pub handed : IsTableFor s.method s.list s.slot s.limit table
  pub state : State
  pub begun : HasBegun s.way s.state state table total
  pub session : new ≡ with_state s state (copies_begun s.list total s.copies)

-- no swap is pending, and what the list now needs by the method, which is so much, is above the limit
pub record IsTooMuch (s : SessionState) (needed limit : ℕ) : Type 0 where
  pub idle : s.state.pending ≡ None
  pub cost : IsNeeded s.method s.list.rules needed
  pub limit_is : limit ≡ s.limit
  pub above : limit < needed

-- no update is pending, and there is no room for a table for the list now
pub record HasNoRoom (s : SessionState) (refusal : CommitRefusal) : Type 0 where
  pub table : code.Table
  pub handed : IsTableFor s.method s.list s.slot s.limit table
  pub idle : s.state.pending ≡ None
  pub lacks : LacksRoom s.way s.state table refusal

-- how a commit ends and what it leaves
abbrev pub IsCommit : SessionState → SessionState → Result ℕ CommitRefusal → Type 0
IsCommit s new (Ok total) = IsBegun s new total
IsCommit s new (Err commits.Busy) = (s.state.pending ≢ None) × (new ≡ s)
IsCommit s new (Err (commits.TooMany needed limit)) = IsTooMuch s needed limit × (new ≡ s)
IsCommit s new (Err (commits.NoRoom above below wanted)) = HasNoRoom s (commits.NoRoom above below wanted) × (new ≡ s)
IsCommit s new (Err (commits.NoSlots needed slots)) = HasNoRoom s (commits.NoSlots needed slots) × (new ≡ s)
IsCommit s new (Err commits.Memory) = (s.state.pending ≡ None) × (new ≡ s)

-- A step whose write succeeds, and abort.

-- the pending table has settled, so its list is the settled one's
abbrev pub settled_copies : Copies → Copies
settled_copies copies = record { settled = unwrap_or copies.pending copies.settled; pending = None }

-- no swap is pending any more
abbrev pub kept_copies : Copies → Copies
kept_copies copies = record { settled = copies.settled; pending = None }

-- the lists of the tables when the swap has reached the stage: forward it is over with the last write, back when none is left
abbrev pub copies_at : Copies → Stage → Copies
copies_at copies stage =
    if stage.back then (if stage.done == 0 then kept_copies copies else copies)
    else (if stage.done == stage.total then settled_copies copies else copies)

-- the same where a stage was reached
abbrev pub copies_by : Copies → Option Stage → Copies
copies_by copies None = copies
copies_by copies (Some stage) = copies_at copies stage

-- the lists of the tables after a step that succeeds, and after abort
abbrev pub stepped_copies : State → Copies → Copies
stepped_copies s copies = copies_by copies (step_answer s)

abbrev pub aborted_copies : State → Copies → Copies
aborted_copies s copies = copies_by copies (abort_answer s)

-- the session after a step that succeeds
abbrev pub stepped : SessionState → SessionState
stepped s = with_state s (updates.stepped s.state) (stepped_copies s.state s.copies)

-- the session after abort
abbrev pub aborted : SessionState → SessionState
aborted s = with_state s (updates.aborted s.state) (aborted_copies s.state s.copies)

-- so many steps that succeed
abbrev pub after_steps : ℕ → SessionState → SessionState
after_steps zero s = s
after_steps (suc n) s = after_steps n (stepped s)

-- no swap is pending, the settled table is a table of the list, and the list is as it was
pub record HasSettled (list : Listed) (s : SessionState) : Type 0 where
  pub idle : s.state.pending ≡ None
  pub settled : s.copies.settled ≡ list.rules
  pub list_is : s.list ≡ list

-- Look.

-- what the list of the settled table decides; during a swap that, or what the list of the pending table decides
abbrev pub decided_with : State → Copies → Option Update → List ℕ → Option (List ℕ)
decided_with s copies None values = source stated values copies.settled
decided_with s copies (Some u) values =
    cond (has_turned s u values) (source stated values (unwrap_or copies.pending [])) (source stated values copies.settled)

-- the decision of a header by name, as the list of the table decides that answers
abbrev pub decided : State → Copies → List ℕ → Option (List ℕ)
decided s copies values = decided_with s copies s.pending values
