-- An update to a table of the list is begun, or is refused.
use Rattle.std.proofs.Common.{◌≡◌, ◌⊎◌, ℕ, true, false, Option, Some, None, Result, Ok, Err, inl, inr, refl, ap, sym, subst, ◌∙◌, ◌<◌, true≢false}
use Rattle.std.specs.Prelude.{◌≢◌, is_some, option_map, IsErrAnd}
use Rattle.ternary_words.specs.declared.table.Table as code
use Rattle.ternary_words.specs.Views.{table_of}
use Rattle.bank_update.specs.Machine.{State, Update, stage, stage_of}
use Rattle.bank_update.specs.declared.stage.Stage.{Stage}
use Rattle.edit_session.specs.Editing.{ListedSwap}
use Rattle.edit_session.specs.Lists.{Listed}
use Rattle.edit_session.specs.Machine.{Copies, IsCommit, IsTableFor, SessionState, copies_begun, with_state}
use Rattle.edit_session.specs.Methods.{IsUnmade, Method}
use Rattle.edit_session.specs.Sound.{IsTableBy}
use Rattle.edit_session.specs.Ways.{HasBegun, InPlace, IsNotBegun, LacksRoom, Way, Whole}
use Rattle.edit_session.specs.declared.refusal.CommitRefusal.{CommitRefusal}
use Rattle.edit_session.specs.declared.refusal.CommitRefusal.TheVariants as commits
use Rattle.edit_session.proofs.Making.{made-answers}

-- a session by its parts
abbrev pub session_by : Listed → State → Copies → Method → Way → ℕ → ℕ → SessionState
session_by list state copies method way slot limit = record { list = list; state = state; copies = copies; method = method; way = way; slot = slot; limit = limit }

-- a list and a method that are as they were make no other session
pub same-session : (list now : Listed) (method new : Method) (state : State) (copies : Copies) (way : Way) (slot limit : ℕ) → now ≡ list → new ≡ method →
    session_by now state copies new way slot limit ≡ session_by list state copies method way slot limit
same-session list now method new state copies way slot limit same kept =
    ap (λ (l : Listed). session_by l state copies new way slot limit) same ∙ ap (λ (m : Method). session_by list state copies m way slot limit) kept

-- no swap is pending where there is no stage
idle_by : (f : Update → Stage) (p : Option Update) → is_some (option_map f p) ≡ false → p ≡ None
idle_by f None h = refl
idle_by f (Some u) h = absurd (true≢false h)

pub no_stage : (s : State) → is_some (stage s) ≡ false → s.pending ≡ None
no_stage s h = idle_by stage_of s.pending h

some_by : (f : Update → Stage) (p : Option Update) → is_some (option_map f p) ≡ true → p ≡ None → ⊥
some_by f None h none = true≢false (sym h)
some_by f (Some u) h none = cc

pub some_stage : (s : State) → is_some (stage s) ≡ true → s.pending ≡ None → ⊥
some_stage s h = some_by stage_of s.pending h

-- a table of the list, as it is handed over
pub handed-table : (method : Method) (list copy : Listed) (slot limit : ℕ) (table : code.Table) → copy ≡ list → IsTableFor method list slot limit table → IsTableBy copy.rules table
handed-table method list copy slot limit table same handed =
    subst (λ (l : Listed). IsTableBy l.rules table) (sym same) (made-answers method list.rules limit slot (table_of table) handed.made)

-- a swap is pending, so the commit is refused
pub busy-commit : (s t : SessionState) → is_some (stage t.state) ≡ true → t ≡ s → IsCommit s s (Err commits.Busy)
busy-commit s t some same = (some_stage s.state (ap (λ (x : SessionState). is_some (stage x.state)) (sym same) ∙ some), refl)

-- no swap is pending
pub idle-still : (s t : SessionState) → is_some (stage t.state) ≡ false → t ≡ s → s.state.pending ≡ None
idle-still s t none same = no_stage s.state (ap (λ (x : SessionState). is_some (stage x.state)) (sym same) ∙ none)

refuses_made : (s : SessionState) (refusal : CommitRefusal) → s.state.pending ≡ None → IsUnmade s.method s.list.rules s.limit refusal → IsCommit s s (Err refusal)
refuses_made s commits.Memory idle unmade = (idle, refl)
refuses_made s (commits.TooMany needed limit) idle unmade =
    (record { idle = idle; cost = unmade.0; limit_is = unmade.1; above = subst (λ n. n < needed) (sym unmade.1) unmade.2 }, refl)
refuses_made s commits.Busy idle unmade = absurd unmade
refuses_made s (commits.NoRoom above below wanted) idle unmade = absurd unmade
refuses_made s (commits.NoSlots needed slots) idle unmade = absurd unmade

-- no table is made, so the commit is refused
pub make-refused : (s t : SessionState) (e : CommitRefusal) (r : Result ℕ CommitRefusal) → IsErrAnd r (λ x. x ≡ e) → is_some (stage t.state) ≡ false → IsUnmade t.method t.list.rules t.limit e → t ≡ s →
    IsCommit s s r
make-refused s t e (Ok total) is none unmade same = absurd is
make-refused s t e (Err refusal) is none unmade same =
    subst (λ x. IsCommit s s (Err x)) (sym is) (refuses_made s e (idle-still s t none same) (subst (λ (x : SessionState). IsUnmade x.method x.list.rules x.limit e) same unmade))

-- memory was refused to a copy of the list
pub copy-refused : (s t : SessionState) (r : Result ℕ CommitRefusal) → IsErrAnd r (λ x. x ≡ commits.Memory) → is_some (stage t.state) ≡ false → t ≡ s → IsCommit s s r
copy-refused s t (Ok total) is none same = absurd is
copy-refused s t (Err refusal) is none same = subst (λ x. IsCommit s s (Err x)) (sym is) (idle-still s t none same, refl)

-- an update to a table of the list is begun
pub begins-commit : (s : SessionState) (state : State) (table : code.Table) (copy : Listed) (total : ℕ) → IsTableFor s.method s.list s.slot s.limit table → copy ≡ s.list →
    HasBegun s.way s.state state table total → IsCommit s (with_state s state (copies_begun copy total s.copies)) (Ok total)
begins-commit s state table copy total handed same begun = record {
  table = table;
  handed = handed;
  state = state;
  begun = begun;
  session = ap (λ (l : Listed). with_state s state (copies_begun l total s.copies)) same;
}

room_case : (way : Way) (s : State) (table : code.Table) (refusal : CommitRefusal) → IsNotBegun way s table refusal → (refusal ≡ commits.Memory) ⊎ LacksRoom way s table refusal
room_case Whole s table refusal h = inr h
room_case InPlace s table commits.Memory h = inl refl
room_case InPlace s table commits.Busy h = inr h
room_case InPlace s table (commits.TooMany needed limit) h = inr h
room_case InPlace s table (commits.NoRoom above below wanted) h = inr h
room_case InPlace s table (commits.NoSlots needed slots) h = inr h

-- other refusals say nothing of room
abbrev IsOther : CommitRefusal → Type 0
IsOther commits.Busy = Unit {0}
IsOther (commits.TooMany needed limit) = Unit {0}
IsOther (commits.NoRoom above below wanted) = ⊥
IsOther (commits.NoSlots needed slots) = ⊥
IsOther commits.Memory = ⊥

no_room : (way : Way) (s : State) (table : code.Table) (refusal : CommitRefusal) → IsOther refusal → LacksRoom way s table refusal → ⊥
no_room Whole s table commits.Busy other h = h
no_room Whole s table (commits.TooMany needed limit) other h = h
no_room Whole s table (commits.NoRoom above below wanted) other h = other
no_room Whole s table (commits.NoSlots needed slots) other h = other
no_room Whole s table commits.Memory other h = other
no_room InPlace s table commits.Busy other h = h
no_room InPlace s table (commits.TooMany needed limit) other h = h
no_room InPlace s table (commits.NoRoom above below wanted) other h = other
no_room InPlace s table (commits.NoSlots needed slots) other h = other
no_room InPlace s table commits.Memory other h = other

lacks_case : (s : SessionState) (table : code.Table) (refusal : CommitRefusal) → s.state.pending ≡ None → IsTableFor s.method s.list s.slot s.limit table → LacksRoom s.way s.state table refusal → IsCommit s s (Err refusal)
lacks_case s table commits.Busy idle handed h = absurd (no_room s.way s.state table commits.Busy tt h)
lacks_case s table (commits.TooMany needed limit) idle handed h = absurd (no_room s.way s.state table (commits.TooMany needed limit) tt h)
lacks_case s table (commits.NoRoom above below wanted) idle handed h = (record { table = table; handed = handed; idle = idle; lacks = h }, refl)
lacks_case s table (commits.NoSlots needed slots) idle handed h = (record { table = table; handed = handed; idle = idle; lacks = h }, refl)
lacks_case s table commits.Memory idle handed h = (idle, refl)

-- so it refuses the commit
pub refuses-commit : (s : SessionState) (table : code.Table) (refusal : CommitRefusal) → s.state.pending ≡ None → IsTableFor s.method s.list s.slot s.limit table →
    IsNotBegun s.way s.state table refusal → IsCommit s s (Err refusal)
refuses-commit s table refusal idle handed h = elim (room_case s.way s.state table refusal h) [
  | inl memory ↦ subst (λ (r : CommitRefusal). IsCommit s s (Err r)) (sym memory) (idle, refl)
  | inr lacks ↦ lacks_case s table refusal idle handed lacks
]

-- the update has begun, and the method stays
pub has-begun : {D : Type 0} (list : Listed) (method after : Method) (way : Way) (slot limit : ℕ) (old new : ListedSwap D) (table : code.Table) (copy : Listed) (total : ℕ) →
    IsTableFor method list slot limit table → copy ≡ list → HasBegun way old.state new.state table total → new.copies ≡ copies_begun copy total old.copies → after ≡ method →
    IsCommit (session_by list old.state old.copies method way slot limit) (session_by list new.state new.copies after way slot limit) (Ok total)
has-begun list method after way slot limit old new table copy total handed same begun copies stays =
    let s = session_by list old.state old.copies method way slot limit in
    subst (λ (m : Method). IsCommit s (session_by list new.state new.copies m way slot limit) (Ok total)) (sym stays)
    (subst (λ (x : Copies). IsCommit s (session_by list new.state x method way slot limit) (Ok total)) (sym copies) (begins-commit s new.state table copy total handed same begun))

-- no update has begun
pub not-begun : {D : Type 0} (list : Listed) (method : Method) (way : Way) (slot limit : ℕ) (old new : ListedSwap D) (table : code.Table) (refusal : CommitRefusal) (r : Result ℕ CommitRefusal) →
    IsErrAnd r (λ x. x ≡ refusal) → old.state.pending ≡ None → IsTableFor method list slot limit table → IsNotBegun way old.state table refusal → new ≡ old →
    IsCommit (session_by list old.state old.copies method way slot limit) (session_by list new.state new.copies method way slot limit) r
not-begun list method way slot limit old new table refusal (Ok total) is idle handed refused stays = absurd is
not-begun {D = D} list method way slot limit old new table refusal (Err said) is idle handed refused stays =
    let s = session_by list old.state old.copies method way slot limit in
    subst (λ (x : ListedSwap D). IsCommit s (session_by list x.state x.copies method way slot limit) (Err said)) (sym stays)
    (subst (λ (e : CommitRefusal). IsCommit s s (Err e)) (sym is) (refuses-commit s table refusal idle handed refused))
