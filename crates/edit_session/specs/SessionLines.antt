-- The lines that an editing session prints.
use Rattle.std.specs.Prelude.{ℕ, List, [], ◌++◌, codes, Result, Ok, Err}
use Rattle.std.specs.Fmt.{decimal}
use Rattle.bank_update.specs.Lines.{begin_line, line_end}
use Rattle.bank_update.specs.declared.refusal.BeginRefusal.TheVariants as begins
use Rattle.edit_session.specs.declared.refusal.CommitRefusal.{CommitRefusal}
use Rattle.edit_session.specs.declared.refusal.CommitRefusal.TheVariants as commits
use Rattle.edit_session.specs.declared.refusal.NoPlace.{NoPlace}
use Rattle.edit_session.specs.declared.refusal.PlaceRefusal.{PlaceRefusal}
use Rattle.edit_session.specs.declared.refusal.PlaceRefusal.TheVariants as places

-- how many rules there are after an edit
abbrev pub rules_line : ℕ → List ℕ
rules_line count = codes "rules " ++ (decimal count ++ line_end)

-- there is no such place among so many rules
abbrev pub no_place_line : ℕ → List ℕ
no_place_line count = codes "no place " ++ (decimal count ++ line_end)

-- what adding a rule answers; memory that is refused prints no line
abbrev pub add_line : Result ℕ PlaceRefusal → List ℕ
add_line (Ok count) = rules_line count
add_line (Err (places.NoPlace count)) = no_place_line count
add_line (Err places.Full) = codes "list full" ++ line_end
add_line (Err places.Memory) = []

-- what taking a rule out answers
abbrev pub take_out_line : Result ℕ NoPlace → List ℕ
take_out_line (Ok count) = rules_line count
take_out_line (Err refusal) = no_place_line refusal.count

-- so many entries are needed, and the limit is so much
abbrev pub too_many_line : ℕ → ℕ → List ℕ
too_many_line needed limit = decimal needed ++ (codes " entries needed, limit " ++ (decimal limit ++ line_end))

-- so many slots are needed, and there are only these
abbrev pub no_slots_line : ℕ → ℕ → List ℕ
no_slots_line needed slots = codes "no room " ++ (decimal needed ++ (codes " " ++ (decimal slots ++ line_end)))

-- why no swap was begun: as a script says it, or that the list needs too much; memory that is refused prints no line
abbrev pub commit_refusal_line : CommitRefusal → List ℕ
commit_refusal_line commits.Busy = begin_line (Err begins.Busy)
commit_refusal_line (commits.TooMany needed limit) = too_many_line needed limit
commit_refusal_line (commits.NoRoom above below wanted) = begin_line (Err (begins.NoRoom above below wanted))
commit_refusal_line (commits.NoSlots needed slots) = no_slots_line needed slots
commit_refusal_line commits.Memory = []

-- what a commit answers
abbrev pub commit_line : Result ℕ CommitRefusal → List ℕ
commit_line (Ok total) = begin_line (Ok total)
commit_line (Err refusal) = commit_refusal_line refusal
