-- The refusals of the code.
use Rattle.std.specs.Prelude.{ℕ, Result, Ok, Err}
use Rattle.bank_update.specs.declared.refusal.BeginRefusal.{BeginRefusal}
use Rattle.bank_update.specs.declared.refusal.BeginRefusal.TheVariants as begins
use Rattle.slot_patch.specs.declared.refusal.PatchRefusal.{PatchRefusal}
use Rattle.slot_patch.specs.declared.refusal.PatchRefusal.TheVariants as patches
use Rattle.table_compose.specs.declared.composition.ComposeError.{ComposeError}
use Rattle.table_compose.specs.declared.composition.ComposeError.TheVariants as composes
use Rattle.rule_shortening.specs.declared.refusal.ShortenError.{ShortenError}
use Rattle.rule_shortening.specs.declared.refusal.ShortenError.TheVariants as shortens
use Rattle.edit_session.specs.declared.refusal.CommitRefusal.{CommitRefusal}
use Rattle.edit_session.specs.declared.refusal.CommitRefusal.TheVariants as commits
use Rattle.edit_session.specs.declared.refusal.PlaceRefusal.{PlaceRefusal}
use Rattle.edit_session.specs.declared.refusal.PlaceRefusal.TheVariants as places

-- why no table was composed, as a refusal to commit
abbrev pub commit_refusal_of : ComposeError → CommitRefusal
commit_refusal_of (composes.TooMany needed limit) = commits.TooMany needed limit
commit_refusal_of composes.Memory = commits.Memory

-- why no short table was made, as a refusal to commit
abbrev pub shorten_refusal_of : ShortenError → CommitRefusal
shorten_refusal_of (shortens.TooMany needed limit) = commits.TooMany needed limit
shorten_refusal_of shortens.Memory = commits.Memory

-- why no swap was begun, as a refusal to commit
abbrev pub begin_refusal_of : BeginRefusal → CommitRefusal
begin_refusal_of begins.Busy = commits.Busy
begin_refusal_of (begins.NoRoom above below wanted) = commits.NoRoom above below wanted

-- why no patch was begun, as a refusal to commit
abbrev pub patch_refusal_of : PatchRefusal → CommitRefusal
patch_refusal_of patches.Busy = commits.Busy
patch_refusal_of (patches.NoRoom needed slots) = commits.NoSlots needed slots
patch_refusal_of patches.Memory = commits.Memory

-- memory was not refused where a rule was to be added
abbrev pub IsKnownAdd : Result ℕ PlaceRefusal → Type 0
IsKnownAdd (Ok count) = Unit {0}
IsKnownAdd (Err (places.NoPlace count)) = Unit {0}
IsKnownAdd (Err places.Full) = Unit {0}
IsKnownAdd (Err places.Memory) = ⊥

-- a commit was refused for another reason than memory
abbrev pub IsKnownRefusal : CommitRefusal → Type 0
IsKnownRefusal commits.Busy = Unit {0}
IsKnownRefusal (commits.TooMany needed limit) = Unit {0}
IsKnownRefusal (commits.NoRoom above below wanted) = Unit {0}
IsKnownRefusal (commits.NoSlots needed slots) = Unit {0}
IsKnownRefusal commits.Memory = ⊥

-- memory was not refused to a commit
abbrev pub IsKnownCommit : Result ℕ CommitRefusal → Type 0
IsKnownCommit (Ok total) = Unit {0}
IsKnownCommit (Err refusal) = IsKnownRefusal refusal
