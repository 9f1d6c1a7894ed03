use Rattle.std.proofs.Common.{◌≡◌, ◌++◌, drop}
use Rattle.redundancy_laws.specs.Flags.{with_flags}
use Rattle.redundancy.proofs.entry_table.flagged.Given as goal

abbrev pub invariant-loop-place : goal.invariant-loop-place
invariant-loop-place l = l.kept.items ++ with_flags (drop l.place l.entries) (drop l.place l.flags) ≡ with_flags l.entries l.flags
