use Rattle.std.proofs.Common.{take}
use Rattle.memory_text.specs.Patched.{AreCopies}
use Rattle.memory_text.proofs.patching.puts.Given as goal

abbrev pub invariant-loop-write : goal.invariant-loop-write
invariant-loop-write l = AreCopies (take l.write-index l.writes) l.puts.items
