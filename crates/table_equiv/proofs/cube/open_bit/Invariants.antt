use Rattle.std.proofs.Common.{◌<◌, ℕ}
use Rattle.word_cover.specs.Cubes.{IsOpen, cube_of}
use Rattle.table_equiv.proofs.cube.open_bit.Given as goal

abbrev pub invariant-loop-bit : goal.invariant-loop-bit
invariant-loop-bit l = (k : ℕ) → k < l.bit → IsOpen (cube_of l.word) k → ⊥
