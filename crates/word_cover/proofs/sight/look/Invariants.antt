use Rattle.std.proofs.Common.{◌<◌, length}
use Rattle.std.specs.Prelude.{IfSome}
use Rattle.word_cover.proofs.sight.look.Given as goal

abbrev pub invariant-loop-place : goal.invariant-loop-place
invariant-loop-place l = IfSome l.found (λ p. p < length l.words)
