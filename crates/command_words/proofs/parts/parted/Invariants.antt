use Rattle.std.proofs.Common.{◌≡◌, length, map, string_bytes}
use Rattle.command_words.specs.Parts.{found_seen, nothing_found, with_words}
use Rattle.command_words.proofs.parts.parted.Given as goal

abbrev pub invariant-loop-left : goal.invariant-loop-left
invariant-loop-left l = with_words (found_seen l.parts) (map string_bytes l.left) ≡ with_words nothing_found (map string_bytes l.words)

abbrev pub decreases-loop-left : goal.decreases-loop-left
decreases-loop-left l = length l.left
