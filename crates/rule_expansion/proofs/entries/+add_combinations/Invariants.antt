use Rattle.std.proofs.Common.{◌≡◌, ◌++◌, length, map, take}
use Rattle.std.specs.List.{flat_map}
use Rattle.rule_expansion.specs.Expansion.{combinations}
use Rattle.rule_expansion.specs.Entries.{decided_of, with_words, prefixes_of}
use Rattle.rule_expansion.proofs.Combinations.{in_front}
use Rattle.rule_expansion.proofs.entries.+add_combinations.Given as goal

abbrev pub decreases-add_combinations : goal.decreases-add_combinations
decreases-add_combinations l = length l.covers.now

abbrev pub invariant-loop-prefix : goal.invariant-loop-prefix
invariant-loop-prefix l =
    map decided_of l.entries.items ≡ map decided_of l.initial.entries.items
    ++ with_words l.decision (take l.field l.chosen) (flat_map (λ p. in_front p (combinations (prefixes_of l.others))) (take l.prefix-index l.prefix-items))
