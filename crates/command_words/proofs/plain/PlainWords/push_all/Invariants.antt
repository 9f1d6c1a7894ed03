use Rattle.std.proofs.Common.{◌≡◌, ◌++◌, map, take, string_bytes}
use Rattle.command_words.specs.PlainWords.{plain_seen}
use Rattle.command_words.proofs.plain.PlainWords.push_all.Given as goal

abbrev pub invariant-loop-word : goal.invariant-loop-word
invariant-loop-word l = plain_seen l.self ≡ plain_seen l.initial.self ++ map string_bytes (take l.word-index l.words)
