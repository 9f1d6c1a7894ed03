use Rattle.std.proofs.Common.{◌∙◌, sym}
use Rattle.command_words.proofs.Apart.{two_apart}
use Rattle.command_words.proofs.files.two_files.Goals as goal

pub invariant_of-result : goal.invariant_of-result
invariant_of-result c = record { apart = two_apart c.as_slice-words.result.now c.in-len2.len_at_least (sym c.all_differ.ensures ∙ c.if-not-all_differ.false) }
