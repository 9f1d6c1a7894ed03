use Rattle.std.proofs.Common.{◌∙◌, sym}
use Rattle.command_words.proofs.Apart.{three_apart}
use Rattle.command_words.proofs.files.three_files.Goals as goal

pub invariant_of-result : goal.invariant_of-result
invariant_of-result c =
    let apart = three_apart c.as_slice-words.result.now c.in-len3.len_at_least (sym c.all_differ.ensures ∙ c.if-not-all_differ.false) in
    record { front = apart.front; ends = apart.ends; back = apart.back }
