use Rattle.std.proofs.Common.{◌∙◌, ap, arith, map, sym, string_bytes, eqb-true}
use Rattle.command_words.specs.Parts.{found_seen, with_words}
use Rattle.command_words.proofs.Taking.{all_words, at_end, few_seen, none_behind}
use Rattle.command_words.proofs.parts.parted.Goals as goal

pub returns : goal.returns
returns c =
    let found = found_seen c.loop-left.parts in
    let left = c.loop-left.left.now in
    let none = eqb-true _ _ (sym c.is_empty.ensures ∙ c.loop-left-test.false) in
    sym (at_end found (few_seen c.loop-left.parts.plain)) ∙ ap (with_words found) (sym (none_behind string_bytes left (omega (arith, none)))) ∙ c.loop-left.invariant ∙ all_words (map string_bytes c.args.words.now)

pub returns-in_err-left : goal.returns-in_err-left
returns-in_err-left c = rw c.from_residual.ensures (c.in_err-left.ensures.same ∙ c.loop-left.invariant ∙ all_words (map string_bytes c.args.words.now))
