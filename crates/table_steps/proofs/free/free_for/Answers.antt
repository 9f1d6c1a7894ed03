use Rattle.std.proofs.Common.{◌++◌, List, drop, take, length, ◌-◌, subst}
use Rattle.std.proofs.lemmas.List.{take_rest}
use Rattle.ternary_words.specs.declared.entry.Entry.{Entry}
use Rattle.table_steps.specs.Free.{IsFree, words_of}
use Rattle.table_steps.proofs.Outcomes.{if_yes}
use Rattle.table_steps.proofs.Openings.{free-behind}
use Rattle.table_steps.proofs.free.free_for.Goals as goal

pub returns : goal.returns
returns c =
    let hidden = c.args.own.now ++ words_of c.args.before.now in
    let rest = c.args.rest.now in
    let above = c.in_ok-above.above.items in
    let w = c.args.word.now in
    let k = c.in-Some.place in
    if_yes c.free_behind.result (IsFree above (take (length rest - k) (drop k rest)) w c.args.decision) (IsFree hidden rest w c.args.decision)
    (λ free. free-behind hidden above rest w c.args.decision k c.in-Some.ensures.passed c.in_ok-above.ensures
    (subst (λ (es : List Entry). IsFree above es w c.args.decision) (take_rest rest k) free))
    c.free_behind.ensures
