use Rattle.std.proofs.Common.{◌++◌, drop}
use Rattle.std.proofs.lemmas.Bool.{OnTrue_at}
use Rattle.field_boxes.specs.Alike.{AreAlike}
use Rattle.ternary_words.specs.Entries.{answer}
use Rattle.table_steps.specs.Free.{words_of}
use Rattle.table_steps.specs.Exchange.{LeaveRest}
use Rattle.table_steps.proofs.Outcomes.{if_yes}
use Rattle.table_steps.proofs.Exchanged.{exchanged}
use Rattle.table_steps.proofs.exchange.can_exchange.Goals as goal

pub returns : goal.returns
returns c =
    let table = c.args.table.now in
    let new = c.args.new.now in
    let count = c.args.count in
    if_yes c.leave_rest.result (LeaveRest (words_of new) table count) (AreAlike (answer (new ++ drop count table)) (answer table))
    (exchanged table new count (OnTrue_at c.if-not-branch.false c.in_ok-answer_as.ensures)) c.leave_rest.ensures
