use Rattle.std.proofs.Common.{◌++◌, ◌-◌, drop, length, take}
use Rattle.field_boxes.specs.Alike.{AreAlike}
use Rattle.ternary_words.specs.Entries.{answer}
use Rattle.table_steps.proofs.Ends.{end-whole}
use Rattle.table_steps.proofs.Outcomes.{if_yes}
use Rattle.table_steps.proofs.tables.answers_alike.Goals as goal

pub returns : goal.returns
returns c =
    let table = c.args.table.now in
    let new = c.args.new.now in
    let common = c.common_end-common.result in
    if_yes c.can_exchange.result (AreAlike (answer (take (length new - common) new ++ drop (length table - common) table)) (answer table)) (AreAlike (answer new) (answer table))
    (end-whole table new common c.common_end-common.ensures) c.can_exchange.ensures
