use Rattle.std.proofs.Common.{arith}
use Rattle.rule_shortening.proofs.Named.{short_table}
use Rattle.rule_shortening.proofs.shortening.table_for.Goals as goal

pub returns-clause-table : goal.returns-clause-table
returns-clause-table c =
    let names = c.args.names.now in
    let rules = c.args.rules.now in
    let entries = c.args.entries.items in
    let short = c.requires.entries in
    rw c.in_ok-copy.ensures
    (short_table names rules entries short (c.decided_words_are_entries.ensures names rules short.for_rules.all short.for_rules.spelled c.requires.numbered) c.args.slot.bits c.len.result (omega (arith, c.len.ensures, c.args.entries.ok.0))
    c.are_names.ensures.distinct c.expansion_answers.ensures)
