use Rattle.std.proofs.Common.{arith, refl, ◌∙◌}
use Rattle.rule_shortening.proofs.shortening.shorten.Goals as goal

pub returns-then-len-limit-clause-table : goal.returns-then-len-limit-clause-table
returns-then-len-limit-clause-table c =
    let names = c.args.names.now in
    let rules = c.args.rules.now in
    let short = rw c.in-Some.is at c.in_ok-entries.ensures in
    let are = c.decided_words_are_entries.ensures names rules short.for_rules.all short.for_rules.spelled c.requires.numbered in
    let fewer = short.for_rules.fewer in
    let many = are.many in
    (c.entry_count-needed.ensures ∙ c.names_count_alike.ensures names rules, refl, omega (arith, c.if-len-limit.true, c.len.ensures, c.in-Some.entries.ok.0, fewer, many, c.entry_count-needed.ensures))
