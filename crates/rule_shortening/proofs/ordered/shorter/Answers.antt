use Rattle.std.proofs.Common.{arith, length, ◌<◌}
use Rattle.std.proofs.lemmas.List.{length-map}
use Rattle.ternary_words.specs.Views.{entry_of, table_of}
use Rattle.rule_shortening.proofs.Shorter.{composed_in, searched_in}
use Rattle.rule_shortening.proofs.ordered.shorter.Goals as goal

pub returns-then-len-clause-table : goal.returns-then-len-clause-table
returns-then-len-clause-table c = λ order rules limit width short compiled.
    let t = c.args.searched in
    let u = c.args.composed in
    searched_in c.one_least_cost.ensures order rules limit width (table_of t) (table_of u) short compiled
    (omega (arith, c.if-len.true, c.len.ensures, c.len-2.ensures, t.entries.ok.0, u.entries.ok.0, length-map t.entries.items (entry_of t.names), length-map u.entries.items (entry_of u.names)))

pub returns-else-len-clause-table : goal.returns-else-len-clause-table
returns-else-len-clause-table c = λ order rules limit width short compiled.
    let t = c.args.searched in
    let u = c.args.composed in
    let less : length (table_of u).entries < length (table_of t).entries =
    omega (arith, c.if-len.false, c.len.ensures, c.len-2.ensures, t.entries.ok.0, u.entries.ok.0, length-map t.entries.items (entry_of t.names), length-map u.entries.items (entry_of u.names)) in
    let few = short.few in
    let within = short.within in
    composed_in c.one_least_cost.ensures order rules limit width (table_of u) (table_of c.counted.result) compiled (rw (length-map u.entries.items (entry_of u.names)) c.counted.ensures.table) (omega (arith, less, few)) (omega (arith, less, within))
