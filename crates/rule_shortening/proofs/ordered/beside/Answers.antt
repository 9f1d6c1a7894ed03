use Rattle.std.proofs.Common.{arith}
use Rattle.std.proofs.lemmas.List.{length-map}
use Rattle.ternary_words.specs.Views.{entry_of, table_of}
use Rattle.rule_shortening.proofs.Shorter.{composed_in}
use Rattle.rule_shortening.proofs.ordered.beside.Goals as goal

pub returns-in-Ok-clause-table : goal.returns-in-Ok-clause-table
returns-in-Ok-clause-table c = λ order rules width cost compiled found. c.shorter.ensures.table order rules c.args.limit width (rw c.in-Ok.is at found) compiled

pub returns-in-Ok-clause-names : goal.returns-in-Ok-clause-names
returns-in-Ok-clause-names c = λ names composed found. c.shorter.ensures.names names (rw c.in-Ok.is at found) composed

pub returns-in-TooMany-clause-table : goal.returns-in-TooMany-clause-table
returns-in-TooMany-clause-table c = λ order rules width cost compiled found.
    let refused = rw (c.in-Err.is, c.in-TooMany.is) at found in
    let few = compiled.few in
    composed_in c.one_least_cost.ensures order rules c.args.limit width (table_of c.args.composed) (table_of c.counted.result) compiled
    (rw (length-map c.args.composed.entries.items (entry_of c.args.composed.names)) c.counted.ensures.table)
    (omega (arith, few, cost)) (omega (arith, few, cost, refused.0, refused.1, refused.2))
