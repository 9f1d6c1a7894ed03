use Rattle.std.proofs.Common.{List, ℕ, subst}
use Rattle.std.specs.Prelude.{IfOk, MatchResult, ◌≤◌}
use Rattle.field_boxes.specs.NamedRules.{named_rules}
use Rattle.ternary_words.specs.Views.{table_of}
use Rattle.table_compose.specs.Headline.LeastCost.{IsLeastCost}
use Rattle.rule_compilation.specs.Compiled.{IsCompiledIn, IsRefusedIn}
use Rattle.rule_compilation.proofs.compiling.compile.Goals as goal

pub returns-clause-table : goal.returns-clause-table
returns-clause-table c =
    let rules = named_rules c.args.names.now c.args.rules.now in
    subst
    (λ (order : List ℕ). MatchResult c.compile_in.result (λ table. IsCompiledIn order rules c.args.slot.bits (table_of table)) (λ e. IsRefusedIn order rules c.args.limit.count e))
    c.stated.ensures.fields c.compile_in.ensures.table

pub returns-clause-room : goal.returns-clause-room
returns-clause-room c =
    let rules = named_rules c.args.names.now c.args.rules.now in
    subst (λ (order : List ℕ). IfOk c.compile_in.result (λ table. (needed : ℕ) → IsLeastCost order rules needed → needed ≤ c.args.limit.count)) c.stated.ensures.fields c.compile_in.ensures.room
