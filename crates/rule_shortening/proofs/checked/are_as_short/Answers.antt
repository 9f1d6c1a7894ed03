use Rattle.std.proofs.Common.{arith}
use Rattle.rule_shortening.proofs.Outcomes.{if_seen}
use Rattle.rule_shortening.proofs.checked.are_as_short.Goals as goal

pub returns : goal.returns
returns c = if_seen c.answers_alike.result
    (λ alike. record {
      alike = alike;
      fewer = omega (arith, c.if-new-table.false);
      prefixes = λ all. c.are_prefixes.ensures.0 c.if-not-are_prefixes.false;
      numbered = λ all. c.if-not-are_numbered.ensures;
    })
    c.answers_alike.ensures
