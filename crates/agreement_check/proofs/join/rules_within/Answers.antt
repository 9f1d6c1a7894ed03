use Rattle.std.proofs.Common.{ap, arith, slice_index}
use Rattle.agreement_check.proofs.Outcomes.{ok-map}
use Rattle.agreement_check.proofs.join.rules_within.Goals as goal

pub returns : goal.returns
returns c =
    ok-map c.within.result _ _ (λ some each p of m. each p.rule of.0
    (omega (arith, m.open_pair.rule_reached, c.most_at-most.ensures p.entry of.1, ap (λ xs. slice_index xs p.entry) c.deref.ensures.value))
    (omega (arith, m.open_pair.entry_reached, c.least_of.ensures p.entry of.1, ap (λ xs. slice_index xs p.rule) c.deref-2.ensures.value))) c.within.ensures
