use Rattle.std.proofs.Common.{ap, arith, slice_index}
use Rattle.agreement_check.proofs.Outcomes.{ok-map}
use Rattle.agreement_check.proofs.join.entries_within.Goals as goal

pub returns : goal.returns
returns c =
    ok-map c.within.result _ _ (λ some each p of m. each p.entry of.1
    (omega (arith, m.open_pair.entry_reached, c.most_at-most.ensures p.rule of.0, ap (λ xs. slice_index xs p.rule) c.deref.ensures.value))
    (omega (arith, m.open_pair.rule_reached, c.least_of.ensures p.rule of.0, ap (λ xs. slice_index xs p.entry) c.deref-2.ensures.value))) c.within.ensures
