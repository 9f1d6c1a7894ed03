use Rattle.std.proofs.Common.{ℕ, List}
use Rattle.agreement_check.specs.Views.{sides_in}
use Rattle.agreement_proof.specs.Texts.{PutsPairs, reaching}
use Rattle.agreement_proof.proofs.pairs.put_pairs_of.Given as goal

abbrev pub invariant-loop-rule : goal.invariant-loop-rule
invariant-loop-rule l =
    (first : List ℕ) → PutsPairs (sides_in l.sides) (reaching l.reaches.entries.items l.reaches.rules.items) (record { rule = 0; entry = l.entry }) first l.initial.text.items l.before →
    PutsPairs (sides_in l.sides) (reaching l.reaches.entries.items l.reaches.rules.items) (record { rule = l.rule; entry = l.entry }) first l.text.items l.count
