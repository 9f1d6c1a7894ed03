use Rattle.agreement_check.specs.Views.{sides_in}
use Rattle.agreement_proof.specs.Texts.{PutsPairs, reaching}
use Rattle.agreement_proof.proofs.pairs.put_pairs.Given as goal

abbrev pub invariant-loop-entry : goal.invariant-loop-entry
invariant-loop-entry l =
    PutsPairs (sides_in l.sides) (reaching l.reaches.entries.items l.reaches.rules.items) (record { rule = 0; entry = l.entry }) l.initial.text.items l.text.items l.count
