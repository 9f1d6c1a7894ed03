use Rattle.agreement_check.specs.Claims.{rule_claim}
use Rattle.agreement_check.specs.Covers.{entries_named}
use Rattle.agreement_check.specs.Views.{sides_in}
use Rattle.agreement_proof.specs.Texts.{PutsCovers}
use Rattle.agreement_proof.proofs.claims.put_rules.Given as goal

abbrev pub invariant-loop-place : goal.invariant-loop-place
invariant-loop-place l = PutsCovers (sides_in l.sides) (rule_claim (sides_in l.sides)) 114 entries_named l.place l.initial.text.items l.text.items l.reaches.items
