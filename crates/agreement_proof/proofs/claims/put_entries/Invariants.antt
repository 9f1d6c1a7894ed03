use Rattle.agreement_check.specs.Claims.{entry_claim}
use Rattle.agreement_check.specs.Covers.{rules_named}
use Rattle.agreement_check.specs.Views.{sides_in}
use Rattle.agreement_proof.specs.Texts.{PutsCovers}
use Rattle.agreement_proof.proofs.claims.put_entries.Given as goal

abbrev pub invariant-loop-place : goal.invariant-loop-place
invariant-loop-place l = PutsCovers (sides_in l.sides) (entry_claim (sides_in l.sides)) 101 rules_named l.place l.initial.text.items l.text.items l.reaches.items
