use Rattle.std.proofs.Common.{◌∙◌, ◌≡◌, refl, sym, subst}
use Rattle.std.specs.Prelude.{true}
use Rattle.agreement_check.specs.declared.valid.Shown.{Shown}
use Rattle.agreement_check.specs.declared.valid.Shown.TheVariants.{Equal, Differ}
use Rattle.field_boxes.specs.Headline.FilterList.{FilterList}
use Rattle.ternary_words.specs.Headline.Table.{Table}
use Rattle.razor_core.specs.Commands.Check.{is_equal}
use Rattle.razor_core.specs.Commands.Prove.{IsProofOf, Proves}
use Rattle.razor_core.specs.Inputs.{list_input, table_input}
use Rattle.razor_core.specs.Outcome.{Outcome}
use Rattle.razor_core.proofs.Gave.{listed, tabled, two_gave}
use Rattle.razor_core.proofs.commands.prove.proofs_are_valid.Goals as goal

equal_by : (shown : Shown) → is_equal shown ≡ true → shown ≡ Equal
equal_by Equal is = refl
equal_by (Differ d) is = absurd cc

proof_by : (rules : FilterList) (entries : Table) (outcome : Outcome) (h : Proves rules entries outcome) → outcome.yes ≡ true → IsProofOf h.checks.list h.checks.table outcome.text Equal
proof_by rules entries outcome h agreed = subst (IsProofOf h.checks.list h.checks.table outcome.text) (equal_by h.shown (sym h.answers ∙ agreed)) h.proof

pub returns : goal.returns
returns c = λ before after line list table first second is known also.
    let h = two_gave is (list_input list) (table_input table) refl (listed list first) (tabled table second) known also in
    let gave = h.4 in (
      gave.outcome.text,
      gave.written,
      record {
        rules = h.0;
        entries = h.2;
        list_spelled = h.1;
        table_spelled = h.3;
        checks = gave.gives.checks;
        proof = proof_by h.0 h.2 gave.outcome gave.gives gave.yes;
      },
    )
