use Rattle.std.proofs.Common.{◌∙◌, ◌≡◌, ap, inl, inr, refl, sym}
use Rattle.std.specs.Prelude.{false, true}
use Rattle.field_boxes.specs.Alike.{AreAlike, source_of}
use Rattle.field_boxes.specs.Headline.FilterList.{FilterList}
use Rattle.ternary_words.specs.Headline.Table.{Table, answer}
use Rattle.razor_core.specs.Commands.Verify.{Verifies}
use Rattle.razor_core.specs.Inputs.{list_input, table_input}
use Rattle.razor_core.specs.Outcome.{Outcome}
use Rattle.razor_core.proofs.Gave.{listed, tabled, two_gave}
use Rattle.razor_core.proofs.commands.verify.verified_tables_decide_alike.Goals as goal

alike_by : (rules : FilterList) (entries : Table) (outcome : Outcome) → Verifies rules entries outcome → outcome.yes ≡ true → AreAlike (source_of rules.rules) (answer entries.entries)
alike_by rules entries outcome (inl h) agreed = h.0
alike_by rules entries outcome (inr h) agreed = let same : false ≡ true = sym (ap (λ (o : Outcome). o.yes) h.2) ∙ agreed in absurd cc

pub returns : goal.returns
returns c = λ before after line list table first second is known also.
    let h = two_gave is (list_input list) (table_input table) refl (listed list first) (tabled table second) known also in
    let gave = h.4 in
    record { list = h.0; table = h.2; list_spelled = h.1; table_spelled = h.3; alike = alike_by h.0 h.2 gave.outcome gave.gives gave.yes }
