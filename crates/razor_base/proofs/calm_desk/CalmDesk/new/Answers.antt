use Rattle.std.proofs.Common.{true, arith}
use Rattle.std.proofs.lemmas.Map.Text.{text_keys}
use Rattle.std.specs.BTreeMap.{get_by_text}
use Rattle.razor_base.proofs.Told.{none_told}
use Rattle.razor_base.proofs.calm_desk.CalmDesk.new.Goals as goal

pub invariant_of-result : goal.invariant_of-result
invariant_of-result c = record { told = none_told true (get_by_text c.new.result) c.new-2.result.reads (λ name. grind (arith, text_keys)) c.new-2.ensures }
