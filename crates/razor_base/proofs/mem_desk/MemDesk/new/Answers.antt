use Rattle.std.proofs.Common.{false, arith}
use Rattle.std.proofs.lemmas.Map.Text.{text_keys}
use Rattle.std.specs.BTreeMap.{get_by_text}
use Rattle.razor_base.proofs.Told.{none_told}
use Rattle.razor_base.proofs.mem_desk.MemDesk.new.Goals as goal

pub invariant_of-result-clause-told : goal.invariant_of-result-clause-told
invariant_of-result-clause-told c = none_told false (get_by_text c.new.result) c.new-3.result.reads (λ name. grind (arith, text_keys)) c.new-3.ensures
