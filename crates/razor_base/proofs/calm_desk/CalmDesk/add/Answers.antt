use Rattle.std.proofs.Common.{◌≡◌, true, None, arith}
use Rattle.std.proofs.lemmas.Map.Text.{text_keys}
use Rattle.std.specs.BTreeMap.{get_by_text}
use Rattle.razor_base.proofs.Told.{no_reads, told_put}
use Rattle.razor_base.proofs.calm_desk.CalmDesk.add.Goals as goal

pub invariant_of-self : goal.invariant_of-self
invariant_of-self c =
    let desk = c.args.self.now in
    let none : get_by_text desk.inputs c.args.name.now ≡ None = grind (arith, text_keys) in
    record { told = told_put true desk.history.reads c.args.name.now c.args.bytes.now (get_by_text desk.inputs) (get_by_text c.put.new.inputs) desk.told c.put.ensures.others c.put.result c.put.ensures.ok c.put.ensures.err none (no_reads desk.history.reads c.args.name.now c.requires) }
