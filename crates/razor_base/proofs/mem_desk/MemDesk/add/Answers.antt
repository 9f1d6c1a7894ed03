use Rattle.std.proofs.Common.{◌≡◌, false, None, arith}
use Rattle.std.proofs.lemmas.Map.Text.{text_keys}
use Rattle.std.specs.BTreeMap.{get_by_text}
use Rattle.razor_base.proofs.Told.{no_end, told_put}
use Rattle.razor_base.proofs.mem_desk.MemDesk.add.Goals as goal

pub invariant_of-self-clause-told : goal.invariant_of-self-clause-told
invariant_of-self-clause-told c =
    let desk = c.args.self.now in
    let none : get_by_text desk.inputs c.args.name.now ≡ None = grind (arith, text_keys) in
    told_put false desk.history.reads c.args.name.now c.args.bytes.now (get_by_text desk.inputs) (get_by_text c.put.new.inputs) desk.told c.put.ensures.others c.put.result c.put.ensures.ok c.put.ensures.err none (no_end (get_by_text desk.inputs) desk.history.reads c.args.name.now desk.told none)
