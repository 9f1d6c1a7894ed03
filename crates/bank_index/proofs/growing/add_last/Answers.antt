use Rattle.std.proofs.lemmas.Result.{IfOk-weaker}
use Rattle.bank_index.proofs.Growth.{leaf_grown, whole_grown}
use Rattle.bank_index.proofs.growing.add_last.Goals as goal

pub returns-then-len-entries : goal.returns-then-len-entries
returns-then-len-entries c =
    IfOk-weaker c.add.result _ _
    (λ place added steps. whole_grown steps c.args.nodes.now.items c.add.new.nodes.items c.args.entries.now c.args.slots.items place added.0 added.1) c.add.ensures

pub returns-else-len-entries : goal.returns-else-len-entries
returns-else-len-entries c =
    IfOk-weaker c.add-else-len-entries.result _ _
    (λ place added steps. leaf_grown steps c.args.nodes.now.items c.add-else-len-entries.new.nodes.items c.args.entries.now c.args.slots place added.0 added.1) c.add-else-len-entries.ensures
