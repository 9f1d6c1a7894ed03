use Rattle.std.proofs.lemmas.Result.{IfOk-weaker}
use Rattle.table_compose.specs.Rows.{rows_at}
use Rattle.redundancy.specs.Blocks.{rows_of}
use Rattle.redundancy.proofs.Removals.{removal_sifted}
use Rattle.redundancy.proofs.NodeRows.{kept_by_rows}
use Rattle.redundancy.proofs.removal.Removal.flags.Goals as goal

pub returns-clause-kept : goal.returns-clause-kept
returns-clause-kept c =
    IfOk-weaker c.flags_by.result _ _
    (λ flags h entries zip. kept_by_rows c.args.store.now (rows_at c.args.plans.now.lists.items) c.args.order.now c.args.root.0 (rows_of c.block.new.self.blocks.blocks.items c.in_ok-block.block) flags.items entries
    c.same_answers.ensures.store c.requires.order c.requires.root c.requires.lists c.in_ok-block.ensures.rows h zip)
    c.flags_by.ensures.flags

pub returns-clause-removal : goal.returns-clause-removal
returns-clause-removal c =
    let r = c.in_ok-block.ensures.removal in
    removal_sifted c.args.store.now c.args.plans.now c.block.new.self.sets _ c.flags_by.result r.blocks r.known c.flags_by.ensures.grows c.flags_by.ensures.memo
