use Rattle.std.proofs.Common.{◌≡◌, ℕ, List, ◌∙◌}
use Rattle.std.specs.HashMap.{get}
use Rattle.field_boxes.specs.Headline.Fields.{AreValues}
use Rattle.node_store.specs.Diagram.{answer}
use Rattle.node_store.proofs.Canonical.{in_use}
use Rattle.node_store.proofs.Growth.{twice}
use Rattle.node_store.proofs.Orders.{order_level}
use Rattle.redundancy.specs.Blocks.{cover_at, rows_of}
use Rattle.redundancy.specs.Remembered.{same_asked}
use Rattle.redundancy.proofs.BlockRows.{blocks_stay}
use Rattle.redundancy.proofs.Removals.{memo_stays}
use Rattle.redundancy.proofs.WholeFlags.{flags_of_pair}
use Rattle.redundancy.proofs.entry_table.flags_by.Goals as goal

pub none-requires : goal.none-requires
none-requires c = order_level c.args.order.now c.requires.order

pub sift-requires-clause-blocks : goal.sift-requires-clause-blocks
sift-requires-clause-blocks c = blocks_stay c.args.sets.now c.none.new.self c.args.blocks.now.blocks.items c.args.blocks.now.covers.items c.in_ok-none.ensures.grows c.requires.blocks

pub sift-requires-clause-memo : goal.sift-requires-clause-memo
sift-requires-clause-memo c = memo_stays c.args.sets.now c.none.new.self c.args.blocks.now (λ q. get same_asked c.args.memo.now.done q) c.in_ok-none.ensures.grows c.requires.memo

pub returns-clause-flags : goal.returns-clause-flags
returns-clause-flags c =
    let order = c.args.order.now in
    let blocks = c.args.blocks.now in
    let block = c.args.block in
    let none = c.in_ok-none.none in
    let nothing : (values : List ℕ) → AreValues order values → answer c.sift.new.sets none.0 values ≡ 0 = λ values are.
    c.in_ok-sifted.ensures.grows.answers none.0 values (in_use c.none.new.self none.0 order (order_level order c.requires.order) c.in_ok-none.ensures.level) ∙ c.in_ok-none.ensures.empty values are in
    flags_of_pair c.sift.new.sets order (cover_at blocks.covers.items block).level.now (rows_of blocks.blocks.items block) (record { after = none; met = none }) c.in_ok-sifted.sifted
    c.requires.level nothing nothing c.in_ok-sifted.ensures.sifted

pub returns-clause-grows : goal.returns-clause-grows
returns-clause-grows c = twice c.args.sets.now c.none.new.self c.sift.new.sets c.in_ok-none.ensures.grows c.in_ok-sifted.ensures.grows
