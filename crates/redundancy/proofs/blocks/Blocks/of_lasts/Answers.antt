use Rattle.std.proofs.Common.{[], refl, map}
use Rattle.redundancy_laws.specs.Built.{row_at}
use Rattle.redundancy.proofs.Gathering.{list_kept, listed_grows}
use Rattle.redundancy.proofs.blocks.Blocks.of_lasts.Goals as goal

pub known-requires-clause-lists : goal.known-requires-clause-lists
known-requires-clause-lists c = (c.in_ok-list.ensures c.args.self.now c.requires.lists).lists

pub returns-clause-lists : goal.returns-clause-lists
returns-clause-lists c =
    let rows = map (row_at []) c.args.entries.now in
    let listed = c.in_ok-list.ensures c.args.self.now c.requires.lists in
    list_kept c.args.sets.now c.args.sets.now c.lasts-2.new.sets c.args.self.now c.args.self.now c.lasts-2.new.self c.args.lists.now c.lasts.new.self c.keep_list.new.self [] rows rows c.in_ok-list.list c.in_ok-number.number
    (listed_grows c.args.self.now c.args.lists.now c.lasts.new.self rows c.in_ok-list.list listed) listed.within listed.rows_are c.in_ok-number.ensures refl c.keep_list.ensures
