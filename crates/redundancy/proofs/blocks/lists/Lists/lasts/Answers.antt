use Rattle.std.proofs.Common.{◌∷◌, [], List, Some, sym, subst, map, take}
use Rattle.std.proofs.lemmas.List.{take_all}
use Rattle.redundancy_laws.specs.Built.{row_at}
use Rattle.redundancy_laws.specs.Rows.{Row, last_row}
use Rattle.redundancy.specs.Lists.{IsListed}
use Rattle.redundancy.proofs.Gathering.{listed_then, map_next}
use Rattle.redundancy.proofs.ListRows.{none_listed}
use Rattle.redundancy.proofs.blocks.lists.Lists.lasts.Goals as goal

pub loop-entry-init : goal.loop-entry-init
loop-entry-init c = λ blocks lists. none_listed blocks c.args.self.now lists

pub loop-entry-preserved : goal.loop-entry-preserved
loop-entry-preserved c = λ blocks lists.
    let l = c.loop-entry in
    let so_far = l.invariant blocks lists in
    let listed = c.in_ok-place.ensures blocks so_far.lists so_far.within tt in
    subst (λ (rows : List Row). IsListed blocks c.args.self.now c.with.new.self rows (Some c.in_ok-place.place))
    (sym (map_next (row_at []) c.args.entries.now l.entry-index c.entry-item.result (last_row c.decision_of.result) c.loop-entry-test.true c.entry-item.is c.decision_of.ensures))
    (listed_then blocks c.args.self.now l.self c.with.new.self (map (row_at []) (take l.entry-index c.args.entries.now)) (last_row c.decision_of.result ∷ []) l.list (Some c.in_ok-place.place) so_far listed)

pub returns : goal.returns
returns c = λ blocks lists.
    subst (λ es. IsListed blocks c.args.self.now c.loop-entry.self (map (row_at []) es) c.loop-entry.list) (take_all c.loop-entry.entry-index c.args.entries.now c.loop-entry-test.false) (c.loop-entry.invariant blocks lists)
