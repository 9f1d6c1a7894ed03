use Rattle.std.proofs.Common.{[], ◌∷◌, List, ap, sym, subst, ◌∙◌, ◌+◌, length, map, take}
use Rattle.std.proofs.lemmas.List.{length-append, take_all}
use Rattle.redundancy_laws.specs.Built.{row_at}
use Rattle.redundancy_laws.specs.Rows.{Row, last_row}
use Rattle.redundancy.specs.Blocks.{AreBuilt}
use Rattle.redundancy.proofs.Gathering.{lasts_step, map_next, none_built}
use Rattle.redundancy.proofs.blocks.Blocks.each_last.Goals as goal

pub loop-entry-init : goal.loop-entry-init
loop-entry-init c = record {
  built = subst (AreBuilt c.args.sets.now c.args.sets.now c.args.self.now c.args.self.now [] []) (sym c.new-numbers.ensures.items) (none_built c.args.sets.now c.args.self.now [] c.requires.blocks);
  count = ap length c.new-numbers.ensures.items;
}

pub loop-entry-preserved : goal.loop-entry-preserved
loop-entry-preserved c =
    let l = c.loop-entry in
    let row = last_row c.decision_of.result in
    let count = l.invariant.count in
    record {
      built = subst (λ (rows : List Row). AreBuilt c.args.sets.now c.args.sets.now c.args.self.now c.last.new.self [] rows c.push.new.self.items)
          (sym (map_next (row_at []) c.args.entries.now l.entry-index c.entry-item.result row c.loop-entry-test.true c.entry-item.is c.decision_of.ensures))
          (lasts_step c.args.sets.now c.args.self.now l.self c.last.new.self (map (row_at []) (take l.entry-index c.args.entries.now)) row l.numbers.items c.push.new.self.items c.in_ok-number.number l.invariant.built c.in_ok-number.ensures c.in_ok-push.ensures.items);
      count = ap length c.in_ok-push.ensures.items ∙ length-append l.numbers.items (c.in_ok-number.number ∷ []) ∙ ap (λ n. n + 1) count;
    }

pub returns-clause-built : goal.returns-clause-built
returns-clause-built c =
    subst (λ es. AreBuilt c.args.sets.now c.args.sets.now c.args.self.now c.loop-entry.self [] (map (row_at []) es) c.loop-entry.numbers.items) (take_all c.loop-entry.entry-index c.args.entries.now c.loop-entry-test.false)
    c.loop-entry.invariant.built
