use Rattle.node_store.proofs.Canonical.{is_level}
use Rattle.redundancy.proofs.Numbers.{always_stays}
use Rattle.redundancy.proofs.BlockRows.{laid_start, laid_step}
use Rattle.redundancy.proofs.blocks.Blocks.layers.Goals as goal

pub loop-rest-init : goal.loop-rest-init
loop-rest-init c = record {
  laid = laid_start c.args.sets.now c.none.new.self c.args.self.now c.args.level.now c.args.runs.now c.new-numbers.result.items c.new-numbers.ensures.items c.in_ok-none.ensures.grows c.requires.blocks c.requires.runs c.requires.some;
  none = record { level = c.in_ok-none.ensures.level; answers = c.in_ok-none.ensures.empty };
}

pub loop-rest-preserved : goal.loop-rest-preserved
loop-rest-preserved c =
    let i = c.loop-rest.invariant in
    record {
      laid = laid_step c.args.sets.now c.loop-rest.sets c.layer.new.sets c.args.self.now c.loop-rest.self c.layer.new.self c.args.level.now c.layer_len.result c.in_ok-number.number c.args.runs.now c.loop-rest.rest.now
          c.split_at.result.0.now c.split_at.result.1.now c.loop-rest.numbers.items c.push.new.self.items i.laid c.split_at.ensures.front c.split_at.ensures.back c.in_ok-number.ensures c.in_ok-push.ensures.items;
      none = always_stays c.loop-rest.sets c.layer.new.sets 0 c.in_ok-none.none.0 c.args.level.now (is_level c.args.level.now c.requires.level) c.in_ok-number.ensures.grows i.none;
    }
