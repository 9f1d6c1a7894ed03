use Rattle.std.proofs.Common.{refl, sym, subst, rules}
use Rattle.node_store.specs.Levels.{IsLevel}
use Rattle.node_store.proofs.Canonical.{within}
use Rattle.node_store.proofs.store.Store.answer.Goals as goal

pub loop-value-init : goal.loop-value-init
loop-value-init c = record { number = within c.args.self.now c.args.id.0 (subst IsLevel (sym c.requires) (search rules)); level = c.requires; same = refl }
