use Rattle.fdd_build.specs.Overlay.{shown}
use Rattle.fdd_build.proofs.Zeros.{all_zeros}
use Rattle.fdd_build.proofs.laying.Laying.lay.Goals as goal

pub apply-requires-clause-suits : goal.apply-requires-clause-suits
apply-requires-clause-suits c = all_zeros c.args.store.now c.args.level.now c.args.self.now.nothing.items c.requires.level c.requires.nothing

pub apply-requires-clause-results : goal.apply-requires-clause-results
apply-requires-clause-results c = c.new-results.ensures (shown c.args.self.now.overlay) c.args.store.now
