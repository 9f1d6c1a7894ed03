use Rattle.std.proofs.Common.{refl}
use Rattle.fdd_build.specs.declared.overlay.Overlay.TheVariants.{Answer}
use Rattle.fdd_build.specs.Overlay.{shown}
use Rattle.fdd_build.proofs.builder.Builder.begun.Goals as goal

pub returns-clause-builder : goal.returns-clause-builder
returns-clause-builder c = record { overlay = refl; nothing = c.in_ok-nothing.ensures.nothing; results = c.new.ensures (shown Answer) c.nothing_from.new.store }
