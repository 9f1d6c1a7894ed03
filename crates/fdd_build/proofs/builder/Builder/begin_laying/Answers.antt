use Rattle.fdd_build.specs.Overlay.{shown}
use Rattle.fdd_build.proofs.builder.Builder.begin_laying.Goals as goal

pub returns-then-not-self : goal.returns-then-not-self
returns-then-not-self c = λ nodes order kept. record {
  overlay = kept.overlay;
  nothing = kept.nothing;
  results = c.clear.ensures (shown c.args.self.now.laying.overlay) nodes;
}
