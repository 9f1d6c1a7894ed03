use Rattle.std.proofs.Common.{◌∙◌, ap}
use Rattle.node_store.specs.Diagram.{answer}
use Rattle.fdd_build.specs.Overlay.{shown}
use Rattle.fdd_build.proofs.Stays as stays
use Rattle.fdd_build.proofs.Zeros.{all_zeros}
use Rattle.fdd_build.proofs.builder.Builder.lay.Goals as goal

pub apply-requires-clause-suits : goal.apply-requires-clause-suits
apply-requires-clause-suits c =
    let kept = c.begin_laying.ensures c.args.store.now c.args.order.now c.requires.builder in
    all_zeros c.args.store.now c.args.order.now c.begin_laying.new.self.laying.nothing.items c.requires.order kept.nothing

pub apply-requires-clause-results : goal.apply-requires-clause-results
apply-requires-clause-results c = (c.begin_laying.ensures c.args.store.now c.args.order.now c.requires.builder).results

pub returns-in_err-id-clause-builder : goal.returns-in_err-id-clause-builder
returns-in_err-id-clause-builder c =
    let kept = c.begin_laying.ensures c.args.store.now c.args.order.now c.requires.builder in record {
      overlay = kept.overlay;
      nothing = stays.all_nothing c.args.store.now c.apply.new.store c.args.order.now c.begin_laying.new.self.laying.nothing.items c.in_err-id.ensures.grows c.requires.order kept.nothing;
      results = c.in_err-id.ensures.results;
    }

pub returns-clause-builder : goal.returns-clause-builder
returns-clause-builder c =
    let kept = c.begin_laying.ensures c.args.store.now c.args.order.now c.requires.builder in record {
      overlay = kept.overlay;
      nothing = stays.all_nothing c.args.store.now c.apply.new.store c.args.order.now c.begin_laying.new.self.laying.nothing.items c.in_ok-id.ensures.grows c.requires.order kept.nothing;
      results = c.in_ok-id.ensures.results;
    }

pub returns-clause-answers : goal.returns-clause-answers
returns-clause-answers c = λ values h.
    let kept = c.begin_laying.ensures c.args.store.now c.args.order.now c.requires.builder in
    c.in_ok-id.ensures.answers values h ∙ ap (λ o. shown o (answer c.args.store.now c.args.upper.0 values) (answer c.args.store.now c.args.lower.0 values)) kept.overlay
