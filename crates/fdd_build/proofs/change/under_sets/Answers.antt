use Rattle.std.proofs.Common.{◌∙◌, ap}
use Rattle.field_boxes.specs.Headline.Classifier.{matches}
use Rattle.node_store.specs.Diagram.{answer}
use Rattle.node_store.proofs.Canonical.{in_use}
use Rattle.fdd_build.specs.declared.overlay.Overlay.TheVariants.{Answer}
use Rattle.fdd_build.specs.Overlay.{shown}
use Rattle.fdd_build.specs.Sets.{sets_seen, box_rule}
use Rattle.fdd_build.proofs.Shown.{box_under}
use Rattle.node_store.proofs.Growth as growth
use Rattle.fdd_build.proofs.Stays as stays
use Rattle.fdd_build.proofs.change.under_sets.Goals as goal

pub returns-clause-answers : goal.returns-clause-answers
returns-clause-answers c = λ header h.
    let old = c.args.store.now in
    let mid = c.boxed.new.store in
    let above = c.args.above.0 in
    let grown = growth.twice old c.nothing_from.new.store mid c.in_ok-nothing.ensures.grows c.in_ok-added.ensures.grows in
    c.in_ok-id.ensures.answers header h
    ∙ ap (λ n. shown Answer n (answer mid c.in_ok-added.added.0 header)) (grown.answers above header (in_use old above _ c.requires.level c.requires.above))
    ∙ ap (λ n. shown Answer (answer old above header) n) (c.in_ok-added.ensures.answers header h)
    ∙ box_under c.args.decision (answer old above header) (matches c.args.level.now header (box_rule (sets_seen c.args.sets.now)))

pub lay-requires-clause-nothing : goal.lay-requires-clause-nothing
lay-requires-clause-nothing c =
    stays.all_nothing c.nothing_from.new.store c.boxed.new.store c.args.level.now c.in_ok-nothing.nothing.items c.in_ok-added.ensures.grows c.requires.level c.in_ok-nothing.ensures.nothing

pub lay-requires-clause-upper : goal.lay-requires-clause-upper
lay-requires-clause-upper c =
    let grown = growth.twice c.args.store.now c.nothing_from.new.store c.boxed.new.store c.in_ok-nothing.ensures.grows c.in_ok-added.ensures.grows in
    growth.level_kept c.args.store.now c.boxed.new.store c.args.above.0 grown (in_use c.args.store.now c.args.above.0 _ c.requires.level c.requires.above) ∙ c.requires.above
