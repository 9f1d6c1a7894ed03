use Rattle.std.proofs.Common.{◌∙◌, ap}
use Rattle.std.specs.Prelude.{cond}
use Rattle.field_boxes.specs.Headline.Classifier.{matches}
use Rattle.node_store.specs.Diagram.{answer}
use Rattle.node_store.proofs.Canonical.{in_use}
use Rattle.fdd_build.specs.declared.overlay.Overlay.TheVariants.{Decision}
use Rattle.fdd_build.specs.Overlay.{shown}
use Rattle.fdd_build.specs.Sets.{sets_seen, box_rule}
use Rattle.fdd_build.proofs.Shown.{box_over}
use Rattle.node_store.proofs.Growth as growth
use Rattle.fdd_build.proofs.Stays as stays
use Rattle.fdd_build.proofs.change.over_sets.Goals as goal

pub returns-clause-answers : goal.returns-clause-answers
returns-clause-answers c = λ header h.
    let old = c.args.store.now in
    let mid = c.boxed.new.store in
    let below = c.args.below.0 in
    let grown = growth.twice old c.nothing_from.new.store mid c.in_ok-nothing.ensures.grows c.in_ok-inside.ensures.grows in
    let overlay = Decision c.args.decision in
    c.in_ok-id.ensures.answers header h
    ∙ ap (λ n. shown overlay n (answer mid below header)) (c.in_ok-inside.ensures.answers header h)
    ∙ ap (λ n. shown overlay (cond (matches c.args.level.now header (box_rule (sets_seen c.args.sets.now))) 1 0) n) (grown.answers below header (in_use old below _ c.requires.level c.requires.below))
    ∙ box_over c.args.decision (answer old below header) (matches c.args.level.now header (box_rule (sets_seen c.args.sets.now)))

pub lay-requires-clause-nothing : goal.lay-requires-clause-nothing
lay-requires-clause-nothing c =
    stays.all_nothing c.nothing_from.new.store c.boxed.new.store c.args.level.now c.in_ok-nothing.nothing.items c.in_ok-inside.ensures.grows c.requires.level c.in_ok-nothing.ensures.nothing

pub lay-requires-clause-lower : goal.lay-requires-clause-lower
lay-requires-clause-lower c =
    let grown = growth.twice c.args.store.now c.nothing_from.new.store c.boxed.new.store c.in_ok-nothing.ensures.grows c.in_ok-inside.ensures.grows in
    growth.level_kept c.args.store.now c.boxed.new.store c.args.below.0 grown (in_use c.args.store.now c.args.below.0 _ c.requires.level c.requires.below) ∙ c.requires.below
