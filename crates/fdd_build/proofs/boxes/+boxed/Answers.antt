use Rattle.std.proofs.Common.{◌≡◌, ℕ, List, sym, subst}
use Rattle.std.specs.Prelude.{cond}
use Rattle.field_boxes.specs.Headline.Fields.{AreValues}
use Rattle.field_boxes.specs.Headline.Classifier.{matches}
use Rattle.node_store.specs.Diagram.{answer}
use Rattle.node_store.proofs.Values.{rest_is}
use Rattle.fdd_build.specs.Sets.{sets_seen, box_rule}
use Rattle.node_store.proofs.Canonical.{not_empty, is_next}
use Rattle.fdd_build.proofs.BoxAnswers.{rises, box_node}
use Rattle.fdd_build.proofs.Zeros.{second}
use Rattle.fdd_build.proofs.Stays as stays
use Rattle.fdd_build.proofs.boxes.+boxed.Goals as goal

pub forked-requires-clause-rise : goal.forked-requires-clause-rise
forked-requires-clause-rise t c =
    rises c.args.sets.now c.args.level.now c.from.result c.index-sets-from.result c.told-sets (not_empty c.args.level.now c.requires.level (sym c.if-is_empty.ensures)) c.from.ensures c.requires.inside

pub forked-requires-clause-outside : goal.forked-requires-clause-outside
forked-requires-clause-outside t c =
    let has = not_empty c.args.level.now c.requires.level (sym c.if-is_empty.ensures) in
    let out = second c.args.store.now c.args.level.now c.args.nothing.now (record { 0 = 0 }) has c.requires.nothing in
    (stays.nothing c.args.store.now c.boxed.new.store _ _ c.in_ok-inside.ensures.grows (is_next c.args.level.now has) out).level

pub returns-clause-answers : goal.returns-clause-answers
returns-clause-answers t c =
    let has = not_empty c.args.level.now c.requires.level (sym c.if-is_empty.ensures) in
    let out = second c.args.store.now c.args.level.now c.args.nothing.now (record { 0 = 0 }) has c.requires.nothing in
    box_node c.boxed.new.store c.forked.new.store c.args.sets.now c.args.level.now c.from.result c.in_ok-inside.inside.0 _ c.in_ok-id.id.0 c.args.decision c.index-sets-from.result
    c.told-sets has c.from.ensures
    (subst (λ k. (values : List ℕ) → AreValues k values → answer c.boxed.new.store c.in_ok-inside.inside.0 values ≡ cond (matches k values (box_rule (sets_seen c.args.sets.now))) c.args.decision 0)
    (rest_is c.args.level.now) c.in_ok-inside.ensures.answers)
    (stays.nothing c.args.store.now c.boxed.new.store _ _ c.in_ok-inside.ensures.grows (is_next c.args.level.now has) out) c.in_ok-id.ensures.answers
