use Rattle.std.proofs.Common.{◌∙◌, ◌/◌, ap, sym, arith, length, take, drop}
use Rattle.std.specs.Prelude.{cond, List, slice_index_or}
use Rattle.node_store.specs.declared.edge.NodeId.{NodeId}
use Rattle.std.specs.List.{list_any}
use Rattle.std.proofs.lemmas.List.{take-append-drop}
use Rattle.fdd_build.proofs.Zeros.{head}
use Rattle.node_store.specs.Diagram.{answer}
use Rattle.node_store.proofs.Canonical.{in_use}
use Rattle.fdd_build.specs.declared.overlay.Overlay.TheVariants.{Answer}
use Rattle.fdd_build.specs.Overlay.{shown}
use Rattle.fdd_build.specs.Rules.{decided, hides}
use Rattle.fdd_build.proofs.Joined.{joined, decides_none}
use Rattle.node_store.proofs.Growth as growth
use Rattle.fdd_build.proofs.Stays as stays
use Rattle.fdd_build.proofs.halving.+halves.Goals as goal

pub halved-lay-requires-clause-builder : goal.halved-lay-requires-clause-builder
halved-lay-requires-clause-builder t c =
    stays.builder c.half-in_default.new.store c.hidden.new.store c.args.order.now c.half-in_default.new.builder c.in_ok-lower-in_default-2.ensures.grows c.requires.order
    c.in_ok-lower-in_default.ensures.builder

pub halved-lay-requires-clause-upper : goal.halved-lay-requires-clause-upper
halved-lay-requires-clause-upper t c =
    let first = c.half.new.store in
    let upper = c.in_ok-upper-in_default in
    let later = growth.twice first c.half-in_default.new.store c.hidden.new.store c.in_ok-lower-in_default.ensures.grows c.in_ok-lower-in_default-2.ensures.grows in
    growth.level_kept first c.hidden.new.store upper.upper.0 later (in_use first upper.upper.0 _ c.requires.order upper.ensures.level) ∙ upper.ensures.level

pub halved-returns-in-empty-clause-answers : goal.halved-returns-in-empty-clause-answers
halved-returns-in-empty-clause-answers t c = λ header h.
    ap (λ (ids : List NodeId). answer c.args.store.now (slice_index_or ids 0 (record { 0 = 0 })).0 header) c.as_slice-nothing.ensures
    ∙ (head c.args.store.now c.args.order.now c.args.builder.now.laying.nothing.items (record { 0 = 0 }) c.requires.builder.nothing).zero header h
    ∙ sym (decides_none c.args.order.now header c.args.rules.now (omega (arith, c.in-empty.len_below)))

pub halved-returns-in_ok-id-in_default-clause-answers : goal.halved-returns-in_ok-id-in_default-clause-answers
halved-returns-in_ok-id-in_default-clause-answers t c = λ header h.
    let first = c.half.new.store in
    let second = c.half-in_default.new.store in
    let third = c.hidden.new.store in
    let upper = c.in_ok-upper-in_default in
    let lower = c.in_ok-lower-in_default in
    let shown_lower = c.in_ok-lower-in_default-2 in
    let rules = c.args.rules.now in
    let front = take (length rules / 2) rules in
    let back = drop (length rules / 2) rules in
    let later = growth.twice first second third lower.ensures.grows shown_lower.ensures.grows in
    c.in_ok-id-in_default.ensures.answers header h
    ∙ ap (λ n. shown Answer n (answer third shown_lower.lower.0 header))
    (later.answers upper.upper.0 header (in_use first upper.upper.0 _ c.requires.order upper.ensures.level) ∙ upper.ensures.answers header h ∙ ap (λ rs. decided c.args.order.now rs header) c.split_at.ensures.front)
    ∙ ap (λ n. shown Answer (decided c.args.order.now front header) n)
    (shown_lower.ensures.answers header h
    ∙ ap (λ rs. cond (list_any (λ r. hides c.args.order.now r header) rs) 0 (answer second lower.lower.0 header)) c.split_at.ensures.front
    ∙ ap (λ n. cond (list_any (λ r. hides c.args.order.now r header) front) 0 n) (lower.ensures.answers header h ∙ ap (λ rs. decided c.args.order.now rs header) c.split_at.ensures.back))
    ∙ sym (joined c.args.order.now header front back)
    ∙ ap (λ rs. decided c.args.order.now rs header) (take-append-drop (length rules / 2) rules)

pub halved-half-requires-in_default : goal.halved-half-requires-in_default
halved-half-requires-in_default t c =
    (omega (arith, c.decreases, c.in_default.len_at_least, ap length c.split_at.ensures.back, c.split_at.ensures.back_len), (c.requires.order, c.in_ok-upper-in_default.ensures.builder))

pub halved-returns-in_err-lower-in_default-2-clause-builder : goal.halved-returns-in_err-lower-in_default-2-clause-builder
halved-returns-in_err-lower-in_default-2-clause-builder t c =
    stays.builder c.half-in_default.new.store c.hidden.new.store c.args.order.now c.half-in_default.new.builder c.in_err-lower-in_default-2.ensures.grows c.requires.order
    c.in_ok-lower-in_default.ensures.builder

pub halved-returns-in-len1-clause-builder : goal.halved-returns-in-len1-clause-builder
halved-returns-in-len1-clause-builder t c = stays.builder c.args.store.now c.one_rule.new.store c.args.order.now c.args.builder.now c.one_rule.ensures.grows c.requires.order c.requires.builder

pub build-returns-in_err-id-clause-grows : goal.build-returns-in_err-id-clause-grows
build-returns-in_err-id-clause-grows t c = growth.twice c.args.store.now c.once.new.store c.halved.new.store c.in_ok-builder.ensures.grows c.in_err-id.ensures.grows

pub build-returns-clause-grows : goal.build-returns-clause-grows
build-returns-clause-grows t c = growth.twice c.args.store.now c.once.new.store c.halved.new.store c.in_ok-builder.ensures.grows c.in_ok-id.ensures.grows

pub half-returns-in_err-id-clause-builder : goal.half-returns-in_err-id-clause-builder
half-returns-in_err-id-clause-builder t c = stays.builder c.args.store.now c.copied.new.store c.args.order.now c.args.builder.now c.in_err-id.ensures.grows c.requires.order c.requires.builder

pub half-returns-clause-builder : goal.half-returns-clause-builder
half-returns-clause-builder t c = stays.builder c.args.store.now c.copied.new.store c.args.order.now c.args.builder.now c.in_ok-id.ensures.grows c.requires.order c.requires.builder
