use Rattle.std.proofs.Common.{◌∙◌, ◌/◌, ap, sym, subst, rules, arith, length, drop, List}
use Rattle.field_boxes.specs.declared.rule.Rule as code
use Rattle.node_store.specs.Diagram.{answer}
use Rattle.node_store.proofs.Canonical.{in_use}
use Rattle.node_store.proofs.Growth.{level_kept, twice}
use Rattle.fdd_build.specs.Lasting.{zeros_last}
use Rattle.rule_audit.specs.Labels.{joined, labelled}
use Rattle.rule_audit.specs.Parts.{IsPart}
use Rattle.rule_audit.proofs.Joining as halves
use Rattle.rule_audit.proofs.Joining.{closed}
use Rattle.rule_audit.proofs.PartsShown.{part_size, part_stays}
use Rattle.node_store.proofs.Stated.{is_level}
use Rattle.rule_audit.proofs.label_diagram.+halved.Goals as goal

pub returns-then-not-has_open-clause-answers : goal.returns-then-not-has_open-clause-answers
returns-then-not-has_open-clause-answers t c = λ values h.
    let whole = subst (IsPart c.args.store.now c.args.rules.now) c.in-Halves.is c.requires.part in
    whole.0.answers values h ∙ sym (closed c.args.labels.now.first c.args.labels.now.left_open.now values c.args.from c.args.rules.now (search rules))

pub halved-requires : goal.halved-requires
halved-requires t c =
    let all = c.args.rules.now in
    let front = c.split_at.result.0.now in
    let e = c.split_at.ensures in
    let whole = subst (IsPart c.args.store.now all) c.in-Halves.is c.requires.part in
    let part = subst (IsPart c.args.store.now front) (sym c.deref.ensures) (subst (λ (rs : List code.Rule). IsPart c.args.store.now rs c.in-Halves.first.value) (sym e.front) whole.1) in
    let rest = halves.first_half all front c.split_at.result.1.now (length all / 2) e.front e.back c.args.labels.now.first c.args.labels.now.rules.now c.args.from c.requires.stand c.requires.decide c.requires.below in
    let same = ap part_size c.deref.ensures in
    (omega (arith, c.decreases, ap part_size c.in-Halves.is, same), (c.requires.zeros, (part, (omega (arith, c.requires.within, e.front_len), rest))))

pub halved-requires-in-Halves : goal.halved-requires-in-Halves
halved-requires-in-Halves t c =
    let all = c.args.rules.now in
    let back = c.split_at.result.1.now in
    let e = c.split_at.ensures in
    let m = length all / 2 in
    let old = c.args.store.now in
    let new = c.halved.new.store in
    let grows = c.in_ok-upper-in-Halves.ensures.grows in
    let whole = subst (IsPart old all) c.in-Halves.is c.requires.part in
    let nothing = zeros_last old new c.args.labels.now.overlay.zeros.items grows c.requires.zeros in
    let part = subst (IsPart new back) (sym c.deref-in-Halves.ensures)
    (subst (λ (rs : List code.Rule). IsPart new rs c.in-Halves.second.value) (sym e.back) (part_stays old new (drop m all) c.in-Halves.second.value grows whole.2)) in
    let rest = halves.second_half all c.split_at.result.0.now back m e.front e.back c.args.labels.now.first c.args.labels.now.rules.now c.args.from c.requires.stand c.requires.decide c.requires.below in
    let same = ap part_size c.deref-in-Halves.ensures in
    (omega (arith, c.decreases, ap part_size c.in-Halves.is, same), (nothing, (part, (omega (arith, c.requires.within, e.front_len, e.back_len), rest))))

pub lay-requires-clause-zeros : goal.lay-requires-clause-zeros
lay-requires-clause-zeros t c =
    let old = c.args.store.now in
    let mid = c.halved.new.store in
    let new = c.halved-in-Halves.new.store in
    zeros_last old new c.args.labels.now.overlay.zeros.items (twice old mid new c.in_ok-upper-in-Halves.ensures.grows c.in_ok-lower-in-Halves.ensures.grows) c.requires.zeros

pub lay-requires-clause-upper : goal.lay-requires-clause-upper
lay-requires-clause-upper t c =
    let mid = c.halved.new.store in
    let upper = c.in_ok-upper-in-Halves in
    level_kept mid c.halved-in-Halves.new.store upper.upper.0 c.in_ok-lower-in-Halves.ensures.grows (in_use mid upper.upper.0 _ (is_level 0) upper.ensures.level) ∙ upper.ensures.level

pub returns-in_ok-id-in-Halves-clause-answers : goal.returns-in_ok-id-in-Halves-clause-answers
returns-in_ok-id-in-Halves-clause-answers t c = λ values h.
    let mid = c.halved.new.store in
    let upper = c.in_ok-upper-in-Halves in
    let lower = c.in_ok-lower-in-Halves in
    let all = c.args.labels.now.rules.now in
    let first = c.args.labels.now.first in
    let left_open = c.args.labels.now.left_open.now in
    let from = c.args.from in
    let rules = c.args.rules.now in
    let front = c.split_at.result.0.now in
    let back = c.split_at.result.1.now in
    let e = c.split_at.ensures in
    c.in_ok-id-in-Halves.ensures.answers values h
    ∙ ap (λ n. joined first all n (answer c.halved-in-Halves.new.store lower.lower.0 values))
    (lower.ensures.grows.answers upper.upper.0 values (in_use mid upper.upper.0 _ (is_level 0) upper.ensures.level) ∙ upper.ensures.answers values h)
    ∙ ap (λ n. joined first all (labelled first left_open from front values) n) (lower.ensures.answers values h)
    ∙ sym (halves.halves_joined rules front back (length rules / 2) e.front e.back first all from c.requires.stand c.requires.decide c.requires.below left_open values)
