use Rattle.std.proofs.Common.{refl, ◌∙◌, ◌/◌, ap, arith, drop, length, subst, sym, take}
use Rattle.node_store.specs.declared.edge.NodeId.{NodeId}
use Rattle.node_store.specs.Diagram.{level_of}
use Rattle.node_store.proofs.Growth as growth
use Rattle.fdd_build.specs.Lasting.{zeros_last}
use Rattle.rule_audit.specs.Parts.{IsPart, Shows}
use Rattle.rule_audit.proofs.Joining as halves
use Rattle.rule_audit.proofs.PartsShown.{part_stays, laid_shows, part_shows}
use Rattle.rule_audit.proofs.list_parts.+parted.Goals as goal

pub parted-requires : goal.parted-requires
parted-requires t c =
    let rules = c.args.rules.now in
    let decide = halves.decide_halves rules c.split_at.result.0.now c.split_at.result.1.now (length rules / 2) c.split_at.ensures.front c.split_at.ensures.back c.requires.decide in
    (omega (arith, c.decreases, c.if-rules-lt2.false, c.split_at.ensures.front_len), (c.requires.zeros, decide.0))

pub parted-requires-2 : goal.parted-requires-2
parted-requires-2 t c = (
  omega (arith, c.decreases, c.if-rules-lt2.false, c.split_at.ensures.back_len),
  (
    zeros_last c.args.store.now c.parted.new.store c.args.overlay.now.zeros.items c.in_ok-first.ensures.grows c.requires.zeros,
    (halves.decide_halves c.args.rules.now c.split_at.result.0.now c.split_at.result.1.now (length c.args.rules.now / 2) c.split_at.ensures.front c.split_at.ensures.back c.requires.decide).1,
  ),
)

pub lay-requires : goal.lay-requires
lay-requires t c =
    let second = c.parted-2.new.store in
    let rules = c.args.rules.now in
    let up = part_shows second c.split_at.result.0.now c.in_ok-first.first (part_stays c.parted.new.store second c.split_at.result.0.now c.in_ok-first.first c.in_ok-second.ensures.grows c.in_ok-first.ensures.part) in
    let low = part_shows second c.split_at.result.1.now c.in_ok-second.second c.in_ok-second.ensures.part in record {
      zeros = zeros_last c.args.store.now second c.args.overlay.now.zeros.items
          (growth.twice c.args.store.now c.parted.new.store second c.in_ok-first.ensures.grows c.in_ok-second.ensures.grows) c.requires.zeros;
      upper = ap (λ (i : NodeId). level_of second i.0) c.shown.ensures ∙ up.level;
      lower = ap (λ (i : NodeId). level_of second i.0) c.shown-2.ensures ∙ low.level;
    }

pub returns-clause-part : goal.returns-clause-part
returns-clause-part t c =
    let second = c.parted-2.new.store in
    let third = c.lay.new.store in
    let rules = c.args.rules.now in
    let n = length rules / 2 in
    let first_part = c.in_ok-first.first in
    let second_part = c.in_ok-second.second in
    let up = subst (λ rs. IsPart second rs first_part) c.split_at.ensures.front
    (part_stays c.parted.new.store second c.split_at.result.0.now first_part c.in_ok-second.ensures.grows c.in_ok-first.ensures.part) in
    let low = subst (λ rs. IsPart second rs second_part) c.split_at.ensures.back c.in_ok-second.ensures.part in
    c.halves.ensures third rules
    (laid_shows second third rules c.shown.result c.shown-2.result c.in_ok-shown-2.shown (halves.decide_halves rules (take n rules) (drop n rules) n refl refl c.requires.decide).0
    (subst (Shows second (take n rules)) (sym c.shown.ensures) (part_shows second (take n rules) first_part up))
    (subst (Shows second (drop n rules)) (sym c.shown-2.ensures) (part_shows second (drop n rules) second_part low))
    c.in_ok-shown-2.ensures.level c.in_ok-shown-2.ensures.answers)
    (part_stays second third (take n rules) first_part c.in_ok-shown-2.ensures.grows up)
    (part_stays second third (drop n rules) second_part c.in_ok-shown-2.ensures.grows low)
