use Rattle.std.proofs.Common.{◌≡◌, [], ap, length, refl, rules, sym, ◌∙◌}
use Rattle.std.specs.Option.{unwrap_or}
use Rattle.node_store.specs.Diagram.{answer}
use Rattle.redundancy.proofs.Flagged.{leaf_kept, leaf_passed, word_there}
use Rattle.redundancy.proofs.diagrams.add_leaf.Goals as goal

pub returns-then-not-is_first_kept : goal.returns-then-not-is_first_kept
returns-then-not-is_first_kept c =
    let five : length c.args.prefixes.now ≡ 5 = search rules in
    let w = word_there c.args.prefixes.now five c.requires.fit in
    leaf_passed c.args.prefixes.now (record { prefixes = []; decision = answer c.args.store.now c.args.id.0 [] }) (record { word = w.0; decision = answer c.args.store.now c.args.id.0 [] }) c.args.entries.now.items c.args.flags.now
    (w.1, refl) (sym c.is_first_kept.ensures ∙ c.if-not-is_first_kept.true)

pub returns : goal.returns
returns c =
    let five : length c.args.prefixes.now ≡ 5 = search rules in
    leaf_kept c.args.prefixes.now (record { prefixes = []; decision = answer c.args.store.now c.args.id.0 [] }) (record { word = c.of.result; decision = c.unwrap_or.result }) c.args.entries.now.items c.push.new.self.items c.args.flags.now
    (record { five = five; fit = c.requires.fit; trits = c.of.ensures.trits; holds = c.of.ensures.boxes }, c.unwrap_or.ensures ∙ ap (λ o. unwrap_or o 0) c.decision.ensures.decision)
    (sym c.is_first_kept.ensures ∙ c.if-not-is_first_kept.false) c.in_ok-push.ensures.items
