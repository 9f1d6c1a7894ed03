use Rattle.std.proofs.Common.{ap, length, subst, sym}
use Rattle.rule_audit.specs.declared.search.around.Around.{Around}
use Rattle.rule_audit.specs.Parts.{Shows}
use Rattle.rule_audit.specs.Search.{StandBetween}
use Rattle.rule_audit.proofs.Between.{whole}
use Rattle.rule_audit.proofs.PartsShown.{part_shows}
use Rattle.rule_audit.proofs.search.searched.Goals as goal

pub part-requires-clause-between : goal.part-requires-clause-between
part-requires-clause-between c =
    let nodes = c.args.store.now in
    let rules = c.args.rules.now in
    let shown = subst (Shows nodes rules) (sym c.shown.ensures) (part_shows nodes rules c.args.part.now c.requires.part) in
    let around : Around = record { here = c.shown.result; before = c.new.result; behind = c.new-2.result } in
    subst (λ n. StandBetween nodes rules rules n around) (sym (ap length c.in_ok-states.ensures.items)) (whole nodes rules c.requires.decide around shown c.new.ensures.items c.new-2.ensures.items)
