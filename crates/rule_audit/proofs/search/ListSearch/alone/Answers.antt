use Rattle.std.proofs.Common.{◌≡◌, arith, length, sym, subst}
use Rattle.std.proofs.lemmas.Bool.{eqb-false}
use Rattle.rule_audit.specs.Search.{AreTold}
use Rattle.rule_audit.proofs.Between.{told, told_more}
use Rattle.rule_audit.proofs.search.ListSearch.alone.Goals as goal

pub returns-clause-told : goal.returns-clause-told
returns-clause-told c =
    let nodes = c.args.self.now.store.now in
    let all = c.args.self.now.rules.now in
    let states = c.args.states.now.items in
    let state = c.in_ok-told.told in
    let one : length c.args.rules.now ≡ 1 = omega (arith, c.requires.few, eqb-false (length c.args.rules.now) 0 (sym c.if-is_empty.ensures)) in
    subst (AreTold all) (sym c.in_ok-push.ensures.items)
    (told_more all states state c.requires.told (told nodes all c.requires.decide c.args.rules.now (length states) c.args.around.now one c.requires.between state c.in_ok-told.ensures))
