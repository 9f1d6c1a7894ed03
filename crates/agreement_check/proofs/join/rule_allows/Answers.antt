use Rattle.std.proofs.Common.{subst, sym}
use Rattle.std.specs.Slice.{IsItemAt}
use Rattle.word_cover.specs.Cubes.{Allows, Cube}
use Rattle.agreement_check.proofs.Outcomes.{decided-no, got-item}
use Rattle.agreement_check.proofs.join.rule_allows.Goals as goal

pub returns-in-Some : goal.returns-in-Some
returns-in-Some c = λ items are.
    let words = c.args.words.now in
    let at = got-item words c.args.rule c.in-Some.word (subst (IsItemAt words c.args.rule) c.in-Some.is c.get.ensures.lookup) in
    decided-no c.allows.result _ _ c.allows.ensures (λ none allowed. none (subst (λ (x : Cube). Allows x c.args.bit c.args.one) (sym (are c.args.rule c.in-Some.word.now at)) allowed))
