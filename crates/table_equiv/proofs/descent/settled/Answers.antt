use Rattle.std.proofs.Common.{sym, ◌∙◌}
use Rattle.std.proofs.lemmas.Bool.{false≢true}
use Rattle.agreement_check.specs.Views.{sides_in}
use Rattle.table_equiv.proofs.Searched.{agree-decided, decided-alike, agree-searched, found-searched}
use Rattle.table_equiv.proofs.descent.settled.Goals as goal

pub returns-then-decide_alike : goal.returns-then-decide_alike
returns-then-decide_alike c =
    let s = c.args.sides.now in
    agree-searched s.list.now s.table.now c.args.word.now c.args.best
    (λ header at. agree-decided c.first_match_answers.ensures (sides_in s) header c.args.pair.now (c.requires.rule header at) (c.requires.entry header at) (c.decide_alike.ensures.0 c.if-decide_alike.true))
    c.requires.apart

pub returns : goal.returns
returns c =
    let s = c.args.sides.now in
    let h = c.least.result in
    let at = c.least.ensures.within in
    found-searched s.list.now s.table.now c.args.word.now c.args.best h at c.least.ensures.key c.requires.early (λ agree.
    let alike = decided-alike c.first_match_answers.ensures (sides_in s) h.values c.args.pair.now (c.requires.rule h.values at) (c.requires.entry h.values at) agree in
    false≢true (sym c.if-decide_alike.false ∙ c.decide_alike.ensures.1 alike))
