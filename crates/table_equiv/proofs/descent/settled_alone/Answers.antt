use Rattle.table_equiv.proofs.Searched.{agree-searched, found-searched, alone-agree}
use Rattle.table_equiv.proofs.descent.settled_alone.Goals as goal

pub returns-in-None : goal.returns-in-None
returns-in-None c =
    let s = c.args.sides.now in
    agree-searched s.list.now s.table.now c.args.word.now c.args.best
    (alone-agree s.list.now s.table.now c.args.word.now c.least-header.result.values c.requires.closed c.least-header.ensures.within c.in-None.ensures.alike)
    c.requires.apart

pub returns-in-Some : goal.returns-in-Some
returns-in-Some c =
    let s = c.args.sides.now in
    found-searched s.list.now s.table.now c.args.word.now c.args.best c.least-header.result c.least-header.ensures.within c.least-header.ensures.key c.requires.early c.in-Some.ensures.alike
