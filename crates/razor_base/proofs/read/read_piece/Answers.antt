use Rattle.razor_base.specs.Headline.Outcomes.{outcome_by}
use Rattle.razor_base.proofs.Telling.{ended_other, given_other, gives}
use Rattle.razor_base.proofs.read.read_piece.Goals as goal

pub returns-clause-gives : goal.returns-clause-gives
returns-clause-gives g c = gives c.read.result (g.D.Desk.reads c.args.desk.now) (g.D.Desk.reads c.read.new.self) c.args.name.now c.read.new.piece c.read.ensures.within (c.read.ensures.added c.requires)

pub returns-clause-others : goal.returns-clause-others
returns-clause-others g c = λ other apart.
    let before = g.D.Desk.reads c.args.desk.now in
    let after = g.D.Desk.reads c.read.new.self in
    let came = outcome_by c.read.result c.read.new.piece in
    let added = c.read.ensures.added c.requires in
    (given_other before after c.args.name.now came added other apart, ended_other before after c.args.name.now came added other apart)
