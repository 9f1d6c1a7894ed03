use Rattle.std.proofs.Common.{refl}
use Rattle.agreement_check.specs.Views.{sides_in}
use Rattle.agreement_check.proofs.Covering.{stands-fallen, stands-further}
use Rattle.agreement_check.proofs.cover.Cover.take.Goals as goal

pub returns-then-not-self-clause-stands : goal.returns-then-not-self-clause-stands
returns-then-not-self-clause-stands c = λ claim steps st.
    stands-fallen (sides_in c.args.sides.now) claim steps c.args.step c.args.self.now _ refl c.requires.some c.due_after-self.ensures c.if-not-self.true c.if-not-self.true st

pub returns-clause-stands : goal.returns-clause-stands
returns-clause-stands c = λ claim steps st.
    stands-further (sides_in c.args.sides.now) claim steps c.args.step c.args.self.now _ refl c.requires.some c.due_after-self.ensures c.if-not-self.false c.in_ok-self.ensures.yes c.in_ok-self.ensures.no
    c.in_ok-self.ensures.count c.rules_after-self.ensures c.entries_after-self.ensures st
