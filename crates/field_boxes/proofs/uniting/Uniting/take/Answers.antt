use Rattle.field_boxes.specs.Spans.{interval_of}
use Rattle.field_boxes.proofs.United.{below_last, above_last, as_one}
use Rattle.field_boxes.proofs.uniting.Uniting.take.Goals as goal

pub returns-then-next-self-clause-rise : goal.returns-then-next-self-clause-rise
returns-then-next-self-clause-rise c = λ rest a b.
    rw c.push.ensures (below_last 65535 c.args.self.now.lower rest (interval_of c.args.self.now.last) (interval_of c.args.next) c.if-next-self.true a b)

pub returns-then-self-next-clause-rise : goal.returns-then-self-next-clause-rise
returns-then-self-next-clause-rise c = λ rest a b.
    rw c.push-then-self-next.ensures (above_last 65535 c.args.self.now.lower rest (interval_of c.args.self.now.last) (interval_of c.args.next) c.if-self-next.true a b)

pub returns-clause-rise : goal.returns-clause-rise
returns-clause-rise c = λ rest a b. as_one 65535 c.args.self.now.lower rest (interval_of c.args.self.now.last) (interval_of c.args.next) _ c.min.ensures c.max.ensures a b
