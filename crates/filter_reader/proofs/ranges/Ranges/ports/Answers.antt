use Rattle.filter_reader.specs.Headline.Ports.{union_of}
use Rattle.filter_reader.proofs.KeptRanges.{many_ranges, ranges_above, ranges_reversed, ranges_united}
use Rattle.filter_reader.proofs.ranges.Ranges.ports.Goals as goal

pub returns-then-self-gt-MOST_RANGES-clause-read : goal.returns-then-self-gt-MOST_RANGES-clause-read
returns-then-self-gt-MOST_RANGES-clause-read c = λ ranges some sums. many_ranges ranges c.args.self.now sums c.if-self-gt-MOST_RANGES.true

pub returns-in_default-clause-read : goal.returns-in_default-clause-read
returns-in_default-clause-read c = λ ranges some sums. ranges_above ranges c.args.self.now sums some c.if-self-gt-MOST_RANGES.false c.in_default.ensures.some

pub returns-then-self-clause-read : goal.returns-then-self-clause-read
returns-then-self-clause-read c = λ ranges some sums. ranges_reversed ranges c.args.self.now sums some c.if-self-gt-MOST_RANGES.false c.in-Some.ensures.some c.if-self.true

pub returns-clause-read : goal.returns-clause-read
returns-clause-read c = λ ranges some sums.
    ranges_united ranges c.args.self.now c.in-Some.ports sums some c.if-self-gt-MOST_RANGES.false c.in-Some.ensures.some c.if-self.false c.in-Some.ensures.same
    (λ rise same. c.unions_are_values.ensures 65535 c.in-Some.ports (union_of ranges) c.in-Some.ensures.ports.rise rise same)
