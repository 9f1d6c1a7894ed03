use Rattle.std.proofs.Common.{◌∷◌, [], arith, nat_lt, le-ltb, lt-ltb}
use Rattle.filter_reader.specs.Headline.Ports.{union_of}
use Rattle.filter_reader.proofs.KeptRanges.{alone, one_kept, ranges_above, ranges_reversed, ranges_united}
use Rattle.filter_reader.proofs.range.Range.ports.Goals as goal

pub returns-in_default-clause-read : goal.returns-in_default-clause-read
returns-in_default-clause-read c = λ range seen.
    ranges_above (range ∷ []) (alone c.ordered-span.result (nat_lt c.args.self.hi c.args.self.lo)) (one_kept range _ c.ordered-span.result seen c.ordered-span.ensures) (omega arith) (omega arith) c.in_default.ensures.some

pub returns-then-self-clause-read : goal.returns-then-self-clause-read
returns-then-self-clause-read c = λ range seen.
    ranges_reversed (range ∷ []) (alone c.ordered-span.result (nat_lt c.args.self.hi c.args.self.lo)) (one_kept range _ c.ordered-span.result seen c.ordered-span.ensures) (omega arith) (omega arith) c.in-Some.ensures.some (lt-ltb c.args.self.hi c.args.self.lo c.if-self.true)

pub returns-clause-read : goal.returns-clause-read
returns-clause-read c = λ range seen.
    ranges_united (range ∷ []) (alone c.ordered-span.result (nat_lt c.args.self.hi c.args.self.lo)) c.in-Some.ports (one_kept range _ c.ordered-span.result seen c.ordered-span.ensures) (omega arith) (omega arith) c.in-Some.ensures.some (le-ltb c.args.self.hi c.args.self.lo c.if-self.false) c.in-Some.ensures.same
    (λ rise same. c.unions_are_values.ensures 65535 c.in-Some.ports (union_of (range ∷ [])) c.in-Some.ensures.ports.rise rise same)
