use Rattle.std.proofs.Common.{arith, refl}
use Rattle.agreement_check.specs.Standing.{table_in}
use Rattle.agreement_check.proofs.Claiming.{few-entries, rule-due, rule-fails, rule-sound, rule-taken}
use Rattle.agreement_check.proofs.claims.Claims.take_rule.Goals as goal

pub returns-then-not-cover-clause-judged : goal.returns-then-not-cover-clause-judged
returns-then-not-cover-clause-judged c = λ steps begun stands. rule-fails c.args.self.now c.args.self.now steps c.args.cover.now stands c.if-not-cover.true

pub returns-clause-judged : goal.returns-clause-judged
returns-clause-judged c = λ steps begun stands.
    rule-taken c.args.self.now (record c.args.self.now { rules = c.push.new.self }) steps c.args.cover.now begun refl refl refl refl c.in_ok-push.ensures.items
    (omega (arith, few-entries (table_in c.args.self.now))) stands c.requires.whole c.if-not-cover.false

pub returns-clause-sound : goal.returns-clause-sound
returns-clause-sound c =
    rule-sound c.args.self.now (record c.args.self.now { rules = c.push.new.self }) c.args.cover.now.entries c.requires.sound (rule-due c.args.self.now c.requires.rule) refl refl refl refl c.in_ok-push.ensures.items refl
