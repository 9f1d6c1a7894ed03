use Rattle.std.proofs.Common.{arith, refl}
use Rattle.agreement_check.specs.Standing.{list_in}
use Rattle.agreement_check.proofs.Claiming.{few-rules, entry-due, entry-fails, entry-sound, entry-taken}
use Rattle.agreement_check.proofs.claims.Claims.take_entry.Goals as goal

pub returns-then-not-cover-clause-judged : goal.returns-then-not-cover-clause-judged
returns-then-not-cover-clause-judged c = λ steps begun stands. entry-fails c.args.self.now c.args.self.now steps c.args.cover.now stands c.if-not-cover.true

pub returns-clause-judged : goal.returns-clause-judged
returns-clause-judged c = λ steps begun stands.
    entry-taken c.args.self.now (record c.args.self.now { entries = c.push.new.self }) steps c.args.cover.now begun refl refl refl refl c.in_ok-push.ensures.items
    (omega (arith, few-rules (list_in c.args.self.now))) stands c.requires.whole c.if-not-cover.false

pub returns-clause-sound : goal.returns-clause-sound
returns-clause-sound c =
    entry-sound c.args.self.now (record c.args.self.now { entries = c.push.new.self }) c.args.cover.now.rules c.requires.sound (entry-due c.args.self.now c.requires.entry) refl refl refl c.in_ok-push.ensures.items refl refl
