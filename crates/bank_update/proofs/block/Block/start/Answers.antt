use Rattle.std.proofs.Common.{◌∙◌, ◌+◌, ◌≤◌, ℕ, length, sym, subst}
use Rattle.bank_update.specs.Standing.{entries_in}
use Rattle.bank_update.proofs.Together.{inside-now, start-none, start-some}
use Rattle.bank_update.proofs.block.Block.start.Goals as goal

pub returns-in-Some-clause-start : goal.returns-in-Some-clause-start
returns-in-Some-clause-start c = c.first_slot.ensures ∙ start-some c.self.inside.slots c.self.inside.placed c.in-Some.placed c.args.self.now c.in-Some.is c.self.view_is

pub returns-in-Some-clause-inside : goal.returns-in-Some-clause-inside
returns-in-Some-clause-inside c =
    subst (λ (n : ℕ). n + length (entries_in c.args.self.now.slots) ≤ length c.args.self.now.slots)
    (sym (c.first_slot.ensures ∙ start-some c.self.inside.slots c.self.inside.placed c.in-Some.placed c.args.self.now c.in-Some.is c.self.view_is)) (inside-now c.self.inside.slots c.self.inside.placed c.args.self.now c.self.invariant c.self.view_is)

pub returns-in-None-clause-start : goal.returns-in-None-clause-start
returns-in-None-clause-start c = start-none c.self.inside.slots c.self.inside.placed c.args.self.now c.in-None.is c.self.view_is

pub returns-in-None-clause-inside : goal.returns-in-None-clause-inside
returns-in-None-clause-inside c =
    subst (λ (n : ℕ). n + length (entries_in c.args.self.now.slots) ≤ length c.args.self.now.slots)
    (sym (start-none c.self.inside.slots c.self.inside.placed c.args.self.now c.in-None.is c.self.view_is)) (inside-now c.self.inside.slots c.self.inside.placed c.args.self.now c.self.invariant c.self.view_is)
