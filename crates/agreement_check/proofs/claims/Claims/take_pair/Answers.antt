use Rattle.std.proofs.Common.{List, refl, slice_index_or, subst}
use Rattle.agreement_check.specs.declared.pair.Pair.{Pair}
use Rattle.agreement_check.specs.Claims.{ComesNext}
use Rattle.agreement_check.proofs.Claiming.{pair-cover-fails, pair-due, pair-of, pair-pushed, pair-sound}
use Rattle.agreement_check.proofs.claims.Claims.take_pair.Goals as goal

pub returns-then-not-cover-clause-judged : goal.returns-then-not-cover-clause-judged
returns-then-not-cover-clause-judged c = λ i j steps are begun stands.
    let pair : Pair = record { rule = slice_index_or c.args.numbers.now 0 0; entry = slice_index_or c.args.numbers.now 1 0 } in
    pair-cover-fails c.args.self.now c.args.self.now pair (record { rule = i; entry = j }) steps c.args.cover.now (pair-of c.args.numbers.now 0 0 i j are)
    (subst (λ (xs : List Pair). ComesNext xs pair) c.deref.ensures.value (c.comes_next.ensures.0 c.if-not-comes_next.false)) stands c.if-not-cover.true

pub returns-clause-judged : goal.returns-clause-judged
returns-clause-judged c = λ i j steps are begun stands.
    let pair : Pair = record { rule = slice_index_or c.args.numbers.now 0 0; entry = slice_index_or c.args.numbers.now 1 0 } in
    pair-pushed c.args.self.now (record c.args.self.now { pairs = c.push.new.self }) pair (record { rule = i; entry = j }) steps c.args.cover.now (pair-of c.args.numbers.now 0 0 i j are) begun refl refl refl
    refl c.in_ok-push.ensures.items (subst (λ (xs : List Pair). ComesNext xs pair) c.deref.ensures.value (c.comes_next.ensures.0 c.if-not-comes_next.false)) stands c.requires.whole c.if-not-cover.false

pub returns-clause-sound : goal.returns-clause-sound
returns-clause-sound c =
    let pair : Pair = record { rule = slice_index_or c.args.numbers.now 0 0; entry = slice_index_or c.args.numbers.now 1 0 } in
    pair-sound c.args.self.now (record c.args.self.now { pairs = c.push.new.self }) pair c.requires.sound (pair-due c.args.self.now c.requires.pair) refl refl refl refl refl c.in_ok-push.ensures.items
    (subst (λ (xs : List Pair). ComesNext xs pair) c.deref.ensures.value (c.comes_next.ensures.0 c.if-not-comes_next.false))
