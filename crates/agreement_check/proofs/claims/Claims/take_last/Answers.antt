use Rattle.std.proofs.Common.{◌≡◌, ◌∙◌, ap, arith, length, refl, slice_index_or, subst, sym}
use Rattle.agreement_check.specs.declared.claims.Stage.TheVariants as stage
use Rattle.agreement_check.specs.declared.wrong.Why.TheVariants as whys
use Rattle.agreement_check.specs.Joins.{IsFirstOf}
use Rattle.agreement_check.specs.Standing.{own_sides, taken_in}
use Rattle.agreement_check.proofs.Claiming.{last-taken, pairs-differ}
use Rattle.agreement_check.proofs.claims.Claims.take_last.Goals as goal

pub returns-then-from-found-clause-judged : goal.returns-then-from-found-clause-judged
returns-then-from-found-clause-judged c = λ k are begun.
    let stated : slice_index_or c.args.numbers.now 0 0 ≡ k = ap (λ ns. slice_index_or ns 0 0) are in
    let found : c.len-found.result ≡ length c.args.self.now.pairs.items = omega (arith, c.len-found.ensures, c.args.self.now.pairs.ok.0) in
    let none = subst (IsFirstOf (own_sides c.args.self.now) (taken_in c.args.self.now) (λ _. Unit {0})) c.in_default-2.is c.in_ok-pair.ensures in
    pairs-differ c.args.self.now c.args.self.now k (whys.PairsDiffer (slice_index_or c.args.numbers.now 0 0) c.len-found.result) none
    (ap (λ n. whys.PairsDiffer n c.len-found.result) stated ∙ ap (whys.PairsDiffer k) found) (λ e. c.if-from-found.true (c.from.ensures ∙ stated ∙ e ∙ sym found))

pub returns-clause-judged : goal.returns-clause-judged
returns-clause-judged c = λ k are begun.
    let stated : slice_index_or c.args.numbers.now 0 0 ≡ k = ap (λ ns. slice_index_or ns 0 0) are in
    let found : c.len-found.result ≡ length c.args.self.now.pairs.items = omega (arith, c.len-found.ensures, c.args.self.now.pairs.ok.0) in
    let none = subst (IsFirstOf (own_sides c.args.self.now) (taken_in c.args.self.now) (λ _. Unit {0})) c.in_default-2.is c.in_ok-pair.ensures in
    last-taken c.args.self.now (record c.args.self.now { stage = stage.Ended }) k none (sym stated ∙ sym c.from.ensures ∙ c.if-from-found.false ∙ found) refl refl
