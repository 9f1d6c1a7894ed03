use Rattle.std.proofs.Common.{◌≡◌, ◌∙◌, suc, ◌-◌, true, false, ap, subst, arith}
use Rattle.std.specs.Prelude.{IfSome, filter}
use Rattle.std.proofs.lemmas.Result.{IfOk-weaker}
use Rattle.bank_index.specs.Bits.{may_hit}
use Rattle.bank_index.specs.Parts.{AreParts}
use Rattle.bank_index.specs.Tree.{IsGrown}
use Rattle.bank_index.proofs.Growth.{split_grown}
use Rattle.bank_index.proofs.growing.+growing.Goals as goal

pub returns-then-levels-eq0 : goal.returns-then-levels-eq0
returns-then-levels-eq0 t c = IfOk-weaker c.add_last.result _ _ (λ place grown. grown c.args.levels) c.add_last.ensures

pub returns-in_default : goal.returns-in_default
returns-in_default t c = IfOk-weaker c.add_last-in_default.result _ _ (λ place grown. grown c.args.levels) c.add_last-in_default.ensures

pub returns : goal.returns
returns t c =
    let entries = c.args.entries.now in
    let parts = c.in-Some.parts in
    let first = c.args.nodes.now.items in
    let second = c.grow.new.nodes.items in
    let third = c.grow-2.new.nodes.items in
    let are : AreParts entries c.deref.result.now parts = subst (λ found. IfSome found (AreParts entries c.deref.result.now)) c.in-Some.is c.in_ok-parts.ensures in
    let same = c.deref.ensures.value in
    let levels : suc (c.args.levels - 1) ≡ c.args.levels = omega (arith, c.if-levels-eq0.false) in
    let zeros = subst (λ steps. IsGrown steps first second entries parts.zeros.items c.in_ok-zero.zero) levels c.in_ok-zero.ensures in
    let ones = subst (λ steps. IsGrown steps second third entries parts.ones.items c.in_ok-one.one) levels c.in_ok-one.ensures in
    IfOk-weaker c.add.result _ _
    (λ place added. split_grown c.args.levels first second third c.add.new.nodes.items entries c.args.slots.items parts.zeros.items parts.ones.items parts.bit c.in_ok-zero.zero c.in_ok-one.one place are.bit
    (are.zeros ∙ ap (filter (may_hit entries parts.bit false)) same) (are.ones ∙ ap (filter (may_hit entries parts.bit true)) same) zeros ones added.0 added.1) c.add.ensures
