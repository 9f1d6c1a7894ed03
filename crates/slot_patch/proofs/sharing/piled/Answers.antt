use Rattle.std.proofs.Common.{◌≡◌, ◌-◌, ◌+◌, ℕ, suc, length, drop, subst, arith}
use Rattle.slot_patch.specs.Piles.{AreBounded, AreStacked}
use Rattle.slot_patch.proofs.Rows.{rows-none, rows-on}
use Rattle.slot_patch.proofs.sharing.piled.Goals as goal

pub loop-done-init : goal.loop-done-init
loop-done-init c =
    let old = c.args.old.now in
    let new = c.args.new.now in
    let all : length old ≡ length old - 0 = omega arith in
    record {
      stacked = subst (λ (n : ℕ). AreStacked old new n c.none-piles.result) all (c.none-piles.ensures.stacked old new);
      bounded = subst (λ (n : ℕ). AreBounded (drop n old) new c.none-piles.result.places.items) all (rows-none old new c.none-piles.result.places.items c.none-piles.ensures.places);
    }

pub loop-done-preserved : goal.loop-done-preserved
loop-done-preserved c =
    let old = c.args.old.now in
    let new = c.args.new.now in
    let l = c.loop-done in
    let row = length old - 1 - l.done in
    let now = c.lay_row.new.piles in
    let before : length old - l.done ≡ suc row = omega (arith, c.loop-done-test.true) in
    let behind : row ≡ length old - (l.done + 1) = omega (arith, c.loop-done-test.true) in
    record {
      stacked = subst (λ (n : ℕ). AreStacked old new n now) behind c.in_ok-lay_row.ensures.stacked;
      bounded = subst (λ (n : ℕ). AreBounded (drop n old) new now.places.items) behind
          (rows-on old new row l.piles.places.items now.places.items (omega (arith, c.loop-done-test.true))
          (subst (λ (n : ℕ). AreBounded (drop n old) new l.piles.places.items) before l.invariant.bounded) c.in_ok-lay_row.ensures.lowered c.in_ok-lay_row.ensures.taken);
    }
