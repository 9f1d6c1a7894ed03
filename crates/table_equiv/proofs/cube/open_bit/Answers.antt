use Rattle.std.proofs.Common.{arith, inl, inr, subst, sym, ◌≡◌, ◌∙◌, ℕ}
use Rattle.std.proofs.lemmas.Bool.{cases_lt, false≢true}
use Rattle.word_cover.specs.Cubes.{IsOpen, cube_of}
use Rattle.table_equiv.proofs.cube.open_bit.Goals as goal

pub loop-bit-preserved : goal.loop-bit-preserved
loop-bit-preserved c = λ k less is.
    elim (cases_lt k c.loop-bit.bit) [
      | inl before ↦ c.loop-bit.invariant k before is
      | inr late ↦
          let same : k ≡ c.loop-bit.bit = omega (arith, less, late) in
          false≢true (sym c.if-is_open-2.false ∙ c.is_open-in-loop-bit.ensures.1 (subst (λ (b : ℕ). IsOpen (cube_of c.args.word.now) b) same is))
    ]

pub returns : goal.returns
returns c = λ bit is. c.loop-bit.invariant bit (omega (arith, is.0, c.loop-bit-test.false)) is
