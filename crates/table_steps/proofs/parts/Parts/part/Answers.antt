use Rattle.std.proofs.Common.{subst, sym}
use Rattle.std.specs.Prelude.{All}
use Rattle.table_steps.specs.Answering.{IsPartOf}
use Rattle.table_steps.proofs.parts.Parts.part.Goals as goal

pub returns-then-inside-clause-among : goal.returns-then-inside-clause-among
returns-then-inside-clause-among c = λ table all.
    subst (IsPartOf table) (sym c.index-parts-number.is) ((subst (All (IsPartOf table)) (sym c.as_slice-parts.ensures.value) all) c.args.number c.index-parts-number.result c.if-number-parts.false)
