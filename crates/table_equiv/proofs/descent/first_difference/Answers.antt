use Rattle.std.proofs.Common.{ap}
use Rattle.ternary_words.specs.declared.word.Word.{Word}
use Rattle.table_equiv.proofs.Outcomes.{if_ok}
use Rattle.table_equiv.proofs.Searched.{whole-found}
use Rattle.table_equiv.proofs.descent.first_difference.Goals as goal

pub returns : goal.returns
returns c = if_ok c.descend.result _ _ (λ after. whole-found c.args.list.now c.args.table.now c.cube_of.result.word after (ap (λ (x : Word). x.mask) c.cube_of.ensures)) c.descend.ensures
