use Rattle.table_equiv.proofs.Bits.{both-in}
use Rattle.table_equiv.proofs.Outcomes.{decided-not, unlike}
use Rattle.partition_check.specs.Claims.{entry_matches}
use Rattle.table_equiv.proofs.items.EntryItem.has_none.Goals as goal

pub returns : goal.returns
returns c = decided-not c.meets.result _ _ c.meets.ensures.is (λ apart header at.
    unlike (entry_matches header c.args.self.now) (λ m. apart (both-in c.args.cube.now.word c.args.self.now.word header at (record { is = at.is; at = m }))))
