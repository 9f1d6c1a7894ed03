use Rattle.table_equiv.proofs.Bits.{bits-in}
use Rattle.agreement_check.proofs.Outcomes.{decided-yes}
use Rattle.table_equiv.proofs.items.EntryItem.has_all.Goals as goal

pub returns : goal.returns
returns c = decided-yes c.inside.result _ _ c.inside.ensures.is (λ bits header at. (bits-in c.args.cube.now.word c.args.self.now.word header bits at).at)
