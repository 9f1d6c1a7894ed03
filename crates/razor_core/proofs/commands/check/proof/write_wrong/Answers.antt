use Rattle.razor_core.proofs.commands.check.proof.write_wrong.Goals as goal

pub returns-in-Form : goal.returns-in-Form
returns-in-Form g c = rw c.in-Form.is c.write_reason.ensures

pub returns-in-DecidedAlike : goal.returns-in-DecidedAlike
returns-in-DecidedAlike g c = rw c.in-DecidedAlike.is c.write_reason-in-DecidedAlike.ensures

pub returns-in-Order : goal.returns-in-Order
returns-in-Order g c = rw c.in-Order.is c.write_reason-in-Order.ensures

pub returns-in-EntryCover : goal.returns-in-EntryCover
returns-in-EntryCover g c = rw c.in-EntryCover.is c.write_reason-in-EntryCover.ensures

pub returns-in-RuleCover : goal.returns-in-RuleCover
returns-in-RuleCover g c = rw c.in-RuleCover.is c.write_reason-in-RuleCover.ensures

pub returns-in-PairCover : goal.returns-in-PairCover
returns-in-PairCover g c = rw c.in-PairCover.is c.write_reason-in-PairCover.ensures

pub returns-in-EndsEarly : goal.returns-in-EndsEarly
returns-in-EndsEarly g c = rw c.in-EndsEarly.is c.write_reason-in-EndsEarly.ensures

pub returns-in-CountsDiffer : goal.returns-in-CountsDiffer
returns-in-CountsDiffer g c = rw c.in-CountsDiffer.is c.write_counts.ensures

pub returns-in-PairMissing : goal.returns-in-PairMissing
returns-in-PairMissing g c = rw (c.in-PairMissing.is, ← c.from.ensures, ← c.from-in-PairMissing.ensures, ← c.from-in-PairMissing-2.ensures) c.write_parts.ensures

pub returns-in-PairsDiffer : goal.returns-in-PairsDiffer
returns-in-PairsDiffer g c = rw (c.in-PairsDiffer.is, ← c.from-in-PairsDiffer.ensures, ← c.from-in-PairsDiffer-2.ensures, ← c.from-in-PairsDiffer-3.ensures) c.write_parts-in-PairsDiffer.ensures
