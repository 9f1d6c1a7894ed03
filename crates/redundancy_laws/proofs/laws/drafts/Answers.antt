use Rattle.redundancy_laws.proofs.Filling.{before, past, joined, parted, dropped, full, filled}
use Rattle.redundancy_laws.proofs.laws.drafts.Goals as goal

pub returns : goal.returns
returns c = record { before = before; past = past; joined = joined; parted = parted; dropped = dropped; full = full; filled = filled }
