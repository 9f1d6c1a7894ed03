use Rattle.redundancy_laws.proofs.NextRun.{next_run, unchanged}
use Rattle.redundancy_laws.proofs.laws.next_run.Goals as goal

pub returns : goal.returns
returns c = record { right = next_run; unchanged = unchanged }
