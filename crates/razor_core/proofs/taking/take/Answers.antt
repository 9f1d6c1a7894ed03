use Rattle.razor_core.proofs.TakenReads.{fault_reads, whole_reads}
use Rattle.razor_core.proofs.taking.take.Goals as goal

pub returns-in-Err-clause-reads : goal.returns-in-Err-clause-reads
returns-in-Err-clause-reads g c = fault_reads c.args.file.now c.most-limit.result c.in-Err.error c.not_read.result (g.D.Desk.reads c.args.desk.now) (g.D.Desk.reads c.read_all.new.desk) c.not_read.ensures c.in-Err.ensures.turn

pub returns-clause-reads : goal.returns-clause-reads
returns-clause-reads g c = whole_reads (g.T.WholeText.kind c.args.kind.now) c.args.file.now c.deref.result.now _ c.read.result (g.D.Desk.reads c.args.desk.now) (g.D.Desk.reads c.read_all.new.desk) c.read.ensures.spelled c.in_default.ensures.turn
