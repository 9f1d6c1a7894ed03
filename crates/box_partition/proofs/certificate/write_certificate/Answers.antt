use Rattle.box_partition.proofs.Endings.{unwritten}
use Rattle.box_partition.proofs.certificate.write_certificate.Goals as goal

pub returns-in_err-only_prefixes-clause-writes : goal.returns-in_err-only_prefixes-clause-writes
returns-in_err-only_prefixes-clause-writes g c = unwritten (g.K.Sink.written c.args.out.now) _ c.from_residual.result c.from_residual.ensures.1
