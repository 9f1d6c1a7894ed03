-- The error that a stop of the walk is for its caller.
use Rattle.box_partition.specs.declared.stop.Stop.{Stop}
use Rattle.box_partition.specs.declared.stop.Stop.TheVariants as stop
use Rattle.box_partition.specs.declared.error.CertError.{CertError}
use Rattle.box_partition.specs.declared.error.CertError.TheVariants as error

abbrev pub stopped : Stop → CertError
stopped stop.Fault = error.Fault
stopped stop.Memory = error.Memory
