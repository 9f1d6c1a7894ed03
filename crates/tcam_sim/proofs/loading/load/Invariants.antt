use Rattle.std.proofs.Common.{◌≡◌, ◌≤◌, length, take}
use Rattle.tcam_sim.specs.Slots.{filled}
use Rattle.tcam_sim.specs.Tries.{counted_times}
use Rattle.tcam_sim.proofs.loading.load.Given as goal

abbrev pub invariant-loop-slot : goal.invariant-loop-slot
invariant-loop-slot g l = record { tried : g.V.Device.tries l.device ≡ counted_times l.slot (g.V.Device.tries l.initial.device); held : g.V.Device.held l.device ≡ filled (length (g.V.Device.held l.initial.device)) (take l.slot l.table.entries.items); counts : g.V.Device.faults l.initial.device ≤ g.V.Device.faults l.device }
