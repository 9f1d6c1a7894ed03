use Rattle.std.proofs.Common.{◌≡◌, take}
use Rattle.edit_session.specs.Ordered.{gathered}
use Rattle.edit_session.proofs.ordered.gathered.Given as goal

abbrev pub invariant-loop-place : goal.invariant-loop-place
invariant-loop-place l = l.rules.items ≡ gathered l.kept (take l.place-index l.places)
