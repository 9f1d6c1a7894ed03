use Rattle.std.proofs.Common.{◌≡◌, ◌-◌, ◌++◌, map}
use Rattle.list_generator.specs.DrawnHeaders.{drawn_headers}
use Rattle.list_generator.proofs.headers.draw_headers.Given as goal

abbrev pub invariant-loop-place : goal.invariant-loop-place
invariant-loop-place l = map (λ h. h.values) l.headers.items ++ drawn_headers (l.fn.count - l._place) l.draws.state ≡ drawn_headers l.fn.count l.initial.draws.state
