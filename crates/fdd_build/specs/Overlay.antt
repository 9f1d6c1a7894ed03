-- What shows where one diagram is laid over another.
use Rattle.std.specs.Prelude.{ℕ, nat_eq, if◌then◌else◌}
use Rattle.fdd_build.specs.declared.overlay.Overlay.{Overlay}
use Rattle.fdd_build.specs.declared.overlay.Overlay.TheVariants.{Answer, Decision}

-- what shows where the upper answer isn't 0
abbrev pub upper_shown : Overlay → ℕ → ℕ
upper_shown Answer upper = upper
upper_shown (Decision decision) upper = decision

-- what shows of an upper and a lower answer
abbrev pub shown : Overlay → ℕ → ℕ → ℕ
shown overlay upper lower = if nat_eq upper 0 then lower else upper_shown overlay upper
