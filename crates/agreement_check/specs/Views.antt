-- The sides of the code, and what a cover has to show.
use Rattle.agreement_check.specs.declared.sides.Sides as code_sides
use Rattle.agreement_check.specs.declared.task.Task.{Task}
use Rattle.word_cover.specs.Cubes.{cube_of}
use Rattle.agreement_check.specs.Covers.{Sides, Claim}

abbrev pub sides_in : code_sides.Sides → Sides
sides_in s = record { list = s.list.now; table = s.table.now; bound = s.bound }

abbrev pub claim_of : Task → Claim
claim_of t = record { cube = cube_of t.cube; of = t.of; rules = t.rules; entries = t.entries }
