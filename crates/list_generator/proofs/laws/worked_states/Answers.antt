use Rattle.std.proofs.Common.{refl}
use Rattle.list_generator.specs.Draws.{next_state}
use Rattle.list_generator.proofs.laws.worked_states.Goals as goal

pub returns-clause-first : goal.returns-clause-first
unfolding next_state
returns-clause-first c = refl

pub returns-clause-second : goal.returns-clause-second
unfolding next_state
returns-clause-second c = refl

pub returns-clause-third : goal.returns-clause-third
unfolding next_state
returns-clause-third c = refl

pub returns-clause-fourth : goal.returns-clause-fourth
unfolding next_state
returns-clause-fourth c = refl

pub returns-clause-fifth : goal.returns-clause-fifth
unfolding next_state
returns-clause-fifth c = refl

pub returns-clause-sixth : goal.returns-clause-sixth
unfolding next_state
returns-clause-sixth c = refl
