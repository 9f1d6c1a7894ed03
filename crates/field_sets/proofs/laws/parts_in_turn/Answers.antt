use Rattle.field_sets.proofs.InTurn.{ends, leads, rest}
use Rattle.field_sets.proofs.laws.parts_in_turn.Goals as goal

pub returns : goal.returns
returns c = record { none = λ lo hi left right s. s.fill; ends = ends; leads = leads; rest = rest }
