use Rattle.node_store.proofs.Turns as turns
use Rattle.node_store.proofs.laws.edges_in_turn.Goals as goal

pub returns : goal.returns
returns c = record { alone = turns.alone; next = turns.next; before = turns.before; past = turns.past }
