-- What a walk keeps of the pairs that agree.
use Rattle.std.specs.Prelude.{Bool, ◌&&◌, nat_eq, List, IsTrue}
use Rattle.std.specs.HashSet.{contains}
use Rattle.node_store.specs.Diagram.{Node}
use Rattle.fdd_ops.specs.declared.pair.Pair.{Pair}
use Rattle.fdd_ops.specs.declared.question.Question.{Question}
use Rattle.fdd_ops.specs.declared.agreed.Agreed.{Agreed}
use Rattle.fdd_ops.specs.Agreement.{Agree}

-- the pairs are of the same nodes
abbrev pub same_pair : Pair → Pair → Bool
same_pair p q = nat_eq p.which.0 q.which.0 && nat_eq p.answers.0 q.answers.0

-- whether the pair is kept
abbrev pub is_kept : Agreed → Pair → Bool
is_kept agreed pair = contains same_pair agreed.pairs pair

-- each kept pair agrees over the box's spans of its level's fields
abbrev pub AreAgreed : Question → List Node → Agreed → Type 0
AreAgreed question nodes agreed = (pair : Pair) → IsTrue (is_kept agreed pair) → Agree question nodes pair.which.0 pair.answers.0

-- what was kept is kept later on
abbrev pub KeepsPairs : Agreed → Agreed → Type 0
KeepsPairs old new = (pair : Pair) → IsTrue (is_kept old pair) → IsTrue (is_kept new pair)
