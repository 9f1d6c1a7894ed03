use Rattle.std.proofs.Common.{take}
use Rattle.rule_audit.specs.Search.{AreChildren}
use Rattle.rule_audit.proofs.search.least.ShortSearch.row.Given as goal

abbrev pub invariant-loop-id : goal.invariant-loop-id
invariant-loop-id l = AreChildren l.store l.depth (take l.id-index l.ids) l.value l.hi l.children.items
