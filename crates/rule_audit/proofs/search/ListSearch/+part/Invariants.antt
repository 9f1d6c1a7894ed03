use Rattle.rule_audit.proofs.PartsShown.{part_size}
use Rattle.rule_audit.proofs.search.ListSearch.+part.Given as goal

abbrev pub decreases-part : goal.decreases-part
decreases-part l = part_size l.part.now
