use Rattle.rule_audit.proofs.Least.{counted}
use Rattle.rule_audit.proofs.search.least.ShortSearch.add.Goals as goal

pub returns : goal.returns
returns c = counted c.args.store.now c.args.children.now.items c.push.new.self.items c.args.id c.in_ok-push.ensures.ok
