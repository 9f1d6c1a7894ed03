use Rattle.std.proofs.Common.{length}
use Rattle.rule_shortening.proofs.Fronts.{begins}
use Rattle.rule_shortening.proofs.draft.drafted.Goals as goal

pub loop-later-init : goal.loop-later-init
loop-later-init c = begins (length c.args.names.now) c.args.rules.now c.new-draft.result c.new-draft.ensures.first c.new-draft.ensures.empty
