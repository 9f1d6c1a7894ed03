use Rattle.std.proofs.Common.{◌≡◌, length, rules}
use Rattle.fdd_ops.proofs.Rest.{rest_step}
use Rattle.fdd_ops.proofs.question.Question.span.Goals as goal

pub returns : goal.returns
returns c = λ v values.
    let five : length c.args.self.now.spans ≡ 5 = search rules in
    rest_step c.args.self.now.spans c.args.level.now v values c.from.result _ c.index-self-from.result c.requires five c.from.ensures
