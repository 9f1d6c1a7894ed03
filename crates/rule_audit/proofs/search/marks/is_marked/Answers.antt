use Rattle.std.proofs.Common.{refl}
use Rattle.std.proofs.lemmas.Bool.{OnTrue_at, OnTrue_from}
use Rattle.rule_audit.specs.Marks.{AnswersThroughout}
use Rattle.rule_audit.proofs.Least.{inner}
use Rattle.rule_audit.proofs.search.marks.is_marked.Goals as goal

pub returns-in-None : goal.returns-in-None
returns-in-None c =
    let nodes = c.args.store.now in
    let field = c.in-None.ensures.none.0 refl in
    OnTrue_from c.are_marked.result (AnswersThroughout nodes c.args.nothing c.args.id.0)
    (λ e. inner nodes c.args.marks.now c.args.id.0 c.args.nothing c.edges.result.now c.same_answers.ensures.store field (c.edges.ensures.inner field).full c.edges.ensures.edges c.requires.right
    (OnTrue_at e c.are_marked.ensures))
