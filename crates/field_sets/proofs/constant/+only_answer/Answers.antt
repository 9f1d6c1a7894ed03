use Rattle.std.proofs.Common.{arith}
use Rattle.node_store.specs.declared.edge.Edge.{Edge}
use Rattle.field_sets.specs.Constant.{AnswersOnly}
use Rattle.field_sets.proofs.Always.{if_through, older, through}
use Rattle.field_sets.proofs.constant.+only_answer.Goals as goal

pub only_answer-requires : goal.only_answer-requires
only_answer-requires t c =
    let d : Edge = record { hi = 0; to = record { 0 = 0 } } in
    let less = older c.args.store.now c.args.id.0 c.edges-edges.result.now d c.same_answers.ensures.store c.edges-edges.ensures.edges c.if-edges-eq1.true in
    (omega (arith, c.decreases, less), omega (arith, less, c.requires))

pub returns-then-edges-eq1 : goal.returns-then-edges-eq1
returns-then-edges-eq1 t c =
    let d : Edge = record { hi = 0; to = record { 0 = 0 } } in
    if_through c.only_answer.result _ (λ n. AnswersOnly c.args.store.now n c.args.id.0)
    (through c.args.store.now c.args.id.0 c.edges-edges.result.now d c.same_answers.ensures.store c.edges-edges.ensures.edges c.if-edges-eq1.true) c.only_answer.ensures
