use Rattle.std.proofs.Common.{◌≡◌, ◌≤◌, ◌<◌, ◌+◌, ◌^◌, ◌∙◌, ℕ, List, length, get_or, take, ap, sym, subst, arith, flat_map}
use Rattle.std.proofs.lemmas.List.{get_or_default, take_all}
use Rattle.razor_base.proofs.Writing.{puts-each, puts-is, puts-next, puts-next_cut}
use Rattle.node_store.specs.declared.edge.Edge.{Edge}
use Rattle.node_store.specs.Levels.{HasField, top_of}
use Rattle.node_store.specs.Diagram.{level_of}
use Rattle.node_store.proofs.Canonical.{not_empty}
use Rattle.node_store.proofs.Edges as edges
use Rattle.box_query.specs.NodeBoxes.{Branch, branch, branches, branch_boxes, front_text, node_boxes}
use Rattle.box_query.proofs.Few.{few-headers}
use Rattle.box_query.proofs.Texts.{branch-at, branch-count, front-count, lines-flat, more-count, next-begins}
use Rattle.box_query.proofs.Walking.{below-text, boxes-by, empty-level, few-sum, no_edge, puts-ok, top-small}
use Rattle.box_query.proofs.walk.Walk.+walk.Goals as goal

abbrev no_branch : Branch
no_branch = record { first = record { lo = 0; hi = 0 }; to = 0 }

within : (es : List Edge) (k : ℕ) → k < length es → k < length (branches 0 es)
within es k h = let n = branch-count 0 es in omega (arith, n, h)

past : (es : List Edge) (k : ℕ) → length es ≤ k → length (branches 0 es) ≤ k
past es k h = let n = branch-count 0 es in omega (arith, n, h)

pub boxes-returns-in_err-boxes-clause-text : goal.boxes-returns-in_err-boxes-clause-text
boxes-returns-in_err-boxes-clause-text g t c =
    let l = c.loop-edge in
    let nodes = c.args.self.now.store.now in
    let rest = c.rest_of-rest.result.now in
    let es = c.edges-edges.result.now in
    let front = c.args.line.now in
    let k = l.edge-index in
    let item = branch l.lo (get_or es k no_edge) in
    let at : item ≡ get_or (branches 0 es) k no_branch = ap (λ n. branch n (get_or es k no_edge)) (l.invariant.lo c.loop-edge-test.true) ∙ branch-at 0 es k no_edge no_branch c.loop-edge-test.true in
    puts-is
    (puts-next_cut (λ b. front_text front (branch_boxes (node_boxes nodes rest) b)) (branches 0 es) k item no_branch (within es k c.loop-edge-test.true) at c.from_residual.ensures.0 l.invariant.put
    c.in_err-boxes.ensures.text)
    (lines-flat front (branch_boxes (node_boxes nodes rest)) (branches 0 es)
    ∙ ap (front_text front) (boxes-by nodes c.args.level.now rest c.args.id.0 es c.requires.level c.rest_of-rest.ensures c.edges-edges.ensures.edges))

pub boxes-overflow_add-boxes : goal.boxes-overflow_add-boxes
boxes-overflow_add-boxes g t c =
    let l = c.loop-edge in
    let nodes = c.args.self.now.store.now in
    let rest = c.rest_of-rest.result.now in
    let es = c.edges-edges.result.now in
    let k = l.edge-index in
    let boxes = node_boxes nodes rest in
    let item = branch l.lo (get_or es k no_edge) in
    let at : item ≡ get_or (branches 0 es) k no_branch = ap (λ n. branch n (get_or es k no_edge)) (l.invariant.lo c.loop-edge-test.true) ∙ branch-at 0 es k no_edge no_branch c.loop-edge-test.true in
    let sum = more-count boxes (branches 0 es) k l.boxes c.in_ok-boxes.field-0 item no_branch (within es k c.loop-edge-test.true) at l.invariant.count c.in_ok-boxes.ensures.count in
    let all = boxes-by nodes c.args.level.now rest c.args.id.0 es c.requires.level c.rest_of-rest.ensures c.edges-edges.ensures.edges in
    let few = few-headers nodes c.args.level.now c.same_answers.ensures.store c.requires.level c.args.id.0 c.requires.id in
    let small = few-sum (l.boxes + c.in_ok-boxes.field-0) (length (flat_map (branch_boxes boxes) (take (k + 1) (branches 0 es)))) (length (flat_map (branch_boxes boxes) (branches 0 es))) sum
    (front-count boxes (branches 0 es) (k + 1)) (subst (λ bs. length bs ≤ 2 ^ 104) (sym all) few) in
    omega (arith, small)

pub boxes-loop-edge-preserved : goal.boxes-loop-edge-preserved
boxes-loop-edge-preserved g t c =
    let l = c.loop-edge in
    let nodes = c.args.self.now.store.now in
    let rest = c.rest_of-rest.result.now in
    let es = c.edges-edges.result.now in
    let front = c.args.line.now in
    let k = l.edge-index in
    let edge = get_or es k no_edge in
    let item = branch l.lo edge in
    let at : item ≡ get_or (branches 0 es) k no_branch = ap (λ n. branch n edge) (l.invariant.lo c.loop-edge-test.true) ∙ branch-at 0 es k no_edge no_branch c.loop-edge-test.true in
    let has = subst HasField (sym c.requires.id) c.requires.level in
    let top = top_of (level_of nodes c.args.id.0) in
    record {
      put = puts-ok (puts-next (λ b. front_text front (branch_boxes (node_boxes nodes rest) b)) (branches 0 es) k item no_branch (within es k c.loop-edge-test.true) at l.invariant.put c.in_ok-boxes.ensures.text);
      count = more-count (node_boxes nodes rest) (branches 0 es) k l.boxes c.in_ok-boxes.field-0 item no_branch (within es k c.loop-edge-test.true) at l.invariant.count c.in_ok-boxes.ensures.count;
      lo = λ less.
          next-begins top es k edge c.saturating_add-lo.result (top-small (level_of nodes c.args.id.0) has) (edges.rise_of top es (c.edges-edges.ensures.inner has).full)
          (get_or_default es k no_edge edge c.loop-edge-test.true) c.saturating_add-lo.ensures less;
    }

pub boxes-returns-clause-text : goal.boxes-returns-clause-text
boxes-returns-clause-text g t c =
    let l = c.loop-edge in
    let nodes = c.args.self.now.store.now in
    let rest = c.rest_of-rest.result.now in
    let es = c.edges-edges.result.now in
    let front = c.args.line.now in
    puts-is
    (puts-ok (puts-each (λ b. front_text front (branch_boxes (node_boxes nodes rest) b)) (branches 0 es) l.edge-index (past es l.edge-index (omega (arith, l.auto.edge-index-end, c.loop-edge-test.false))) l.invariant.put))
    (lines-flat front (branch_boxes (node_boxes nodes rest)) (branches 0 es)
    ∙ ap (front_text front) (boxes-by nodes c.args.level.now rest c.args.id.0 es c.requires.level c.rest_of-rest.ensures c.edges-edges.ensures.edges))

pub boxes-returns-clause-count : goal.boxes-returns-clause-count
boxes-returns-clause-count g t c =
    let l = c.loop-edge in
    let nodes = c.args.self.now.store.now in
    let rest = c.rest_of-rest.result.now in
    let es = c.edges-edges.result.now in
    l.invariant.count
    ∙ ap (λ bs. length (flat_map (branch_boxes (node_boxes nodes rest)) bs)) (take_all l.edge-index (branches 0 es) (past es l.edge-index (omega (arith, l.auto.edge-index-end, c.loop-edge-test.false))))
    ∙ ap length (boxes-by nodes c.args.level.now rest c.args.id.0 es c.requires.level c.rest_of-rest.ensures c.edges-edges.ensures.edges)

pub branch-returns-then-is_empty-clause-text : goal.branch-returns-then-is_empty-clause-text
branch-returns-then-is_empty-clause-text g t c =
    puts-is c.last.ensures.text
    (ap (λ level. front_text c.args.line.now (branch_boxes (node_boxes c.args.self.now.store.now level) (branch c.args.lo c.args.edge))) (sym (empty-level c.args.level.now (sym c.if-is_empty.ensures))))

pub branch-returns-clause-text : goal.branch-returns-clause-text
branch-returns-clause-text g t c =
    let b = branch c.args.lo c.args.edge in
    puts-is c.boxes.ensures.text
    (below-text c.args.self.now.store.now c.args.level.now b.to c.args.line.now c.with-line.result b.first (not_empty c.args.level.now c.requires.level (sym c.if-is_empty.ensures)) c.with-line.ensures.text)
