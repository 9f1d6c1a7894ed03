use Rattle.std.proofs.Common.{sym, subst, arith, ◌≡◌, length}
use Rattle.prefix_min.specs.Field.{IsFullLabel, IsLeastSoFar}
use Rattle.prefix_min.proofs.FullLabel.{full-end, full-step, other-step}
use Rattle.prefix_min.proofs.PieceWeights.{place-label}
use Rattle.prefix_min.proofs.field.Field.full_label.Goals as goal
use Rattle.prefix_min.proofs.field.Field.full_label.Goals.{then-self-piece-eq0, else-self-piece-eq0}

pub bounds-self-piece : goal.bounds-self-piece
bounds-self-piece c = place-label (length c.args.self.now.weights.now) 0 c.loop-piece.piece-index _ c.args.self.now.pieces.now c.requires.fit.follow c.loop-piece-test.true

pub loop-piece-preserved : goal.loop-piece-preserved
loop-piece-preserved c =
    let ws = c.args.self.now.weights.now in
    let ps = c.args.self.now.pieces.now in
    let xs = c.args.savings.now in
    let i = c.loop-piece.piece-index in
    elim c.if-self-piece-eq0.branch [
      | then-self-piece-eq0 w ↦ rw (w.best-is, w.lesser.ensures)
          (full-step ws xs ps c.requires.most i c.loop-piece.best c.loop-piece.invariant w.if-self-piece-eq0.true)
      | else-self-piece-eq0 w ↦ rw w.best-is (other-step ws xs ps c.requires.most i c.loop-piece.best c.loop-piece.invariant w.if-self-piece-eq0.false)
    ]

pub returns : goal.returns
returns c =
    let ws = c.args.self.now.weights.now in
    let ps = c.args.self.now.pieces.now in
    let xs = c.args.savings.now in
    let best = c.loop-piece.best in
    let all : c.loop-piece.piece-index ≡ length ps = omega (arith, c.loop-piece-test.false, c.loop-piece.auto.piece-index-end) in
    subst (IsFullLabel ws xs ps (length ps)) (sym c.unwrap_or.ensures)
    (full-end ws xs ps c.requires.most best c.requires.some (subst (λ n. IsLeastSoFar ws xs ps n best) all c.loop-piece.invariant))
