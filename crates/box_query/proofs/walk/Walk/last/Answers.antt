use Rattle.std.proofs.Common.{◌∙◌}
use Rattle.razor_base.proofs.Writing.{puts-is, puts-stop}
use Rattle.box_query.specs.NodeBoxes.{branch}
use Rattle.box_query.proofs.Walking.{no-count, no-text, one-count, one-text, puts-ok, puts-zero}
use Rattle.box_query.proofs.walk.Walk.last.Goals as goal

pub returns-then-not-is_wanted-clause-text : goal.returns-then-not-is_wanted-clause-text
returns-then-not-is_wanted-clause-text g c =
    let b = branch c.args.lo c.args.edge in puts-is puts-zero (no-text c.args.line.now b.first c.args.self.now.store.now b.to c.is_wanted.result c.is_wanted.ensures c.if-not-is_wanted.true)

pub returns-then-not-is_wanted-clause-count : goal.returns-then-not-is_wanted-clause-count
returns-then-not-is_wanted-clause-count g c =
    let b = branch c.args.lo c.args.edge in no-count c.args.line.now b.first c.args.self.now.store.now b.to c.is_wanted.result c.is_wanted.ensures c.if-not-is_wanted.true

pub returns-in_err-put-clause-text : goal.returns-in_err-put-clause-text
returns-in_err-put-clause-text g c =
    let b = branch c.args.lo c.args.edge in
    puts-stop c.from_residual.ensures.0
    (puts-is c.in_err-put.ensures (one-text c.args.line.now b.first c.args.self.now.store.now b.to c.is_wanted.result c.is_wanted.ensures c.bytes.result.now (c.bytes.ensures ∙ c.with-line.ensures.text) c.if-not-is_wanted.false))

pub returns-clause-text : goal.returns-clause-text
returns-clause-text g c =
    let b = branch c.args.lo c.args.edge in
    puts-is (puts-ok c.in_ok-put.ensures) (one-text c.args.line.now b.first c.args.self.now.store.now b.to c.is_wanted.result c.is_wanted.ensures c.bytes.result.now (c.bytes.ensures ∙ c.with-line.ensures.text) c.if-not-is_wanted.false)

pub returns-clause-count : goal.returns-clause-count
returns-clause-count g c =
    let b = branch c.args.lo c.args.edge in one-count c.args.line.now b.first c.args.self.now.store.now b.to c.is_wanted.result c.is_wanted.ensures c.if-not-is_wanted.false
