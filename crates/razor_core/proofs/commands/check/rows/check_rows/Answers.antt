use Rattle.std.proofs.Common.{◌≡◌, ◌∙◌, ◌++◌, ℕ, List, [], ap, append-nil, subst, sym, take}
use Rattle.std.specs.Prelude.{false}
use Rattle.razor_base.specs.Texts.{left_of}
use Rattle.razor_core.specs.Commands.Check.{IsEndBy}
use Rattle.razor_core.specs.Outside.{seen}
use Rattle.razor_core.proofs.commands.check.rows.check_rows.Goals as goal

pub returns-then-front-clause-ends : goal.returns-then-front-clause-ends
returns-then-front-clause-ends g c = λ texts is none.
    let name = c.args.file.now in
    let left = left_of g.D.Desk.reads texts c.args.desk.now in
    let front = take c.args.front.read c.args.buffer.now in
    let over : left name ≡ [] = none c.if-front.true in
    let same : front ++ left name ≡ front = ap (λ (rest : List ℕ). front ++ rest) over ∙ append-nil front in
    subst (λ (t : List ℕ). IsEndBy false c.args.list.now c.args.table.now name t (seen (left_of g.D.Desk.reads texts) g.D.Desk.faults g.K.Sink.written g.K.Sink.faults c.args.desk.now c.args.out.now)
    (seen (left_of g.D.Desk.reads texts) g.D.Desk.faults g.K.Sink.written g.K.Sink.faults c.args.desk.now c.check_little.new.out) c.check_little.result) (sym same)
    (c.check_little.ensures.ends name left (g.D.Desk.faults c.args.desk.now) over)
