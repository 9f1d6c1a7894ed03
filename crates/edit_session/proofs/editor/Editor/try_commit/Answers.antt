use Rattle.std.proofs.Common.{◌≡◌, ◌∙◌, None, ap, false, rules, subst, sym, true}
use Rattle.std.specs.Prelude.{is_some}
use Rattle.bank_update.specs.Machine.{stage}
use Rattle.edit_session.specs.Editing.{Editing}
use Rattle.edit_session.specs.Lists.{Listed}
use Rattle.edit_session.specs.Machine.{IsCommit, IsTableFor, SessionState}
use Rattle.edit_session.specs.Methods.{Method, method_of}
use Rattle.edit_session.proofs.Begun.{busy-commit, make-refused, copy-refused, idle-still, same-session, session_by}
use Rattle.edit_session.proofs.editor.Editor.try_commit.Goals as goal

pub returns-then-is_some-clause-commit : goal.returns-then-is_some-clause-commit
returns-then-is_some-clause-commit g c =
    let some : is_some (stage c.self.inside.swapper.state) ≡ true = search rules in
    busy-commit c.args.self.now.session _ some (ap (λ (v : Editing g.row.V.Denot). v.session) c.self.view_is)

pub returns-in_err-rules-clause-commit : goal.returns-in_err-rules-clause-commit
returns-in_err-rules-clause-commit g c =
    let none : is_some (stage c.self.inside.swapper.state) ≡ false = search rules in
    copy-refused c.args.self.now.session _ c.from_residual-in_err-rules.result c.from_residual-in_err-rules.ensures.1 none (ap (λ (v : Editing g.row.V.Denot). v.session) c.self.view_is)

pub returns-in_err-table-clause-commit : goal.returns-in_err-table-clause-commit
returns-in_err-table-clause-commit g c =
    let none : is_some (stage c.self.inside.swapper.state) ≡ false = search rules in
    let e = c.self.inside in
    let s = c.args.self.now.session in
    let r = c.from_residual-in_err-table.result in
    let same = ap (λ (v : Editing g.row.V.Denot). v.session) c.self.view_is in
    let now = ap (λ (m : Method). session_by e.list e.swapper.state e.swapper.copies m g.T.Replaced.way e.slot.bits e.limit.count) c.in_err-table.ensures.method ∙ same in
    subst (λ (x : SessionState). IsCommit s x r) (sym now) (make-refused s _ _ r c.from_residual-in_err-table.ensures.1 none c.in_err-table.ensures.refused same)

pub returns-in_err-copy-clause-commit : goal.returns-in_err-copy-clause-commit
returns-in_err-copy-clause-commit g c =
    let none : is_some (stage c.self.inside.swapper.state) ≡ false = search rules in
    let e = c.self.inside in
    let s = c.args.self.now.session in
    let r = c.from_residual-in_err-copy.result in
    let now = same-session e.list c.settle.new.self (method_of e.maker) (method_of c.table.new.self) e.swapper.state e.swapper.copies g.T.Replaced.way e.slot.bits e.limit.count c.in_err-copy.ensures.same c.in_ok-table.ensures.method
    ∙ ap (λ (v : Editing g.row.V.Denot). v.session) c.self.view_is in
    subst (λ (x : SessionState). IsCommit s x r) (sym now) (copy-refused s _ r c.from_residual-in_err-copy.ensures.1 none now)

pub begin-requires-clause-idle : goal.begin-requires-clause-idle
begin-requires-clause-idle g c =
    let none : is_some (stage c.self.inside.swapper.state) ≡ false = search rules in
    let same = ap (λ (v : Editing g.row.V.Denot). v.session) c.self.view_is in
    subst (λ (x : SessionState). x.state.pending ≡ None) (sym same) (idle-still c.args.self.now.session _ none same)

pub begin-requires-clause-table : goal.begin-requires-clause-table
begin-requires-clause-table g c =
    let e = c.self.inside in
    subst (λ (l : Listed). IsTableFor (method_of c.table.new.self) l e.slot.bits e.limit.count c.in_ok-table.table) (sym c.in_ok-copy.ensures.same)
    (subst (λ (m : Method). IsTableFor m e.list e.slot.bits e.limit.count c.in_ok-table.table) (sym c.in_ok-table.ensures.method) c.in_ok-table.ensures.table)

pub begin-requires-clause-copy : goal.begin-requires-clause-copy
begin-requires-clause-copy g c = c.in_ok-copy.ensures.copy ∙ sym c.in_ok-copy.ensures.same

pub returns-clause-commit : goal.returns-clause-commit
returns-clause-commit g c =
    let e = c.self.inside in
    let now = same-session e.list c.settle.new.self (method_of e.maker) (method_of c.table.new.self) e.swapper.state e.swapper.copies g.T.Replaced.way e.slot.bits e.limit.count c.in_ok-copy.ensures.same c.in_ok-table.ensures.method
    ∙ ap (λ (v : Editing g.row.V.Denot). v.session) c.self.view_is in
    subst (λ (x : SessionState). IsCommit x c.begin.new.self.session c.begin.result) now c.begin.ensures.commit
