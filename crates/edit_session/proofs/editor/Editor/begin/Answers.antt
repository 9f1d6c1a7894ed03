use Rattle.std.proofs.Common.{◌≡◌, ◌∙◌, None, Ok, ap, subst, sym}
use Rattle.edit_session.specs.Editing.{Editing}
use Rattle.edit_session.specs.Machine.{IsCommit, IsTableFor, SessionState}
use Rattle.edit_session.specs.Methods.{method_of}
use Rattle.edit_session.proofs.Begun.{handed-table, has-begun, not-begun, session_by}
use Rattle.edit_session.proofs.editor.Editor.begin.Goals as goal

pub begin-requires-clause-idle : goal.begin-requires-clause-idle
begin-requires-clause-idle g c = subst (λ (v : Editing g.row.V.Denot). v.session.state.pending ≡ None) (sym c.self.view_is) c.requires.idle

pub begin-requires-clause-table : goal.begin-requires-clause-table
begin-requires-clause-table g c =
    let s = c.args.self.now.session in
    handed-table s.method s.list c.args.copy s.slot s.limit c.args.table c.requires.copy c.requires.table

pub returns-in_err-total-clause-commit : goal.returns-in_err-total-clause-commit
returns-in_err-total-clause-commit g c =
    let e = c.self.inside in
    let same = ap (λ (v : Editing g.row.V.Denot). v.session) (sym c.self.view_is) in
    let after = c.begin.new.self in
    subst (λ (s : SessionState). IsCommit s (session_by e.list after.state after.copies (method_of e.maker) g.T.Replaced.way e.slot.bits e.limit.count) c.from_residual.result) (sym same)
    (not-begun e.list (method_of e.maker) g.T.Replaced.way e.slot.bits e.limit.count e.swapper after c.args.table _ c.from_residual.result c.from_residual.ensures.1
    (subst (λ (s : SessionState). s.state.pending ≡ None) same c.requires.idle)
    (subst (λ (s : SessionState). IsTableFor s.method s.list s.slot s.limit c.args.table) same c.requires.table)
    c.in_err-total.ensures.refused c.in_err-total.ensures.unchanged)

pub returns-clause-commit : goal.returns-clause-commit
returns-clause-commit g c =
    let e = c.self.inside in
    let same = ap (λ (v : Editing g.row.V.Denot). v.session) (sym c.self.view_is) in
    let after = c.begin.new.self in
    let method = method_of c.begin-2.new.self in
    let total = c.in_ok-total.total in
    subst (λ (s : SessionState). IsCommit s (session_by e.list after.state after.copies method g.T.Replaced.way e.slot.bits e.limit.count) (Ok total)) (sym same)
    (has-begun e.list (method_of e.maker) method g.T.Replaced.way e.slot.bits e.limit.count e.swapper after c.args.table c.args.copy total
    (subst (λ (s : SessionState). IsTableFor s.method s.list s.slot s.limit c.args.table) same c.requires.table)
    (c.requires.copy ∙ ap (λ (s : SessionState). s.list) same)
    c.in_ok-total.ensures.begun c.in_ok-total.ensures.copies c.begin-2.ensures)
