use Rattle.std.proofs.Common.{◌++◌, ap, refl, subst, sym, ◌∙◌}
use Rattle.std.specs.Prelude.{IsTrue}
use Rattle.std.specs.Result.{result_ok}
use Rattle.field_boxes.specs.Names.{is_decision_word}
use Rattle.bank_update.specs.Lines.{line_end, stage_or_idle}
use Rattle.bank_update.proofs.Taking.{stage-known}
use Rattle.edit_session.specs.Editing.{Editing}
use Rattle.edit_session.specs.Lists.{rule_named}
use Rattle.edit_session.specs.SessionLines.{take_out_line}
use Rattle.edit_session.specs.SessionText.{Add, Commit, is_add}
use Rattle.edit_session.specs.SessionViews.{IsCommand, event_of}
use Rattle.edit_session.specs.declared.session.SessionCommand.{SessionCommand}
use Rattle.edit_session.proofs.SessionTurns.{leaves-as, takes-quietly, takes-step, turn-is, turns-are}
use Rattle.edit_session.proofs.running.take_turn.Goals as goal

pub add-requires-clause-rule : goal.add-requires-clause-rule
add-requires-clause-rule g c = (subst IsCommand c.in-Add.is c.requires.good).spelled

pub add-requires-clause-word : goal.add-requires-clause-word
add-requires-clause-word g c =
    subst (λ text. IsTrue (is_decision_word text)) (sym c.as_str.ensures.value) (subst IsCommand c.in-Add.is c.requires.good).word

pub add-requires-clause-room : goal.add-requires-clause-room
add-requires-clause-room g c = c.requires.room (subst (λ (x : SessionCommand). IsTrue (is_add (event_of x))) (sym c.in-Add.is) refl)

pub returns-in-Add-clause-turn : goal.returns-in-Add-clause-turn
returns-in-Add-clause-turn g c =
    let rule = rule_named c.as_str.result.now c.in-Add.rule in
    turns-are g.K.Sink.written g.K.Sink.faults c.args.out.now c.add.new.out c.args.editor.now.session c.add.new.editor.session _ _ _ _ (Add c.in-Add.place rule) (event_of c.args.command.now) c.add.result
    (ap event_of c.in-Add.is ∙ ap (λ text. Add c.in-Add.place (rule_named text c.in-Add.rule)) (sym c.as_str.ensures.value))
    c.add.ensures.turn

pub returns-in-Add-clause-refused : goal.returns-in-Add-clause-refused
returns-in-Add-clause-refused g c =
    let rule = rule_named c.as_str.result.now c.in-Add.rule in
    leaves-as c.args.out.now c.add.new.out c.args.editor.now c.add.new.editor (Add c.in-Add.place rule) (event_of c.args.command.now) c.add.result
    (ap event_of c.in-Add.is ∙ ap (λ text. Add c.in-Add.place (rule_named text c.in-Add.rule)) (sym c.as_str.ensures.value))
    c.add.ensures.refused

pub returns-in-TakeOut-clause-turn : goal.returns-in-TakeOut-clause-turn
returns-in-TakeOut-clause-turn g c =
    turn-is (ap event_of c.in-TakeOut.is)
    (takes-quietly (take_out_line c.take_out.result) (c.take_out.ensures.session, ap take_out_line c.take_out.ensures.answer) refl refl (ap g.V.Device.faults (sym c.take_out.ensures.device)) (ap g.V.Device.tries (sym c.take_out.ensures.device)) c.write_taken_out.ensures.whole)

pub returns-in-Commit-clause-turn : goal.returns-in-Commit-clause-turn
returns-in-Commit-clause-turn g c =
    turns-are g.K.Sink.written g.K.Sink.faults c.args.out.now c.commit.new.out c.args.editor.now.session c.commit.new.editor.session _ _ _ _ Commit (event_of c.args.command.now) c.commit.result
    (ap event_of c.in-Commit.is) c.commit.ensures.turn

pub returns-in-Commit-clause-refused : goal.returns-in-Commit-clause-refused
returns-in-Commit-clause-refused g c =
    leaves-as c.args.out.now c.commit.new.out c.args.editor.now c.commit.new.editor Commit (event_of c.args.command.now) c.commit.result (ap event_of c.in-Commit.is) c.commit.ensures.refused

pub returns-in-Step-clause-turn : goal.returns-in-Step-clause-turn
returns-in-Step-clause-turn g c =
    turn-is (ap event_of c.in-Step.is)
    (takes-step c.step.result c.step.ensures.ok c.step.ensures.stepped c.step.ensures.idle c.step.ensures.unchanged c.step.ensures.fault c.step.ensures.counts
    c.step.ensures.one_try (λ none. ap (λ (v : Editing g.row.V.Denot). g.V.Device.tries v.device) (c.step.ensures.no_try none)) c.write_step.ensures.whole)

pub returns-in-Abort-clause-turn : goal.returns-in-Abort-clause-turn
returns-in-Abort-clause-turn g c =
    turn-is (ap event_of c.in-Abort.is)
    (takes-quietly (stage_or_idle c.ok.result) (c.abort.ensures.session, ap stage_or_idle (c.ok.ensures.value ∙ ap result_ok c.abort.ensures.answer) ∙ stage-known _) refl refl
    (ap g.V.Device.faults (sym c.abort.ensures.device)) (ap g.V.Device.tries (sym c.abort.ensures.device)) c.write_stage.ensures.whole)

pub returns-in-Look-clause-turn : goal.returns-in-Look-clause-turn
returns-in-Look-clause-turn g c =
    turn-is (ap event_of c.in-Look.is)
    (takes-quietly (c.look.result.now ++ line_end) (refl, ap (λ t. t ++ line_end) c.look.ensures.looked) refl refl refl refl c.write_name.ensures.whole)

pub returns-in-Stage-clause-turn : goal.returns-in-Stage-clause-turn
returns-in-Stage-clause-turn g c =
    turn-is (ap event_of c.in-Stage.is) (takes-quietly (stage_or_idle c.stage.result) (refl, ap stage_or_idle c.stage.ensures.stage) refl refl refl refl c.write_stage-in-Stage.ensures.whole)
