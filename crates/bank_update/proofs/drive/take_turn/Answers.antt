use Rattle.std.proofs.Common.{ap, sym, ◌∙◌, ◌++◌, refl}
use Rattle.std.specs.Result.{result_ok}
use Rattle.bank_update.specs.Commands.{event_of}
use Rattle.bank_update.specs.Lines.{line_end, stage_or_idle}
use Rattle.bank_update.specs.Swapping.{Swapping}
use Rattle.bank_update.proofs.Taking.{stage-known, takes-quietly, takes-step, turn-is}
use Rattle.bank_update.proofs.drive.take_turn.Goals as goal

pub returns-in-Step-clause-turn : goal.returns-in-Step-clause-turn
returns-in-Step-clause-turn g c =
    turn-is (ap event_of c.in-Step.is)
    (takes-step c.step.result c.step.ensures.ok c.step.ensures.stepped c.step.ensures.idle c.step.ensures.unchanged c.step.ensures.fault c.step.ensures.counts
    c.step.ensures.one_try (λ none. ap (λ (v : Swapping g.row.V.Denot). g.V.Device.tries v.device) (c.step.ensures.no_try none)) c.write_step.ensures.whole)

pub returns-in-Abort-clause-turn : goal.returns-in-Abort-clause-turn
returns-in-Abort-clause-turn g c =
    turn-is (ap event_of c.in-Abort.is)
    (takes-quietly (stage_or_idle c.ok.result) c.abort.ensures.state refl refl (ap g.V.Device.faults (sym c.abort.ensures.device)) (ap g.V.Device.tries (sym c.abort.ensures.device))
    (ap stage_or_idle (c.ok.ensures.value ∙ ap result_ok c.abort.ensures.answer) ∙ stage-known _) c.write_stage.ensures.whole)

pub returns-in-Look-clause-turn : goal.returns-in-Look-clause-turn
returns-in-Look-clause-turn g c =
    turn-is (ap event_of c.in-Look.is)
    (takes-quietly (c.look.result.now ++ line_end) refl refl refl refl refl (ap (λ t. t ++ line_end) c.look.ensures.looked) c.write_name.ensures.whole)

pub returns-in-Stage-clause-turn : goal.returns-in-Stage-clause-turn
returns-in-Stage-clause-turn g c =
    turn-is (ap event_of c.in-Stage.is) (takes-quietly (stage_or_idle c.stage.result) refl refl refl refl refl (ap stage_or_idle c.stage.ensures.stage) c.write_stage-in-Stage.ensures.whole)
