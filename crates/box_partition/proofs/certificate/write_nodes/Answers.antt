use Rattle.std.proofs.Common.{[], ◌∷◌, ◌++◌, length, refl}
use Rattle.partition_check.specs.Good.{certificate_text, last_text}
use Rattle.box_partition.proofs.Texts.{certificate-lines}
use Rattle.box_partition.proofs.Until.{whole-first_cut, whole-second_cut, whole-third_cut, whole-written}
use Rattle.box_partition.proofs.certificate.write_nodes.Goals as goal

pub returns-in_err-rows-clause-puts : goal.returns-in_err-rows-clause-puts
returns-in_err-rows-clause-puts g c = λ rows is.
    whole-first_cut (last_text (length rows) ++ 10 ∷ []) (certificate_text rows) c.from_residual.ensures.1 c.new-pending.ensures (c.in_err-rows.ensures.rows rows is) (certificate-lines rows (length rows) refl)

pub returns-in_err-put_last-clause-puts : goal.returns-in_err-put_last-clause-puts
returns-in_err-put_last-clause-puts g c = λ rows is.
    whole-second_cut (certificate_text rows) c.from_residual-in_err-put_last.ensures.1 c.new-pending.ensures (c.in_ok-rows.ensures.rows rows is) c.in_err-put_last.ensures
    (certificate-lines rows c.in_ok-rows.rows (c.in_ok-rows.ensures.count rows is))

pub returns-in_err-flush-clause-puts : goal.returns-in_err-flush-clause-puts
returns-in_err-flush-clause-puts g c = λ rows is.
    whole-third_cut (certificate_text rows) c.from_residual-in_err-flush.ensures.1 c.new-pending.ensures (c.in_ok-rows.ensures.rows rows is) c.in_ok-put_last.ensures c.in_err-flush.ensures.whole
    (certificate-lines rows c.in_ok-rows.rows (c.in_ok-rows.ensures.count rows is))

pub returns-clause-puts : goal.returns-clause-puts
returns-clause-puts g c = λ rows is.
    whole-written (certificate_text rows) c.new-pending.ensures (c.in_ok-rows.ensures.rows rows is) c.in_ok-put_last.ensures c.in_ok-flush.ensures.whole
    (certificate-lines rows c.in_ok-rows.rows (c.in_ok-rows.ensures.count rows is))
