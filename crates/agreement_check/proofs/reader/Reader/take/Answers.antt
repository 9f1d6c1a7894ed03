use Rattle.std.proofs.Common.{◌∷◌, ◌++◌, ◌+◌, ℕ, List, [], arith, drop, slice_index, subst, take}
use Rattle.partition_check.specs.CertificateText.{lines_of}
use Rattle.agreement_check.specs.declared.wrong.Wrong.{Wrong}
use Rattle.agreement_check.specs.Verdict.{FindsWrong, started}
use Rattle.agreement_check.proofs.Reading.{all-bytes, handed-on, wrong-later, wrong-map}
use Rattle.agreement_check.proofs.reader.Reader.take.Goals as goal

pub returns-in_err-byte-clause-after : goal.returns-in_err-byte-clause-after
returns-in_err-byte-clause-after c = λ list table text h.
    let bytes = c.args.bytes.now in
    let i = c.loop-byte.byte-index in
    let e = c.in_err-byte.field-0.0 in
    let short = (text ++ take i bytes) ++ slice_index bytes i ∷ [] in
    handed-on c.from_residual.result e _ (λ (w : Wrong). FindsWrong list table started (lines_of (text ++ bytes)).whole w) c.from_residual.ensures.1
    (wrong-map e (λ (w : Wrong). FindsWrong list table started (lines_of short).whole w) (λ (w : Wrong). FindsWrong list table started (lines_of (text ++ bytes)).whole w)
    (λ w f. subst (λ (t : List ℕ). FindsWrong list table started (lines_of t).whole w) (all-bytes text bytes i (omega (arith, c.loop-byte-test.true))) (wrong-later list table short (drop (i + 1) bytes) w f))
    (c.in_err-byte.ensures.after list table (text ++ take i bytes) (c.loop-byte.invariant.after list table text h)))
