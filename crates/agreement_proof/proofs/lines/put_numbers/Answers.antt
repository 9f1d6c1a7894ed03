use Rattle.std.proofs.Common.{◌∷◌, ◌++◌, ◌∙◌, ap, append-nil, arith, sym}
use Rattle.std.specs.Fmt.{decimal}
use Rattle.agreement_proof.proofs.Words.{each-put, put-more}
use Rattle.agreement_proof.proofs.lines.put_numbers.Goals as goal

pub loop-number-init : goal.loop-number-init
loop-number-init c = sym (append-nil c.args.text.now.items)

pub loop-number-preserved : goal.loop-number-preserved
loop-number-preserved c =
    put-more (λ n. 32 ∷ decimal n) c.args.numbers.now c.loop-number.number-index 0 c.args.text.now.items c.loop-number.text.items c.put_behind.new.text.items (omega arith) c.loop-number.invariant
    (c.in_ok-put_behind.ensures ∙ ap (λ n. c.loop-number.text.items ++ (32 ∷ decimal n)) c.from.ensures)

pub returns : goal.returns
returns c = each-put (λ n. 32 ∷ decimal n) c.args.numbers.now c.loop-number.number-index c.args.text.now.items c.loop-number.text.items (omega (arith, c.loop-number-test.false)) c.loop-number.invariant
