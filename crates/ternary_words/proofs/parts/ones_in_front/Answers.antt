use Rattle.std.proofs.Common.{◌≡◌, ◌-◌, ap, min, sym, ◌∙◌, arith, ◌*◌, ◌^◌, ◌%◌}
use Rattle.std.specs.Int.{w32, trailing_zeros}
use Rattle.ternary_words.proofs.OnesInFront.{free_of, shifts}
use Rattle.ternary_words.proofs.parts.ones_in_front.Goals as goal

pub returns-else-ones-free : goal.returns-else-ones-free
returns-else-ones-free c = λ l le e.
    let w = c.args.width in
    let wide = c.requires.wide in
    let free : c.min-free.result ≡ w - l = c.min-free.ensures ∙ ap (min (trailing_zeros w32 c.args.mask)) c.from.ensures ∙ free_of w c.args.mask l wide c.requires.small le e in
    let ones : c.from-2.result - c.min-free.result ≡ l = ap (λ n. n - c.min-free.result) c.from-2.ensures ∙ (let s : w - c.min-free.result ≡ l = omega (arith, free, le) in s) in
    c.if-ones-free.false (ap (λ n. (1 * 2 ^ n % 2 ^ 64 - 1) * 2 ^ c.min-free.result % 2 ^ 64) ones ∙ ap (λ n. (1 * 2 ^ l % 2 ^ 64 - 1) * 2 ^ n % 2 ^ 64) free ∙ shifts l (w - l) (omega (arith, wide, le)) ∙ sym e ∙ sym c.from-3.ensures)
