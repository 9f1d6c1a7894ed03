use Rattle.std.proofs.Common.{◌≡◌, ◌∷◌, ◌++◌, ◌-◌, ◌*◌, ◌/◌, ◌^◌, ◌≤◌, ℕ, List, [], length, length-drop, take, drop, ap, ◌∙◌, arith}
use Rattle.std.proofs.lemmas.List.{take_all, drop-append-le}
use Rattle.field_boxes.specs.Headline.Bits.{bits}
use Rattle.razor_base.proofs.Writing.{puts-then, puts-more, puts-stop, puts-is}
use Rattle.table_text.specs.Headline.Hexadecimal.{hex_digits}
use Rattle.table_text.proofs.ColumnTexts.{hex-last}
use Rattle.table_text.proofs.write.put_column.Goals as goal

-- the last of the eight digits, and what stands behind them
last : (k n behind : ℕ) (digits : List ℕ) → k ≤ 8 → digits ≡ hex_digits (bits 32 n) ++ behind ∷ [] → take (9 - (8 - k)) (drop (8 - k) digits) ≡ hex_digits (bits (4 * k) n) ++ behind ∷ []
last k n behind digits le e =
    let size : length digits ≡ 9 = ap length e in
    let whole : length (drop (8 - k) digits) ≤ 9 - (8 - k) = omega (arith, length-drop (8 - k) digits) in
    take_all (9 - (8 - k)) (drop (8 - k) digits) whole ∙ ap (drop (8 - k)) e
    ∙ drop-append-le (8 - k) (hex_digits (bits 32 n)) (behind ∷ []) (omega arith) ∙ ap (λ (ds : List ℕ). ds ++ behind ∷ []) (hex-last k n le)

pub returns-in_err-put : goal.returns-in_err-put
returns-in_err-put g c =
    let w = c.args.word.now in
    let value = last c.args.digits (w.value / 2 ^ c.args.low) 47 c.hexadecimal-value.result c.requires.digits c.hexadecimal-value.ensures in
    let mask = hex_digits (bits (4 * c.args.digits) (w.mask / 2 ^ c.args.low)) in
    puts-stop c.from_residual.ensures.0 (puts-more (mask ++ 32 ∷ []) (puts-is c.in_err-put.ensures value))

pub returns : goal.returns
returns g c =
    let w = c.args.word.now in
    let value = last c.args.digits (w.value / 2 ^ c.args.low) 47 c.hexadecimal-value.result c.requires.digits c.hexadecimal-value.ensures in
    let mask = last c.args.digits (w.mask / 2 ^ c.args.low) 32 c.hexadecimal-mask.result c.requires.digits c.hexadecimal-mask.ensures in
    puts-then (puts-is c.in_ok-put.ensures value) (puts-is c.put-2.ensures mask)
