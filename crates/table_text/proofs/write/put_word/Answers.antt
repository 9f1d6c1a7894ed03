use Rattle.std.proofs.Common.{ℕ, List, ◌/◌, ◌^◌}
use Rattle.razor_base.proofs.Writing.{puts-then, puts-more, puts-stop, puts-is}
use Rattle.ternary_words.specs.declared.word.Word.{Word}
use Rattle.table_text.proofs.ColumnTexts.{put_of, columns-put}
use Rattle.table_text.proofs.write.put_word.Goals as goal

-- a column of a word as it is put
abbrev col : Word → ℕ → ℕ → List ℕ
col w digits low = put_of digits (w.value / 2 ^ low) (w.mask / 2 ^ low)

pub returns-in_err-put_column : goal.returns-in_err-put_column
returns-in_err-put_column g c =
    let w = c.args.word.now in
    let later = puts-more (col w 8 40) c.in_err-put_column.ensures in
    puts-is (puts-stop c.from_residual.ensures.0 (puts-more (col w 2 0) (puts-more (col w 4 8) (puts-more (col w 4 24) later)))) (columns-put w.mask w.value w.masked)

pub returns-in_err-put_column-2 : goal.returns-in_err-put_column-2
returns-in_err-put_column-2 g c =
    let w = c.args.word.now in
    let two = puts-then c.in_ok-put_column.ensures c.in_err-put_column-2.ensures in
    puts-is (puts-stop c.from_residual-in_err-put_column-2.ensures.0 (puts-more (col w 2 0) (puts-more (col w 4 8) (puts-more (col w 4 24) two)))) (columns-put w.mask w.value w.masked)

pub returns-in_err-put_column-3 : goal.returns-in_err-put_column-3
returns-in_err-put_column-3 g c =
    let w = c.args.word.now in
    let three = puts-then (puts-then c.in_ok-put_column.ensures c.in_ok-put_column-2.ensures) c.in_err-put_column-3.ensures in
    puts-is (puts-stop c.from_residual-in_err-put_column-3.ensures.0 (puts-more (col w 2 0) (puts-more (col w 4 8) three))) (columns-put w.mask w.value w.masked)

pub returns-in_err-put_column-4 : goal.returns-in_err-put_column-4
returns-in_err-put_column-4 g c =
    let w = c.args.word.now in
    let four = puts-then (puts-then (puts-then c.in_ok-put_column.ensures c.in_ok-put_column-2.ensures) c.in_ok-put_column-3.ensures) c.in_err-put_column-4.ensures in
    puts-is (puts-stop c.from_residual-in_err-put_column-4.ensures.0 (puts-more (col w 2 0) four)) (columns-put w.mask w.value w.masked)

pub returns : goal.returns
returns g c =
    let w = c.args.word.now in
    puts-is (puts-then (puts-then (puts-then (puts-then c.in_ok-put_column.ensures c.in_ok-put_column-2.ensures) c.in_ok-put_column-3.ensures) c.in_ok-put_column-4.ensures) c.put_column-5.ensures) (columns-put w.mask w.value w.masked)
