use Rattle.std.proofs.Common.{◌%◌, ◌∷◌, [], ◌++◌, List, ℕ, ap, ◌∙◌}
use Rattle.table_text.proofs.ColumnTexts.{eight, hex-low}
use Rattle.table_text.proofs.hexadecimal.hexadecimal.Goals as goal

pub returns : goal.returns
returns c =
    let digits = eight c.digit.result c.digit-2.result c.digit-3.result c.digit-4.result c.digit-5.result c.digit-6.result c.digit-7.result c.digit-8.result (c.args.number % 4294967296)
    c.digit.ensures c.digit-2.ensures c.digit-3.ensures c.digit-4.ensures c.digit-5.ensures c.digit-6.ensures c.digit-7.ensures c.digit-8.ensures in
    ap (λ (ds : List ℕ). ds ++ c.args.behind ∷ []) (digits ∙ hex-low c.args.number)
