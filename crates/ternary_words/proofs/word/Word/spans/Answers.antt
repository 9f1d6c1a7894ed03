use Rattle.std.proofs.Common.{ap, sym, ◌∙◌}
use Rattle.field_boxes.specs.Headline.Fields.{stated}
use Rattle.ternary_words.specs.Headline.Word.{agrees, header_bits}
use Rattle.ternary_words.specs.Prefixes.{all_hold}
use Rattle.ternary_words.proofs.Fives.{fit_five, five_of}
use Rattle.ternary_words.proofs.PrefixHolds.{agrees-fields}
use Rattle.ternary_words.proofs.Spanned.{box_five, inside_five}
use Rattle.ternary_words.proofs.word.Word.spans.Goals as goal

pub span-requires-5 : goal.span-requires-5
span-requires-5 c = let is = c.in_ok-source.ensures in (fit_five c.in_ok-source.field-0 _ is.five is.fit).protocol

pub returns-clause-inside : goal.returns-clause-inside
returns-clause-inside c =
    let is = c.in_ok-source.ensures in
    let fits = fit_five c.in_ok-source.field-0 (record { value = 0; len = 0 }) is.five is.fit in
    inside_five c.span.result c.span-2.result c.span-3.result c.span-4.result c.span-5.result _ _ _ _ _
    (record { fits = fits.source; same = c.span.ensures }) (record { fits = fits.destination; same = c.span-2.ensures }) (record { fits = fits.source_port; same = c.span-3.ensures })
    (record { fits = fits.destination_port; same = c.span-4.ensures }) (record { fits = fits.protocol; same = c.span-5.ensures })

pub returns-clause-boxes : goal.returns-clause-boxes
returns-clause-boxes c = λ values are.
    let is = c.in_ok-source.ensures in
    let ps = c.in_ok-source.field-0 in
    let fits = fit_five ps (record { value = 0; len = 0 }) is.five is.fit in
    box_five c.span.result c.span-2.result c.span-3.result c.span-4.result c.span-5.result _ _ _ _ _
    (record { fits = fits.source; same = c.span.ensures }) (record { fits = fits.destination; same = c.span-2.ensures }) (record { fits = fits.source_port; same = c.span-3.ensures })
    (record { fits = fits.destination_port; same = c.span-4.ensures }) (record { fits = fits.protocol; same = c.span-5.ensures }) values are
    ∙ sym (ap (λ qs. all_hold stated qs values) (five_of ps (record { value = 0; len = 0 }) is.five))
    ∙ sym (ap (λ ts. agrees ts (header_bits values)) is.same ∙ agrees-fields stated ps values is.fit are)
