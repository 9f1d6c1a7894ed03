-- What a line spells, step by step.
use Rattle.std.proofs.Common.{◌≡◌, ℕ, List, Bool, true, false, Option, Some, Ok, Err, length, refl, ap, sym, ◌∙◌, eq-eqb, Result, not, ◌==◌, if◌then◌else◌}
use Rattle.std.specs.List.{list_all}
use Rattle.ternary_words.specs.Headline.Word.{Trit as Place}
use Rattle.ternary_words.specs.Headline.Table.{Entry}
use Rattle.table_text.specs.declared.error.TableReason.{TableReason}
use Rattle.table_text.specs.declared.error.TableReason.TheVariants.{WordLength, Trit, Padding, Decision}
use Rattle.table_text.specs.Lines.{Line}
use Rattle.text_lines.specs.Headline.Cuts.{parts_at}
use Rattle.table_text.specs.Names.{is_decision, decided}
use Rattle.table_text.specs.Trits.{is_trit, is_padded, word_of_trits}
use Rattle.table_text.specs.Columns.{LineColumns, Fields, columns_of, fields_of, are_within, word_of_fields}
use Rattle.table_text.specs.Reading.{with_decision, trits_entry, columns_entry}

pub decided-ok : (ended : Bool) (word : List Place) (o : Option (List ℕ)) (text name : List ℕ) → o ≡ Some text → ended ≡ true → name ≡ text → is_decision text ≡ true →
    with_decision ended word o ≡ Ok (record { word = word; decision = decided name })
decided-ok ended word o text name is e same h = rw (is, e, h, same) refl

pub decided-not : (ended : Bool) (word : List Place) (o : Option (List ℕ)) (text : List ℕ) → o ≡ Some text → ended ≡ true → is_decision text ≡ false → with_decision ended word o ≡ Err Decision
decided-not ended word o text is e h = rw (is, e, h) refl

abbrev trits_body : ℕ → Bool → List ℕ → Option (List ℕ) → Result Entry TableReason
trits_body slot ended word text =
    if not (length word == slot) then Err WordLength else (if not (list_all is_trit word) then Err Trit else (if not (is_padded word) then Err Padding else with_decision ended (word_of_trits word) text))

trits_as : (slot : ℕ) (line : Line) → trits_entry slot line ≡ trits_body slot line.ended (parts_at 32 line.text).0 (parts_at 32 line.text).1
unfolding trits_entry
trits_as slot line = refl

trits_last : (slot : ℕ) (ended : Bool) (word : List ℕ) (text : Option (List ℕ)) → length word ≡ slot → list_all is_trit word ≡ true → is_padded word ≡ true →
    trits_body slot ended word text ≡ with_decision ended (word_of_trits word) text
trits_last slot ended word text size trits padded = rw (eq-eqb (length word) slot size, trits, padded) refl

-- a line of the first version whose word is good
pub trits-is : (slot : ℕ) (line : Line) (word : List ℕ) (text : Option (List ℕ)) (spelled : List Place) → word ≡ (parts_at 32 line.text).0 → text ≡ (parts_at 32 line.text).1 →
    length word ≡ slot → list_all is_trit word ≡ true → is_padded word ≡ true → spelled ≡ word_of_trits word → trits_entry slot line ≡ with_decision line.ended spelled text
trits-is slot line word text spelled is rest size trits padded e =
    trits_as slot line ∙ ap (λ w. trits_body slot line.ended w (parts_at 32 line.text).1) (sym is) ∙ ap (trits_body slot line.ended word) (sym rest)
    ∙ trits_last slot line.ended word text size trits padded ∙ ap (λ w. with_decision line.ended w text) (sym e)

-- a line of the second version whose columns are good
pub columns-is : (line : Line) (columns : LineColumns) (fields : Fields) (spelled : List Place) → Some columns ≡ columns_of line.text → Some fields ≡ fields_of columns → are_within fields ≡ true →
    spelled ≡ word_of_fields fields → columns_entry line ≡ with_decision line.ended spelled columns.decision
unfolding columns_entry
columns-is line columns fields spelled cut read within e = rw (← cut, ← read, within, e) refl
