-- The line of an entry is written as it was read, where its digits are in upper case.
use Rattle.std.proofs.Common.{◌≡◌, ◌∷◌, ◌++◌, ℕ, List, Bool, true, false, cond, [], ap, refl, sym, ◌∙◌, length, map, drop, Some, None, Ok, Err, Option, ◌&&◌, bit_and, unwrap_or, bytes_eq, drop_at, take_at, Result}
use Rattle.std.proofs.lemmas.Bool.{and_parts, eqb-true, cond_both}
use Rattle.std.proofs.lemmas.Option.{option_and_then_some}
use Rattle.std.proofs.lemmas.Slice.Eq.{bytes_eq-Decides}
use Rattle.field_boxes.specs.Headline.Bits.{bits}
use Rattle.field_boxes.specs.Headline.Fields.{stated, width}
use Rattle.field_boxes.specs.Headline.Names.{miss, text_of}
use Rattle.field_boxes.proofs.Bits.{length-bits}
use Rattle.table_text.specs.Headline.Hexadecimal.{hex_digits}
use Rattle.ternary_words.specs.Headline.Table.{Entry}
use Rattle.table_text.specs.Headline.TableText.{column_text, columns_text, entry_line}
use Rattle.ternary_words.specs.Headline.Word.{field_bits}
use Rattle.ternary_words.specs.Word.{trits, mask_bit}
use Rattle.table_text.proofs.ColumnTexts.{column_of}
use Rattle.ternary_words.proofs.TritBits.{length-trits, mask-bits, trits-append, value-bits}
use Rattle.table_text.specs.declared.error.TableReason.TheVariants.{Decision, OutsideMask}
use Rattle.table_text.specs.Columns.{Fields, LineColumns, Masked, are_within, columns_of, fields_of, is_within, masked_of, word_of_fields}
use Rattle.table_text.specs.Lines.{Line}
use Rattle.table_text.specs.Names.{decided, is_decision}
use Rattle.table_text.specs.Reading.{columns_entry, read_columns, read_fields, with_decision}
use Rattle.text_lines.specs.Headline.Cuts.{split_once}
use Rattle.table_text.specs.UpperCase.{are_upper, is_upper, is_upper_line}
use Rattle.text_lines.proofs.Joins.{cut_parts, split_back}
use Rattle.table_text.proofs.CutBack.{line_bytes}
use Rattle.table_text.proofs.EntryTexts.{before, column, column-hex, behind}
use Rattle.table_text.proofs.HexBack.{masked_back}

last_column : (text : List ℕ) (o : Option (List ℕ × List ℕ)) (rest : List ℕ) → split_once 32 text ≡ o → (cut_parts text o).1 ≡ Some rest → text ≡ (cut_parts text o).0 ++ 32 ∷ rest
last_column text None rest e h = absurd cc
last_column text (Some p) rest e h = let same : p.1 ≡ rest = cc in split_back 32 text p e ∙ ap (λ t. p.0 ++ 32 ∷ t) same

-- the columns and the decision are the line
columns_back : (line : List ℕ) (c : LineColumns) (rest : List ℕ) → columns_of line ≡ Some c → c.decision ≡ Some rest → line ≡ before c.source c.destination c.source_port c.destination_port c.protocol rest
unfolding columns_of
columns_back line c rest h decision =
    option_and_then_some _ (split_once 32 line) c h (λ p ep hp.
    option_and_then_some _ (split_once 32 p.1) c hp (λ q eq hq.
    option_and_then_some _ (split_once 32 q.1) c hq (λ r er hr.
    option_and_then_some _ (split_once 32 r.1) c hr (λ s es hs.
    let o = split_once 32 s.1 in
    let cut : LineColumns = record { source = p.0; destination = q.0; source_port = r.0; destination_port = s.0; protocol = (cut_parts s.1 o).0; decision = (cut_parts s.1 o).1 } in
    let same : cut ≡ c = cc in
    let last = last_column s.1 o rest refl (ap (λ (x : LineColumns). x.decision) same ∙ decision) in
    split_back 32 line p ep ∙ ap (λ t. p.0 ++ 32 ∷ t) (split_back 32 p.1 q eq ∙ ap (λ t. q.0 ++ 32 ∷ t) (split_back 32 q.1 r er ∙ ap (λ t. r.0 ++ 32 ∷ t) (split_back 32 r.1 s es ∙ ap (λ t. s.0 ++ 32 ∷ t) last)))
    ∙ ap (λ (x : LineColumns). before x.source x.destination x.source_port x.destination_port x.protocol rest) same))))

-- the columns of fields, as they are written
abbrev five_texts : Fields → List ℕ → List ℕ
five_texts f rest = before (column 8 f.source.value f.source.mask) (column 8 f.destination.value f.destination.mask) (column 4 f.source_port.value f.source_port.mask) (column 4 f.destination_port.value f.destination_port.mask) (column 2 f.protocol.value f.protocol.mask) rest

five_same : (a b c d e a' b' c' d' e' rest : List ℕ) → a ≡ a' → b ≡ b' → c ≡ c' → d ≡ d' → e ≡ e' → before a b c d e rest ≡ before a' b' c' d' e' rest
five_same a b c d e a' b' c' d' e' rest ha hb hc hd he = rw (ha, hb, hc, hd, he) refl

-- five tests that all pass
record AllPass (a b c d e : Bool) : Type 0 where
  source : a ≡ true
  destination : b ≡ true
  source_port : c ≡ true
  destination_port : d ≡ true
  protocol : e ≡ true

all_pass : (a b c d e : Bool) → a && b && c && d && e ≡ true → AllPass a b c d e
all_pass a b c d e h =
    let p = and_parts (a && b && c && d) e h in
    let q = and_parts (a && b && c) d p.0 in
    let r = and_parts (a && b) c q.0 in
    let s = and_parts a b r.0 in
    record { source = s.0; destination = s.1; source_port = r.1; destination_port = q.1; protocol = p.1 }

abbrev AreUpper : LineColumns → Type 0
AreUpper c = AllPass (is_upper c.source) (is_upper c.destination) (is_upper c.source_port) (is_upper c.destination_port) (is_upper c.protocol)

fields_back : (c : LineColumns) (f : Fields) (rest : List ℕ) → fields_of c ≡ Some f → AreUpper c → before c.source c.destination c.source_port c.destination_port c.protocol rest ≡ five_texts f rest
unfolding fields_of
fields_back c f rest h upper =
    option_and_then_some _ (masked_of 8 4294967295 c.source) f h (λ a ea ha.
    option_and_then_some _ (masked_of 8 4294967295 c.destination) f ha (λ b eb hb.
    option_and_then_some _ (masked_of 4 65535 c.source_port) f hb (λ x ex hx.
    option_and_then_some _ (masked_of 4 65535 c.destination_port) f hx (λ y ey hy.
    option_and_then_some _ (masked_of 2 255 c.protocol) f hy (λ z ez hz.
    let made : Fields = record { source = a; destination = b; source_port = x; destination_port = y; protocol = z } in
    let same : made ≡ f = cc in
    five_same _ _ _ _ _ _ _ _ _ _ rest (masked_back 8 4294967295 c.source a ea upper.source) (masked_back 8 4294967295 c.destination b eb upper.destination) (masked_back 4 65535 c.source_port x ex upper.source_port)
    (masked_back 4 65535 c.destination_port y ey upper.destination_port) (masked_back 2 255 c.protocol z ez upper.protocol)
    ∙ ap (λ g. five_texts g rest) same)))))

-- the first of the fields that are left
columns-first : (f : ℕ) (fs : List ℕ) (m v : ℕ) (ms vs : List ℕ) → bit_and v m ≡ v →
    columns_text (f ∷ fs) (trits (field_bits (f ∷ fs) (m ∷ ms)) (field_bits (f ∷ fs) (v ∷ vs))) ≡ column_of (width f) v m ++ 32 ∷ columns_text fs (trits (field_bits fs ms) (field_bits fs vs))
columns-first f fs m v ms vs within =
    let w = width f in
    let high = trits (bits w m) (bits w v) in
    let low = trits (field_bits fs ms) (field_bits fs vs) in
    let same : length (bits w m) ≡ length (bits w v) = length-bits w m ∙ sym (length-bits w v) in
    let size : length high ≡ w = length-trits (bits w m) (bits w v) same ∙ length-bits w m in
    let text : column_text high ≡ column_of w v m = ap (λ bs. hex_digits bs ++ 47 ∷ hex_digits (map mask_bit high)) (value-bits w m v within) ∙ ap (λ bs. hex_digits (bits w v) ++ 47 ∷ hex_digits bs) (mask-bits w m v) in
    ap (columns_text (f ∷ fs)) (trits-append (bits w m) (field_bits fs ms) (bits w v) (field_bits fs vs) same)
    ∙ ap (λ ts. column_text ts ++ 32 ∷ columns_text fs (drop w (high ++ low))) (take_at high low w size)
    ∙ ap (λ ts. column_text high ++ 32 ∷ columns_text fs ts) (drop_at high low w size) ∙ ap (λ t. t ++ 32 ∷ columns_text fs low) text

-- each value lies in its mask
abbrev AreWithin : Fields → Type 0
AreWithin f = AllPass (is_within f.source) (is_within f.destination) (is_within f.source_port) (is_within f.destination_port) (is_within f.protocol)

within_is : (f : Masked) → is_within f ≡ true → bit_and f.value f.mask ≡ f.value
within_is f h = eqb-true (bit_and f.value f.mask) f.value h

-- a further column
next : (a a' rest rest' : List ℕ) → a ≡ a' → rest ≡ rest' → a ++ 32 ∷ rest ≡ a' ++ 32 ∷ rest'
next a a' rest rest' h e = rw (h, e) refl

-- the columns of a word of fields
word_back : (f : Fields) → AreWithin f → columns_text stated (word_of_fields f) ≡ five_texts f []
word_back f h =
    let a = f.source in
    let b = f.destination in
    let c = f.source_port in
    let d = f.destination_port in
    let e = f.protocol in
    columns-first 0 (1 ∷ 2 ∷ 3 ∷ 4 ∷ []) a.mask a.value (b.mask ∷ c.mask ∷ d.mask ∷ e.mask ∷ []) (b.value ∷ c.value ∷ d.value ∷ e.value ∷ []) (within_is a h.source)
    ∙ next _ _ _ _ (column-hex 8 a.value a.mask) (columns-first 1 (2 ∷ 3 ∷ 4 ∷ []) b.mask b.value (c.mask ∷ d.mask ∷ e.mask ∷ []) (c.value ∷ d.value ∷ e.value ∷ []) (within_is b h.destination)
    ∙ next _ _ _ _ (column-hex 8 b.value b.mask) (columns-first 2 (3 ∷ 4 ∷ []) c.mask c.value (d.mask ∷ e.mask ∷ []) (d.value ∷ e.value ∷ []) (within_is c h.source_port)
    ∙ next _ _ _ _ (column-hex 4 c.value c.mask) (columns-first 3 (4 ∷ []) d.mask d.value (e.mask ∷ []) (e.value ∷ []) (within_is d h.destination_port)
    ∙ next _ _ _ _ (column-hex 4 d.value d.mask) (columns-first 4 [] e.mask e.value [] [] (within_is e h.protocol)
    ∙ next _ _ _ _ (column-hex 2 e.value e.mask) refl))))

-- what a text decides is written as it was
name_back : (text : List ℕ) → text_of (decided text) ≡ text
name_back text = cond_both (bytes_eq text miss) None (Some text) (λ o. unwrap_or o miss ≡ text) (λ e. sym ((bytes_eq-Decides text miss).0 e)) (λ e. refl)

-- what was read of a line is written as the line was
abbrev pub IsKept : Line → Entry → Type 0
IsKept line e = entry_line e ≡ line_bytes line

pub ended_line : (text : List ℕ) (ended : Bool) → ended ≡ true → text ++ 10 ∷ [] ≡ text ++ (cond ended (10 ∷ []) [])
ended_line text ended e = rw e refl

-- a test in front of a refusal passed
pub cond_ok : {A E : Type 0} (t : Bool) (x : Result A E) (bad : E) (y : A) → cond t x (Err bad) ≡ Ok y → (t ≡ true) × (x ≡ Ok y)
cond_ok true x bad y h = (refl, h)
cond_ok false x bad y h = absurd cc

decided_step : (line : Line) (f : Fields) (text : List ℕ) (e : Entry) → AreWithin f → line.text ≡ five_texts f text →
    cond (line.ended && is_decision text) (Ok (record { word = word_of_fields f; decision = decided text })) (Err Decision) ≡ Ok e → IsKept line e
decided_step line f text e within is h =
    let made : Entry = record { word = word_of_fields f; decision = decided text } in
    let passed = cond_ok (line.ended && is_decision text) (Ok made) Decision e h in
    let same : made ≡ e = cc passed.1 in
    let written : columns_text stated (word_of_fields f) ++ text_of (decided text) ≡ line.text =
    ap (λ t. t ++ text_of (decided text)) (word_back f within) ∙ ap (λ t. five_texts f [] ++ t) (name_back text)
    ∙ behind (column 8 f.source.value f.source.mask) (column 8 f.destination.value f.destination.mask) (column 4 f.source_port.value f.source_port.mask) (column 4 f.destination_port.value f.destination_port.mask) (column 2 f.protocol.value f.protocol.mask) text ∙ sym is in
    ap entry_line (sym same) ∙ ap (λ t. t ++ 10 ∷ []) written ∙ ended_line line.text line.ended (and_parts line.ended (is_decision text) passed.0).0

decision_step : (line : Line) (c : LineColumns) (f : Fields) (e : Entry) (o : Option (List ℕ)) → columns_of line.text ≡ Some c → c.decision ≡ o → fields_of c ≡ Some f → AreUpper c → AreWithin f →
    with_decision line.ended (word_of_fields f) o ≡ Ok e → IsKept line e
decision_step line c f e None ec ed ef upper within h = absurd cc
decision_step line c f e (Some text) ec ed ef upper within h =
    decided_step line f text e within (columns_back line.text c text ec ed ∙ fields_back c f text ef upper) h

fields_step : (line : Line) (c : LineColumns) (e : Entry) (o : Option Fields) → columns_of line.text ≡ Some c → fields_of c ≡ o → AreUpper c → read_fields line.ended c.decision o ≡ Ok e → IsKept line e
fields_step line c e None ec ef upper h = absurd cc
fields_step line c e (Some f) ec ef upper h =
    let passed = cond_ok (are_within f) (with_decision line.ended (word_of_fields f) c.decision) OutsideMask e h in
    decision_step line c f e c.decision ec refl ef upper (all_pass _ _ _ _ _ passed.0) passed.1

columns_step : (line : Line) (e : Entry) (o : Option LineColumns) → columns_of line.text ≡ o → are_upper o ≡ true → read_columns line.ended o ≡ Ok e → IsKept line e
columns_step line e None ec upper h = absurd cc
columns_step line e (Some c) ec upper h = fields_step line c e (fields_of c) ec refl (all_pass _ _ _ _ _ upper) h

-- a line of the second version
pub entry_back : (line : Line) (e : Entry) → columns_entry line ≡ Ok e → is_upper_line line ≡ true → IsKept line e
unfolding columns_entry
entry_back line e h upper = columns_step line e (columns_of line.text) refl upper h
