-- What slots hold, by names in a list that grows.
use Rattle.std.proofs.Common.{◌≡◌, ◌∷◌, ◌++◌, ℕ, ◌≤◌, ◌<◌, List, [], ap, refl, sym, ◌∙◌, arith, length, set, Some, None, Option, option_map, zero, suc, ◌+◌, replicate, take, get_or}
use Rattle.std.specs.Option.{option_to_list}
use Rattle.std.proofs.lemmas.List.{map-append, map-set, take_more}
use Rattle.std.proofs.lemmas.List.Elements.{All-head, All-push, All-same, All-set, All-tail, All-weaker, filter_map-append}
use Rattle.field_boxes.specs.Headline.Names.{text_of}
use Rattle.field_boxes.specs.Names.{name_at}
use Rattle.ternary_words.specs.declared.entry.Entry as code_entry
use Rattle.ternary_words.specs.Headline.Table.{Entry}
use Rattle.ternary_words.specs.Views.{entry_of, word_of}
use Rattle.bank_update.specs.declared.write.Put.{Put}
use Rattle.slot_patch.proofs.Renaming.{name-kept, grown as longer}
use Rattle.table_text.specs.Names.{decided}
use Rattle.memory_text.specs.Kept.{AreNumbered, AreNumberedPuts, AreSpelled, Extends, number_in}
use Rattle.memory_text.specs.Memory.{Write, entries_in}
use Rattle.memory_text.specs.Views.{slots_of, write_of, writes_of}
use Rattle.memory_text.proofs.LineTexts.{any_spelled}

-- what a slot holds stays
held_kept : (old new : List (List ℕ)) (o : Option code_entry.Entry) → Extends old new → number_in o ≤ length old → option_map (entry_of new) o ≡ option_map (entry_of old) o
held_kept old new None grown le = refl
held_kept old new (Some e) grown le = ap (λ (d : Option (List ℕ)). let x : Entry = record { word = word_of e.word; decision = d } in Some x) (name-kept old new e.decision grown.grow le)

pub slots_kept : (old new : List (List ℕ)) (slots : List (Option code_entry.Entry)) → Extends old new → AreNumbered (length old) slots → slots_of new slots ≡ slots_of old slots
slots_kept old new [] grown all = refl
slots_kept old new (o ∷ slots) grown all =
    let P = λ (x : Option code_entry.Entry). number_in x ≤ length old in
    ap (λ x. x ∷ slots_of new slots) (held_kept old new o grown (All-head P o slots all))
    ∙ ap (λ xs. option_map (entry_of old) o ∷ xs) (slots_kept old new slots grown (All-tail P o slots all))

pub writes_kept : (old new : List (List ℕ)) (puts : List Put) → Extends old new → AreNumberedPuts (length old) puts → writes_of new puts ≡ writes_of old puts
writes_kept old new [] grown all = refl
writes_kept old new (p ∷ puts) grown all =
    let P = λ (x : Put). number_in x.entry ≤ length old in
    ap (λ (o : Option Entry). let w : Write = record { slot = p.slot; entry = o } in w ∷ writes_of new puts) (held_kept old new p.entry grown (All-head P p puts all))
    ∙ ap (λ ws. write_of old p ∷ ws) (writes_kept old new puts grown (All-tail P p puts all))

-- a slot is made to hold this
pub slots_set : (old new : List (List ℕ)) (slots items : List (Option code_entry.Entry)) (k : ℕ) (held : Option code_entry.Entry) (seen : Option Entry) → Extends old new → AreNumbered (length old) slots →
    items ≡ set slots k held → option_map (entry_of new) held ≡ seen → slots_of new items ≡ set (slots_of old slots) k seen
slots_set old new slots items k held seen grown all is same =
    ap (slots_of new) is ∙ map-set (option_map (entry_of new)) slots k held
    ∙ ap (λ xs. set xs k (option_map (entry_of new) held)) (slots_kept old new slots grown all) ∙ ap (set (slots_of old slots) k) same

pub numbered_more : (old new : List (List ℕ)) (slots : List (Option code_entry.Entry)) → Extends old new → AreNumbered (length old) slots → AreNumbered (length new) slots
numbered_more old new slots grown all =
    All-weaker (λ (x : Option code_entry.Entry). number_in x ≤ length old) (λ (x : Option code_entry.Entry). number_in x ≤ length new) (λ x le. omega (arith, le, longer old new grown.grow)) slots all

-- a write stands behind others
pub writes_push : (old new : List (List ℕ)) (puts items : List Put) (p : Put) (w : Write) → Extends old new → AreNumberedPuts (length old) puts → items ≡ puts ++ p ∷ [] → write_of new p ≡ w → writes_of new items ≡ writes_of old puts ++ w ∷ []
writes_push old new puts items p w grown all is same =
    ap (writes_of new) is ∙ map-append (write_of new) puts (p ∷ []) ∙ ap (λ ws. ws ++ write_of new p ∷ []) (writes_kept old new puts grown all) ∙ ap (λ x. writes_of old puts ++ x ∷ []) same

pub puts_more : (old new : List (List ℕ)) (puts : List Put) → Extends old new → AreNumberedPuts (length old) puts → AreNumberedPuts (length new) puts
puts_more old new puts grown all =
    All-weaker (λ (x : Put). number_in x.entry ≤ length old) (λ (x : Put). number_in x.entry ≤ length new) (λ x le. omega (arith, le, longer old new grown.grow)) puts all

pub puts_push : (old new : List (List ℕ)) (puts items : List Put) (p : Put) → Extends old new → AreNumberedPuts (length old) puts → items ≡ puts ++ p ∷ [] → number_in p.entry ≤ length new → AreNumberedPuts (length new) items
puts_push old new puts items p grown all is le =
    let P = λ (x : Put). number_in x.entry ≤ length new in
    All-same P items (puts ++ p ∷ []) is (All-push P puts p (puts_more old new puts grown all) le)

-- empty slots
pub none_held : (names : List (List ℕ)) (n : ℕ) → slots_of names (replicate n None) ≡ replicate n None
none_held names zero = refl
none_held names (suc n) = ap (λ (xs : List (Option Entry)). None ∷ xs) (none_held names n)

-- an entry whose decision is told by its text
abbrev pub named_entry : code_entry.Entry → List ℕ → Entry
named_entry e text = record { word = word_of e.word; decision = decided text }

one_slot : (o : Option Entry) → entries_in (o ∷ []) ≡ option_to_list o
one_slot None = refl
one_slot (Some e) = refl

-- what an entry that is named by its text is by name
pub entry_named : (names : List (List ℕ)) (e : code_entry.Entry) (text : List ℕ) → AreSpelled names → text ≡ text_of (name_at names e.decision) → named_entry e text ≡ entry_of names e
entry_named names e text spelled is =
    ap (λ (d : Option (List ℕ)). let x : Entry = record { word = word_of e.word; decision = d } in x) (ap decided is ∙ (any_spelled names spelled e.decision).same)

-- the entries of one slot more
pub standing_more : (names : List (List ℕ)) (slots : List (Option code_entry.Entry)) (k : ℕ) (d : Option code_entry.Entry) → k < length slots →
    entries_in (slots_of names (take k slots)) ++ option_to_list (option_map (entry_of names) (get_or slots k d)) ≡ entries_in (slots_of names (take (k + 1) slots))
standing_more names slots k d lt =
    let view = option_map (entry_of names) in
    ap (λ es. entries_in (slots_of names (take k slots)) ++ es) (sym (one_slot (view (get_or slots k d))))
    ∙ sym (filter_map-append (λ (slot : Option Entry). slot) (slots_of names (take k slots)) (view (get_or slots k d) ∷ []))
    ∙ ap entries_in (sym (map-append view (take k slots) (get_or slots k d ∷ []))) ∙ ap (λ xs. entries_in (slots_of names xs)) (sym (take_more slots k d lt))
