-- The lines of memories and plans are read as they are written.
use Rattle.std.proofs.Common.{◌≡◌, ◌∷◌, ◌++◌, ℕ, zero, suc, ◌-◌, ◌^◌, ◌<◌, ◌≤◌, List, true, [], ap, refl, sym, ◌∙◌, arith, append_assoc, length, Some, None, Option, Ok, codes, decimal, option_map, slice_get, subst, inl, inr}
use Rattle.std.specs.List.{list_all}
use Rattle.std.proofs.lemmas.Bool.{cases_lt, le-leb}
use Rattle.std.proofs.lemmas.Option.{slice_get_past}
use Rattle.field_boxes.specs.Headline.Names.{text_of}
use Rattle.field_boxes.specs.Names.{name_at}
use Rattle.ternary_words.specs.declared.entry.Entry as code_entry
use Rattle.ternary_words.specs.Views.{entry_of}
use Rattle.bank_update.specs.declared.write.Put.{Put}
use Rattle.text_lines.proofs.Decimals.{decimal-other}
use Rattle.text_lines.proofs.Joins.{is_other, split_once-joined}
use Rattle.table_text.specs.Lines.{lines_of}
use Rattle.table_text.proofs.Cuts.{lines_of-line, whole_line}
use Rattle.table_text.proofs.EntryTexts.{IsSpelled, columns-line, columns-written, entry-read, front_all}
use Rattle.table_text.proofs.NameTexts.{numbered_spelled}
use Rattle.table_text.proofs.TableTexts.{line_text}
use Rattle.memory_text.specs.Heading.{slot_numbered}
use Rattle.memory_text.specs.Kept.{AreSpelled}
use Rattle.memory_text.specs.Lines.{entry_write, first_word, plan_write}
use Rattle.memory_text.specs.MemoryText.{slot_entry, write_line, write_text}
use Rattle.memory_text.specs.Views.{write_of}
use Rattle.memory_text.proofs.HeadingTexts.{from_one}

-- the name with any number, or none
pub any_spelled : (names : List (List ℕ)) → AreSpelled names → (n : ℕ) → IsSpelled (name_at names n)
any_spelled names all zero = numbered_spelled names all 0 (omega arith)
any_spelled names all (suc k) = elim (cases_lt (length names) (suc k)) [
  | inl beyond ↦ subst IsSpelled (sym (slice_get_past names k (omega (arith, beyond)))) (numbered_spelled names all 0 (omega arith))
  | inr within ↦ numbered_spelled names all (suc k) within
]

-- the number of a slot, and its entry, without the end of the line
abbrev pub slot_text : List (List ℕ) → ℕ → code_entry.Entry → List ℕ
slot_text names slot e = decimal (suc slot) ++ 32 ∷ line_text names e

regroup : (number line rest : List ℕ) → number ++ codes " " ++ (line ++ 10 ∷ []) ++ rest ≡ (number ++ 32 ∷ line) ++ 10 ∷ rest
regroup number line rest = simp append_assoc

pub slot-written : (names : List (List ℕ)) (slot : ℕ) (e : code_entry.Entry) (rest : List ℕ) → slot_entry slot (entry_of names e) ++ rest ≡ slot_text names slot e ++ 10 ∷ rest
slot-written names slot e rest =
    let text = text_of (name_at names e.decision) in
    let number = decimal (suc slot) in
    ap (λ t. number ++ codes " " ++ (t ++ 10 ∷ []) ++ rest) (columns-written e.word text)
    ∙ regroup number (line_text names e) rest

pub slot-line : (names : List (List ℕ)) (slot : ℕ) (e : code_entry.Entry) → suc slot < 2 ^ 64 → AreSpelled names → list_all (is_other 10) (slot_text names slot e) ≡ true
slot-line names slot e small named =
    front_all (is_other 10) (decimal (suc slot)) (line_text names e) (decimal-other 10 (suc slot) (omega arith) small) refl
    (columns-line e.word.value e.word.mask (text_of (name_at names e.decision)) (any_spelled names named e.decision).line)

pub slot-numbered : (slots slot : ℕ) → suc slot < 2 ^ 64 → slot < slots → slot_numbered slots (decimal (suc slot)) ≡ Some slot
slot-numbered slots slot small lt =
    ap (option_map (λ n. n - 1)) (from_one slots (suc slot) small (omega arith) (omega (arith, lt))) ∙ ap (λ n. Some n) (let e : suc slot - 1 ≡ slot = omega arith in e)

-- the entry of a slot is read
pub slot-read : (names : List (List ℕ)) (slots from slot : ℕ) (e : code_entry.Entry) → suc slot < 2 ^ 64 → slot < slots → from ≤ slot → AreSpelled names →
    entry_write slots from true (slot_text names slot e) ≡ Ok (record { slot = slot; entry = Some (entry_of names e) })
unfolding entry_write
slot-read names slots from slot e small lt le named =
    rw (
      split_once-joined 32 (decimal (suc slot)) (line_text names e) (decimal-other 32 (suc slot) (omega arith) small),
      slot-numbered slots slot small lt,
      le-leb from slot le,
      entry-read e.word (name_at names e.decision) (any_spelled names named e.decision),
    )
    refl

-- the line of a write, without its end
abbrev put_text : List (List ℕ) → ℕ → Option code_entry.Entry → List ℕ
put_text names slot None = codes "clear " ++ decimal (suc slot)
put_text names slot (Some e) = codes "set " ++ slot_text names slot e

abbrev pub put_line_text : List (List ℕ) → Put → List ℕ
put_line_text names p = put_text names p.slot p.entry

put_written : (names : List (List ℕ)) (slot : ℕ) (o : Option code_entry.Entry) (rest : List ℕ) → write_text slot (option_map (entry_of names) o) ++ rest ≡ put_text names slot o ++ 10 ∷ rest
put_written names slot None rest = simp append_assoc
put_written names slot (Some e) rest = ap (λ t. codes "set " ++ t) (slot-written names slot e rest)

put_no_line : (names : List (List ℕ)) (slot : ℕ) (o : Option code_entry.Entry) → suc slot < 2 ^ 64 → AreSpelled names → list_all (is_other 10) (put_text names slot o) ≡ true
put_no_line names slot None small named = front_all (is_other 10) (codes "clear") (decimal (suc slot)) refl refl (decimal-other 10 (suc slot) (omega arith) small)
put_no_line names slot (Some e) small named = front_all (is_other 10) (codes "set") (slot_text names slot e) refl refl (slot-line names slot e small named)

-- the line of a write, and then others
pub put-cut : (names : List (List ℕ)) (p : Put) (rest : List ℕ) → suc p.slot < 2 ^ 64 → AreSpelled names → lines_of (write_line (write_of names p) ++ rest) ≡ whole_line (put_line_text names p) true ∷ lines_of rest
put-cut names p rest small named = ap lines_of (put_written names p.slot p.entry rest) ∙ lines_of-line (put_line_text names p) rest (put_no_line names p.slot p.entry small named)

put_read : (names : List (List ℕ)) (slots slot : ℕ) (o : Option code_entry.Entry) → suc slot < 2 ^ 64 → slot < slots → AreSpelled names →
    plan_write slots true (put_text names slot o) ≡ Ok (record { slot = slot; entry = option_map (entry_of names) o })
unfolding plan_write
put_read names slots slot None small lt named = rw (split_once-joined 32 (codes "clear") (decimal (suc slot)) refl, slot-numbered slots slot small lt) refl
put_read names slots slot (Some e) small lt named = rw (split_once-joined 32 (codes "set") (slot_text names slot e) refl) (slot-read names slots 0 slot e small lt (omega arith) named)

-- the line of a write is read
pub put-read : (names : List (List ℕ)) (slots : ℕ) (p : Put) → suc p.slot < 2 ^ 64 → p.slot < slots → AreSpelled names → plan_write slots true (put_line_text names p) ≡ Ok (write_of names p)
put-read names slots p small lt named = put_read names slots p.slot p.entry small lt named
