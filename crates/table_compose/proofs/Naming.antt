-- Decisions as numbers and as names.
use Rattle.std.proofs.Common.{◌≡◌, ◌∷◌, ℕ, List, [], Bool, true, false, map, ap}
use Rattle.std.specs.Prelude.{cond, find, Option, Some, option_and_then, option_map}
use Rattle.std.proofs.lemmas.Option.{none-some, same_Some}
use Rattle.field_boxes.specs.Names.{name_at}
use Rattle.ternary_words.specs.declared.entry.Entry as code
use Rattle.ternary_words.specs.Headline.Word.{agrees, header_bits}
use Rattle.ternary_words.specs.Headline.Table.{Entry, answer, entry_matches}
use Rattle.ternary_words.specs.Views.{word_of, entry_of}
use Rattle.table_compose.specs.Composed.{decided}

named_step : (names : List (List ℕ)) (t : Bool) (e : code.Entry) (o : Option code.Entry) (p : Option Entry) (n : ℕ) →
    (option_map (λ x. x.decision) o ≡ Some n → option_and_then (λ x. x.decision) p ≡ name_at names n) →
    option_map (λ x. x.decision) (cond t (Some e) o) ≡ Some n → option_and_then (λ x. x.decision) (cond t (Some (entry_of names e)) p) ≡ name_at names n
named_step names true e o p n later h = ap (name_at names) (same_Some e.decision n h)
named_step names false e o p n later h = later h

-- what the first match decides by number, the table answers by name
pub named : (names : List (List ℕ)) (entries : List code.Entry) (header : List ℕ) (n : ℕ) → decided entries header ≡ Some n → answer (map (entry_of names) entries) header ≡ name_at names n
named names [] header n h = absurd (none-some n h)
named names (e ∷ entries) header n h =
    named_step names (agrees (word_of e.word) (header_bits header)) e (find (λ x. agrees (word_of x.word) (header_bits header)) entries) (find (entry_matches header) (map (entry_of names) entries)) n
    (named names entries header n) h
