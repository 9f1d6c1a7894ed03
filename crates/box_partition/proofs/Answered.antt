-- The entries of a table as rules: they decide what the table answers.
use Rattle.std.proofs.Common.{◌≡◌, ◌∷◌, [], ℕ, zero, suc, ◌<◌, ◌≤◌, List, Some, None, length, get_or, refl, ap, sym, ◌∙◌, arith, subst, Option, option_and_then, slice_get}
use Rattle.std.specs.Option.{option_map_or}
use Rattle.std.proofs.lemmas.Option.{slice_get_within, none-some}
use Rattle.field_boxes.specs.declared.rule.Rule.{Rule}
use Rattle.field_boxes.specs.Headline.Fields.{IsHeader}
use Rattle.field_boxes.specs.Names.{name_at}
use Rattle.ternary_words.specs.declared.entry.Entry.{Entry}
use Rattle.ternary_words.specs.declared.table.Table.{Table}
use Rattle.ternary_words.specs.Views as words
use Rattle.list_equiv.specs.Names.{AreWithin, name_of}
use Rattle.partition_check.specs.Agreement.{name_answered}
use Rattle.partition_check.specs.Claims.{entry_matches}
use Rattle.partition_check.proofs.FirstPlaces.{got}
use Rattle.box_partition.specs.Firsts.{number_of_place}
use Rattle.box_partition.specs.Standing.{StandFor, own_number}
use Rattle.box_partition.proofs.Certified.{EntryDecides, place-back}
use Rattle.box_partition.proofs.InPlace.{number_there, decided-first}

-- the decision of the entry at a place, 0 for no place
abbrev entry_at : List Entry → Option ℕ → ℕ
entry_at items place = option_map_or (λ (e : Entry). e.decision) (option_and_then (slice_get items) place) 0

there : (items : List Entry) (place : Option ℕ) → number_there own_number items place ≡ entry_at items place
there items None = refl
there items (Some k) = refl

-- what a table answers is what the entry at its first place decides
table-named : EntryDecides → (table : Table) (header : List ℕ) → name_answered table header ≡ name_at table.names (entry_at table.entries.items (words.first_match header table.entries.items))
table-named law table header =
    let place = words.first_match header table.entries.items in
    law table header (number_of_place place) (sym (place-back place)) ∙ ap (λ o. name_at table.names (entry_at table.entries.items o)) (place-back place)

-- rules that stand for the entries give the names that the table answers
pub table-names : EntryDecides → (table : Table) (items : List Entry) (rules seen : List Rule) → items ≡ table.entries.items → seen ≡ rules → StandFor entry_matches own_number items rules →
    (header : List ℕ) → IsHeader header → name_of table.names seen header ≡ name_answered table header
table-names law table items rules seen same is stand header ok =
    let s = subst (λ (es : List Entry). StandFor entry_matches own_number es rules) same stand in
    ap (λ (rs : List Rule). name_of table.names rs header) is
    ∙ ap (name_at table.names) (decided-first entry_matches own_number table.entries.items rules s header ok ∙ there table.entries.items (words.first_match header table.entries.items))
    ∙ sym (table-named law table header)

none-there : (items : List Entry) (k : ℕ) → k < length items → slice_get items k ≡ None → ⊥
none-there [] k less none = absurd (omega (arith, less))
none-there (e ∷ items) zero less none = none-some e (sym none)
none-there (e ∷ items) (suc k) less none = none-there items k (omega (arith, less)) none

within-by : (table : Table) (rules : List Rule) → StandFor entry_matches own_number table.entries.items rules → (k : ℕ) (d : Rule) → k < length rules → (o : Option Entry) → slice_get table.entries.items k ≡ o →
    (get_or rules k d).decision ≤ length table.names
within-by table rules s k d less None at = absurd (none-there table.entries.items k (omega (arith, less, s.count)) at)
within-by table rules s k d less (Some e) at =
    let items = table.entries.items in
    subst (λ n. n ≤ length table.names) (ap (λ (x : Entry). x.decision) (got items k e e at) ∙ sym (s.decided k e d at)) (table.numbered k e (slice_get_within items k e at))

-- and each decides the number of one of its names, or 0
pub table-within : (table : Table) (items : List Entry) (rules seen : List Rule) → items ≡ table.entries.items → seen ≡ rules → StandFor entry_matches own_number items rules → AreWithin table.names seen
table-within table items rules seen same is stand =
    let s = subst (λ (es : List Entry). StandFor entry_matches own_number es rules) same stand in
    subst (AreWithin table.names) (sym is) (λ k d less. within-by table rules s k d less (slice_get table.entries.items k) refl)
