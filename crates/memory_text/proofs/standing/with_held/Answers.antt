use Rattle.std.proofs.Common.{◌≡◌, ◌∷◌, ◌++◌, ◌∙◌, [], ap, subst, sym, option_map, List, Option}
use Rattle.std.specs.Option.{option_to_list}
use Rattle.std.specs.Prelude.{IfOk}
use Rattle.ternary_words.specs.declared.entry.Entry as code_entry
use Rattle.ternary_words.specs.Headline.Table.{Entry}
use Rattle.ternary_words.specs.Views.{entry_of}
use Rattle.table_text.specs.EntriesViews.{entries_view}
use Rattle.memory_text.proofs.Holding.{entry_named}
use Rattle.memory_text.proofs.standing.with_held.Goals as goal

pub returns-in-Some-clause-entries : goal.returns-in-Some-clause-entries
returns-in-Some-clause-entries c =
    let names = c.args.names.now in
    let last = ap (λ (x : Entry). x ∷ []) (entry_named names c.in-Some.entry c.name.result.now c.requires.spelled c.name.ensures)
    ∙ ap (λ (o : Option code_entry.Entry). option_to_list (option_map (entry_of names) o)) (sym c.in-Some.is) in
    subst (λ (xs : List Entry). IfOk c.with_entry.result (λ new. entries_view new ≡ entries_view c.args.entries ++ xs)) last c.with_entry.ensures.entries
