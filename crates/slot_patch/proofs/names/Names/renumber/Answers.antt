use Rattle.std.proofs.Common.{◌≡◌, ◌∙◌, ℕ, List, length, map, ap, sym, subst}
use Rattle.ternary_words.specs.Limits.{AreNumbered}
use Rattle.ternary_words.specs.Views.{entry_of}
use Rattle.ternary_words.specs.declared.entry.Entry.{Entry}
use Rattle.slot_patch.specs.Naming.{HaveWordsOf, renumbered}
use Rattle.slot_patch.proofs.Renaming.{renamed, renumbered-within, renumbered-words}
use Rattle.slot_patch.proofs.names.Names.renumber.Goals as goal
use Rattle.slot_patch.proofs.names.Names.renumber.Goals.{In_ok-entries}

made : (c : In_ok-entries) → c.in_ok-entries.entries.items ≡ map (renumbered c.in_ok-numbers.numbers.items) c.args.table.now.entries.items
made c =
    c.in_ok-entries.ensures ∙ ap (λ (ns : List ℕ). map (renumbered ns) c.deref-2.result.now) c.deref.ensures.value
    ∙ ap (λ (es : List Entry). map (renumbered c.in_ok-numbers.numbers.items) es) c.deref-2.ensures.value

pub returns-clause-names : goal.returns-clause-names
returns-clause-names c =
    let table = c.args.table.now in
    ap (λ (es : List Entry). map (entry_of c.numbers.new.self) es) (made (goal.at.returns-clause-names c).In_ok-entries)
    ∙ renamed table.names c.numbers.new.self c.in_ok-numbers.numbers.items table.entries.items c.in_ok-numbers.ensures.numbers table.numbered

pub returns-clause-words : goal.returns-clause-words
returns-clause-words c =
    let table = c.args.table.now in
    subst (λ (es : List Entry). HaveWordsOf es table.entries.items) (sym (made (goal.at.returns-clause-words c).In_ok-entries)) (renumbered-words c.in_ok-numbers.numbers.items table.entries.items)

pub returns-clause-within : goal.returns-clause-within
returns-clause-within c =
    let table = c.args.table.now in
    subst (λ (es : List Entry). AreNumbered (length c.numbers.new.self) es) (sym (made (goal.at.returns-clause-within c).In_ok-entries))
    (renumbered-within table.names c.numbers.new.self c.in_ok-numbers.numbers.items table.entries.items c.in_ok-numbers.ensures.numbers table.numbered)
