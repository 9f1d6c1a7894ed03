use Rattle.std.proofs.Common.{◌≤◌, ◌+◌, ◌∙◌, ℕ, List, length, ap, sym, subst, arith}
use Rattle.std.proofs.lemmas.List.{length-map}
use Rattle.ternary_words.specs.declared.entry.Entry.{Entry}
use Rattle.slot_patch.specs.Layouts.{IsLayout}
use Rattle.slot_patch.specs.Least.{least_slots, same_word}
use Rattle.slot_patch.specs.Merging.{IsLayoutOf, entries_at, entry_at}
use Rattle.slot_patch.specs.declared.pair.Pair.{Pair}
use Rattle.slot_patch.proofs.Outlines.{fewest-slots}
use Rattle.slot_patch.proofs.planning.compact.Goals as goal

pub returns-clause-fewest : goal.returns-clause-fewest
returns-clause-fewest c =
    let es = c.args.standing.now.entries.items in
    let table = c.args.table.now in
    let layout = c.in_ok-layout.layout in
    let start = entries_at es layout.start.items in
    let next = entries_at table layout.next.items in
    let pairs = c.in_ok-pairs.pairs.items in
    let seen : IsLayoutOf es table layout = subst (λ (xs : List Entry). IsLayoutOf xs table layout) c.deref-4.ensures.value c.in_ok-layout.ensures.layout in
    let long = length-map layout.start.items (entry_at es) in
    let most = subst (λ (xs : List Entry). length xs + length table ≤ least_slots same_word xs table + length pairs) c.deref.ensures.value c.in_ok-pairs.ensures.most in
    let many = ap (λ (xs : List Entry). length xs) c.deref-4.ensures.value in
    let shared = ap (λ (ps : List Pair). length ps) c.deref-5.ensures.value in
    sym long ∙ fewest-slots es table start next (length pairs) (subst (λ (n : ℕ). IsLayout n es table start next) (sym long) seen) (omega (arith, c.in_ok-layout.ensures.count, many, shared, long)) most
