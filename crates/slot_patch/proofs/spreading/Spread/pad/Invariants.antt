use Rattle.std.proofs.Common.{◌≡◌, List, length}
use Rattle.ternary_words.specs.declared.entry.Entry.{Entry}
use Rattle.slot_patch.specs.Merging.{IsSpread}
use Rattle.slot_patch.proofs.spreading.Spread.pad.Given as goal

abbrev pub invariant-loop : goal.invariant-loop
invariant-loop l = record {
  reached : length l.self.next.items ≡ l.counter;
  spread : (old new : List Entry) → IsSpread old new l.initial.self → IsSpread old new l.self;
}
