use Rattle.std.proofs.Common.{◌≡◌, ◌≤◌, take, vec_len}
use Rattle.table_text.specs.EntriesViews.{entries_view}
use Rattle.memory_text.specs.Memory.{entries_in}
use Rattle.memory_text.specs.Views.{slots_of}
use Rattle.memory_text.proofs.standing.table_in.Given as goal

abbrev pub invariant-loop-held : goal.invariant-loop-held
invariant-loop-held l = record {
  few : vec_len l.entries.entries ≤ l.held-index;
  entries : entries_view l.entries ≡ entries_in (slots_of l.memory.names (take l.held-index l.held-items));
}
