-- What a desk in memory that never fails has left of its inputs.
use Rattle.std.specs.Prelude.{ℕ, List, [], Option, unwrap_or}
use Rattle.razor_base.specs.Headline.Readings.{Reading}
use Rattle.std.specs.BTreeMap.{get_by_text}
use Rattle.razor_base.specs.Standing.{all_at, left_at}
use Rattle.razor_base.specs.declared.calm_desk.CalmDesk.{CalmDesk}

-- the bytes that were put under a name, and those of them that are left
abbrev pub put_under : CalmDesk → List ℕ → Option (List ℕ)
put_under desk name = all_at (get_by_text desk.inputs name)

abbrev pub left_under : CalmDesk → List ℕ → Option (List ℕ)
left_under desk name = left_at (get_by_text desk.inputs name)

-- the bytes that are left to read: none under a name that isn't there
abbrev pub left_to_read : CalmDesk → List ℕ → List ℕ
left_to_read desk name = unwrap_or (left_under desk name) []

-- the reads so far
abbrev pub reads_under : CalmDesk → List Reading
reads_under desk = desk.history.reads
