-- The lists of the tables as the code keeps them.
use Rattle.std.specs.Prelude.{option_map}
use Rattle.edit_session.specs.Lists.{Listed}
use Rattle.edit_session.specs.Machine.{Copies}
use Rattle.edit_session.specs.declared.table_lists.TableLists.TheInside.{Inside}

-- the rules of the lists
abbrev pub copies_of : Inside → Copies
copies_of c = record { settled = c.settled.rules; pending = option_map (λ (l : Listed). l.rules) c.pending }
