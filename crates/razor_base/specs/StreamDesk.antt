-- What is known of a desk over streams that are opened by their names.
use Rattle.std.specs.Prelude.{◌≡◌, ℕ, ◌+◌, List, Option, Some, IfSome, option_map, option_and_then, string_bytes}
use Rattle.razor_base.specs.Recorders.{recorded_reads}
use Rattle.razor_base.specs.Headline.Readings.{Reading}
use Rattle.razor_base.specs.declared.stream_desk.StreamDesk.{StreamDesk}
use Rattle.razor_base.specs.declared.stream_desk.Opened.{Opened}

-- one stream more was to be opened, where that is told
abbrev pub IsOpening : Option ℕ → Option ℕ → Type 0
IsOpening before after = IfSome before (λ count. after ≡ Some (count + 1))

-- the name of what is open, if anything is
abbrev pub name_of : {S : Type 0} → Option (Opened S) → Option (List ℕ)
name_of opened = option_map (λ o. string_bytes o.name) opened

-- the bytes that are left of what is open, where it tells them
abbrev pub left_of : {S : Type 0} → (S → Option (List ℕ)) → Option (Opened S) → Option (List ℕ)
left_of left opened = option_and_then (λ o. left o.stream) opened

abbrev pub open_name : {O S F I : Type 0} → StreamDesk O S F I → Option (List ℕ)
open_name desk = name_of desk.opened

abbrev pub left_open : {O S F I : Type 0} → (S → Option (List ℕ)) → StreamDesk O S F I → Option (List ℕ)
left_open left desk = left_of left desk.opened

-- what opens the streams
abbrev pub opener_of : {O S F I : Type 0} → StreamDesk O S F I → O
opener_of desk = desk.opener

-- how many reads failed
abbrev pub open_faults : {O S F I : Type 0} → StreamDesk O S F I → ℕ
open_faults desk = desk.faults

-- the reads so far
abbrev pub desk_reads : {O S F I : Type 0} → StreamDesk O S F I → List Reading
desk_reads desk = recorded_reads desk.recorder
