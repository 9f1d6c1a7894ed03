-- What is known of files and standard input.
use Rattle.std.specs.Prelude.{ℕ, List, Option}
use Rattle.razor_base.specs.Headline.Readings.{Reading}
use Rattle.razor_base.specs.StreamDesk.{desk_reads, open_name}
use Rattle.razor_base.specs.declared.host_desk.HostDesk.{HostDesk}

-- how many reads failed
abbrev pub file_faults : {R F D I : Type 0} → HostDesk R F D I → ℕ
file_faults desk = desk.desk.faults

-- the name under which a file or standard input is open, if any is
abbrev pub host_name : {R F D I : Type 0} → HostDesk R F D I → Option (List ℕ)
host_name desk = open_name desk.desk

-- the reads so far
abbrev pub file_reads : {R F D I : Type 0} → HostDesk R F D I → List Reading
file_reads desk = desk_reads desk.desk
