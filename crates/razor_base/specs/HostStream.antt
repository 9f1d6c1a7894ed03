-- What the streams of the system are, and the bytes that they tell.
use Rattle.std.specs.Prelude.{ℕ, List, Option}
use Rattle.razor_base.specs.Headline.Outcomes.{CallOutcome}
use Rattle.razor_base.specs.Recorders.{recorded_writes}
use Rattle.razor_base.specs.declared.host_stream.HostDrain.{HostDrain}
use Rattle.razor_base.specs.declared.host_stream.HostSource.{HostSource}
use Rattle.razor_base.specs.declared.host_stream.HostSource.TheVariants.{File, Input}

-- it is standard input
abbrev pub IsInput : {F I : Type 0} → HostSource F I → Type 0
IsInput (File file) = ⊥
IsInput (Input input) = Unit {0}

-- the bytes that are left of a file or of standard input, where it tells them
abbrev pub source_left : {F I : Type 0} → (F → Option (List ℕ)) → (I → Option (List ℕ)) → HostSource F I → Option (List ℕ)
source_left of_file of_input (File file) = of_file file
source_left of_file of_input (Input input) = of_input input

-- the writes so far
abbrev pub drain_writes : {W : Type 0} → HostDrain W → List CallOutcome
drain_writes drain = recorded_writes drain.recorder
