-- What is known of standard output and standard error.
use Rattle.std.specs.Prelude.{ℕ, List}
use Rattle.razor_base.specs.Headline.Outcomes.{CallOutcome}
use Rattle.razor_base.specs.HostStream.{drain_writes}
use Rattle.razor_base.specs.declared.host_sink.HostSink.{HostSink}

-- how many writes failed
abbrev pub stream_faults : {P : Type 0} → HostSink P → ℕ
stream_faults sink = sink.sink.faults

-- the writes so far
abbrev pub stream_writes : {P : Type 0} → HostSink P → List CallOutcome
stream_writes sink = drain_writes sink.sink.drain
