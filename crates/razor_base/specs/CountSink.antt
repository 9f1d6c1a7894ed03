-- What is known of an output that counts bytes.
use Rattle.std.specs.Prelude.{ℕ, List}
use Rattle.razor_base.specs.Headline.Outcomes.{CallOutcome}
use Rattle.razor_base.specs.declared.count_sink.CountSink.{CountSink}

-- how many bytes were counted
abbrev pub counted_bytes : CountSink → ℕ
counted_bytes sink = sink.count

-- the writes so far
abbrev pub counted_writes : CountSink → List CallOutcome
counted_writes sink = sink.history.writes
