-- What a recorder noted.
use Rattle.std.specs.Prelude.{ℕ, ◌==◌, List, [], ◌∷◌, ◌++◌, take, if◌then◌else◌}
use Rattle.razor_base.specs.Headline.Outcomes.{CallOutcome, outcome_of}
use Rattle.razor_base.specs.Headline.Readings.{Reading}
use Rattle.razor_base.specs.declared.read_recorder.ReadRecorder.{ReadRecorder}
use Rattle.razor_base.specs.declared.write_recorder.WriteRecorder.{WriteRecorder}

-- the reads so far
abbrev pub recorded_reads : {F I : Type 0} → ReadRecorder F I → List Reading
recorded_reads recorder = recorder.history.reads

-- the writes so far
abbrev pub recorded_writes : {W : Type 0} → WriteRecorder W → List CallOutcome
recorded_writes recorder = recorder.history.writes

-- the writes with one more that took so many bytes of the piece; where it took none it isn't noted yet, since it may be tried again
abbrev pub with_write : List CallOutcome → ℕ → List ℕ → List CallOutcome
with_write writes n piece = if n == 0 then writes else writes ++ outcome_of (take n piece) ∷ []
