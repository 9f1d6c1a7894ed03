-- How a word reads, as the code tells it.
use Rattle.command_words.specs.declared.reading.WordKind.{WordKind}
use Rattle.command_words.specs.declared.reading.WordKind.TheVariants as code
use Rattle.command_words.specs.Items.{Reading, Ends, Awaits, Gives, Stands, Fails}

abbrev pub kind_seen : WordKind → Reading
kind_seen code.Ends = Ends
kind_seen (code.Awaits option) = Awaits option
kind_seen (code.Gives option value) = Gives option value.now
kind_seen code.Stands = Stands
kind_seen code.Fails = Fails
