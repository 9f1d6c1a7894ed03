use Rattle.std.proofs.Common.{◌≡◌, length, List}
use Rattle.field_boxes.specs.Headline.Classifier.{Interval}
use Rattle.filter_reader.specs.Headline.Ports.{ranges_of}
use Rattle.filter_reader.specs.Ranges.{SumsUp}
use Rattle.filter_reader.specs.Headline.Tokens.{tokens}
use Rattle.filter_reader.proofs.RangeLists.{behind_ranges}
use Rattle.filter_reader.proofs.ranges.read_ranges.Given as goal

abbrev pub invariant-columns : goal.invariant-columns
invariant-columns l = (front : List Interval) × SumsUp front l.ranges × (ranges_of (tokens l.line) ≡ behind_ranges front (ranges_of (tokens l.rest)))

abbrev pub decreases-columns : goal.decreases-columns
decreases-columns l = length l.rest
