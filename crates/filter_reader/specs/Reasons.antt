-- What is wrong with a line of a list, in words.
use Rattle.std.specs.Prelude.{ℕ, List, codes}
use Rattle.filter_reader.specs.declared.reason.Reason.{Reason}
use Rattle.filter_reader.specs.declared.reason.Reason.TheVariants.{NoAt, Address, Length, PortForm, PortOrder, PortRange, ProtocolForm, ProtocolMask, FlagsForm, DecisionForm, Reserved, Extra, TooManyRules, NotAscii, TooManyRanges}

abbrev pub reason_text : Reason → List ℕ
reason_text NoAt = codes "no @"
reason_text Address = codes "address"
reason_text Length = codes "length"
reason_text PortForm = codes "port form"
reason_text PortOrder = codes "port order"
reason_text PortRange = codes "port range"
reason_text ProtocolForm = codes "protocol form"
reason_text ProtocolMask = codes "protocol mask"
reason_text FlagsForm = codes "flags form"
reason_text DecisionForm = codes "decision form"
reason_text Reserved = codes "reserved word"
reason_text Extra = codes "extra column"
reason_text TooManyRules = codes "one rule too many"
reason_text NotAscii = codes "byte not ASCII"
reason_text TooManyRanges = codes "too many ranges"
