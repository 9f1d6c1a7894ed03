-- Lines and what they come to, for the worked rows.
use Rattle.std.specs.Prelude.{ℕ, List, [], ◌∷◌, ◌++◌, Some, false, Result, Ok, Err, codes}
use Rattle.std.specs.List.{join_with_byte}
use Rattle.field_boxes.specs.Headline.Classifier.{Interval}
use Rattle.filter_reader.specs.declared.reason.Reason.{Reason}
use Rattle.filter_reader.specs.declared.reason.Reason.TheVariants.{NoAt, Address, Length, PortForm, PortOrder, PortRange, ProtocolForm, ProtocolMask, FlagsForm, DecisionForm, Reserved, Extra, NotAscii, TooManyRanges}
use Rattle.filter_reader.specs.Headline.RuleLine.{SpelledRule, rule_line}
use Rattle.field_boxes.specs.Headline.FilterList.{FilterList}
use Rattle.text_lines.specs.Headline.Reading.{BadLine}

abbrev pub one : ℕ → ℕ → List Interval
one lo hi = record { lo = lo; hi = hi } ∷ []

-- one destination port and one protocol, with tabs between the columns and flags, and a tab at the end
abbrev pub flagged_line : List ℕ
flagged_line = join_with_byte 9 (codes "@10.0.0.0/8" ∷ codes "0.0.0.0/0" ∷ codes "0 : 65535" ∷ codes "80 : 80" ∷ codes "0x06/0xFF" ∷ codes "0x0000/0x0200" ∷ [] ∷ [])

abbrev pub web_sets : List (List Interval)
web_sets = one 167772160 184549375 ∷ one 0 4294967295 ∷ one 0 65535 ∷ one 80 80 ∷ one 6 6 ∷ []

-- rules with one destination port column, or with that and one protocol column, and all else open
abbrev pub with_ports : List ℕ → List ℕ
with_ports ports = codes "@0.0.0.0/0 0.0.0.0/0 0 : 65535 " ++ ports ++ codes " 0x00/0x00 accept"

abbrev pub with_protocol : List ℕ → List ℕ
with_protocol protocol = codes "@0.0.0.0/0 0.0.0.0/0 0 : 65535 0 : 65535 " ++ protocol

-- what a rule with these destination ports spells
abbrev pub spelled_ports : List Interval → Result SpelledRule Reason
spelled_ports ports = Ok (record { sets = one 0 4294967295 ∷ one 0 4294967295 ∷ one 0 65535 ∷ ports ∷ one 0 255 ∷ []; word = Some (codes "accept"); flagged = false })

-- seventeen ranges
abbrev pub many_ranges : List ℕ
many_ranges = join_with_byte 44 (r ∷ r ∷ r ∷ r ∷ r ∷ r ∷ r ∷ r ∷ r ∷ r ∷ r ∷ r ∷ r ∷ r ∷ r ∷ r ∷ r ∷ [])
  where
    r : List ℕ
    r = codes "1 : 1"

-- bad lines, each with its first reason
abbrev pub bad_lines : List (List ℕ × Reason)
bad_lines =
    (codes "10.0.0.0/8 0.0.0.0/0 0 : 65535 80 : 80 0x06/0xFF", NoAt)
    ∷ (codes "@10.0.0/8 0.0.0.0/0 0 : 65535 80 : 80 0x06/0xFF", Address)
    ∷ (codes "@10.0.0.0 256.0.0.0/0 0 : 65535 80 : 80 0x06/0xFF", Length)
    ∷ (codes "@10.0.0.0/8 0.0.0.0/33 0 : 65535 80 : 80 0x06/0xFF", Length)
    ∷ (codes "@10.0.0.0/8", Address)
    ∷ (codes "@10.0.0.0/8 0.0.0.0/0 0 - 65535 80 : 80 0x06/0xFF", PortForm)
    ∷ (with_ports (codes "80 : 80,"), PortForm)
    ∷ (with_ports (codes "90 : 80 , 65536 : 1 , 5"), PortForm)
    ∷ (with_ports many_ranges, TooManyRanges)
    ∷ (with_ports (codes "90 : 80 , 65536 : 1"), PortRange)
    ∷ (with_ports (codes "80 : 80,90 : 89"), PortOrder)
    ∷ (with_protocol (codes "0x006/0xFF accept"), ProtocolForm)
    ∷ (with_protocol (codes "0x06/0x0F 1/2"), ProtocolMask)
    ∷ (with_protocol (codes "0x06/0xFF 1/2 a,b"), FlagsForm)
    ∷ (with_protocol (codes "0x06/0xFF 0x0/0x0 0x0/0x0"), DecisionForm)
    ∷ (with_protocol (codes "0x06/0xFF miss x"), Reserved)
    ∷ (with_protocol (codes "0x06/0xFF a,b"), Extra)
    ∷ (128 ∷ codes "0.0.0.0/0", NotAscii)
    ∷ []

-- a line of this number is bad for this reason
abbrev pub refused : ℕ → Reason → Result FilterList (BadLine Reason)
refused line reason = Err (record { line = line; reason = reason })

-- what the first rule line spells, and that it is refused for this reason
abbrev pub spelled_by : List ℕ × Reason → Result SpelledRule Reason
spelled_by row = rule_line 0 row.0

abbrev pub refused_by : List ℕ × Reason → Result SpelledRule Reason
refused_by row = Err row.1
