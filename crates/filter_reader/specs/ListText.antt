-- The text of a filter list as it is written, in the form of the ClassBench filter format (Taylor and Turner).
use Rattle.std.specs.Prelude.{ℕ, ◌-◌, ◌/◌, ◌%◌, ◌^◌, ◌==◌, true, List, [], ◌∷◌, ◌++◌, map, codes, if◌then◌else◌}
use Rattle.std.specs.List.{flat_map, join_with_byte}
use Rattle.std.specs.Fmt.{decimal, digit_glyph}
use Rattle.std.specs.Int.{leading_zeros, w32}
use Rattle.field_boxes.specs.Headline.Classifier.{Interval, Rule}
use Rattle.field_boxes.specs.Names.{is_decision_word}

-- a.b.c.d
abbrev pub address_text : ℕ → List ℕ
address_text v = decimal (v / 2 ^ 24) ++ 46 ∷ decimal (v / 2 ^ 16 % 256) ++ 46 ∷ decimal (v / 2 ^ 8 % 256) ++ 46 ∷ decimal (v % 256)

-- the least address, '/', and the number of first bits in which the least and the greatest agree
abbrev pub prefix_text : Interval → List ℕ
prefix_text i = address_text i.lo ++ 47 ∷ decimal (leading_zeros w32 (i.hi - i.lo))

-- the ends of a range, with ':' and blanks between them
abbrev pub range_text : Interval → List ℕ
range_text i = decimal i.lo ++ codes " : " ++ decimal i.hi

-- the ranges, parted by ','
abbrev pub ports_text : List Interval → List ℕ
ports_text set = join_with_byte 44 (map range_text set)

-- one protocol in two hexadecimal digits, or every protocol
abbrev pub protocol_text : Interval → List ℕ
protocol_text i = if i.lo == i.hi then codes "0x" ++ digit_glyph true (i.lo / 16) ∷ digit_glyph true (i.lo % 16) ∷ codes "/0xFF" else codes "0x00/0x00"

-- a decision word behind a tab, and nothing for a rule that is named by its own number
abbrev pub decision_text : List ℕ → List ℕ
decision_text name = if is_decision_word name then 9 ∷ name else []

-- the text of the only interval of a set
abbrev pub only : (Interval → List ℕ) → List Interval → List ℕ
only text [] = []
only text (i ∷ set) = text i

-- the columns of a rule but for the decision, each behind a tab
abbrev pub columns_text : List (List Interval) → List ℕ
columns_text [] = []
columns_text (source ∷ []) = []
columns_text (source ∷ destination ∷ []) = []
columns_text (source ∷ destination ∷ source_ports ∷ []) = []
columns_text (source ∷ destination ∷ source_ports ∷ destination_ports ∷ []) = []
columns_text (source ∷ destination ∷ source_ports ∷ destination_ports ∷ protocol ∷ sets) =
    64 ∷ only prefix_text source ++ 9 ∷ only prefix_text destination ++ 9 ∷ ports_text source_ports ++ 9 ∷ ports_text destination_ports ++ 9 ∷ only protocol_text protocol

-- the line of a rule: '@', its columns with a tab between them, and the end of the line
abbrev pub rule_text : Rule (List ℕ) → List ℕ
rule_text rule = columns_text rule.sets ++ decision_text rule.decision ++ 10 ∷ []

-- a line for each rule
abbrev pub list_text : List (Rule (List ℕ)) → List ℕ
list_text rules = flat_map rule_text rules
