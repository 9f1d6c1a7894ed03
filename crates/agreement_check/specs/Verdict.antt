-- The verdict on a proof: its lines are taken in turn, and the first that is wrong decides.
use Rattle.std.specs.Prelude.{◌≡◌, ◌≢◌, ℕ, ◌+◌, ◌<◌, ◌⊎◌, Bool, true, false, List, [], ◌∷◌, ◌++◌, Option, Some, None, is_some, length, if◌then◌else◌}
use Rattle.std.specs.Option.{option_map_or}
use Rattle.field_boxes.specs.Lists.{name_decided}
use Rattle.field_boxes.specs.Names.{name_at}
use Rattle.field_boxes.specs.declared.rule_list.RuleList.{RuleList}
use Rattle.ternary_words.specs.declared.table.Table.{Table}
use Rattle.partition_check.specs.Agreement.{AgreeOn, name_answered}
use Rattle.partition_check.specs.CertificateText.{lines_of}
use Rattle.agreement_check.specs.declared.pair.Pair.{Pair}
use Rattle.agreement_check.specs.declared.valid.Shown.{Shown}
use Rattle.agreement_check.specs.declared.valid.Shown.TheVariants.{Equal, Differ}
use Rattle.agreement_check.specs.declared.valid.Valid.{Valid}
use Rattle.agreement_check.specs.declared.wrong.Counts.{Counts}
use Rattle.agreement_check.specs.declared.wrong.Why.{Why}
use Rattle.agreement_check.specs.declared.wrong.Why.TheVariants.{Form, CountsDiffer, DecidedAlike, Order, EntryCover, RuleCover, PairCover, PairMissing, PairsDiffer, EndsEarly}
use Rattle.agreement_check.specs.declared.wrong.Wrong.{Wrong}
use Rattle.agreement_check.specs.Covers.{Sides, IsCover, rules_named, entries_named}
use Rattle.agreement_check.specs.Claims.{Taken, begun, sides_of, entry_claim, rule_claim, pair_claim, ComesNext, EachHasLine, IsFirstMissing}
use Rattle.agreement_check.specs.Texts.{Heading, Line, entry_line, rule_line, pair_line, last_line, heading_of, line_of, words_of}

-- a proof of which some lines were taken: none yet, or the first one and these claims, and the last one, if that came
pub record Reading : Type 0 where
  pub taken : Option Taken
  pub ended : Bool

abbrev pub started : Reading
started = record { taken = None; ended = false }

abbrev pub with_claims : Taken → Reading
with_claims t = record { taken = Some t; ended = false }

abbrev pub all_of : Taken → Reading
all_of t = record { taken = Some t; ended = true }

-- how many lines were taken
abbrev pub lines_taken : Reading → ℕ
lines_taken r = option_map_or (λ (t : Taken). 1 + (length t.entries + length t.rules + length t.pairs)) r.taken 0 + (if r.ended then 1 else 0)

-- The first line.

abbrev pub counts_in : Heading → Counts
counts_in h = record { rules = h.rules; entries = h.entries }

abbrev pub counts_of : RuleList → Table → Counts
counts_of list table = record { rules = length list.rules.items; entries = length table.entries.items }

-- list and table decide the stated header alike
abbrev pub DecideStatedAlike : RuleList → Table → Heading → Type 0
DecideStatedAlike list table h = (header : List ℕ) × (h.before ≡ Some header) × AgreeOn list table header

abbrev pub TakesHeading : RuleList → Table → Option Heading → Reading → Type 0
TakesHeading list table None after = ⊥
TakesHeading list table (Some h) after = (counts_in h ≡ counts_of list table) × ¬ DecideStatedAlike list table h × (after ≡ with_claims (begun h.before))

abbrev pub FailsHeading : RuleList → Table → Option Heading → Why → Type 0
FailsHeading list table None why = why ≡ Form
FailsHeading list table (Some h) why =
    ((why ≡ CountsDiffer (counts_in h) (counts_of list table)) × (counts_in h ≢ counts_of list table))
    ⊎ ((why ≡ DecidedAlike) × (counts_in h ≡ counts_of list table) × DecideStatedAlike list table h)

-- The lines behind it.

-- each entry had a line, and each rule, with the open ones
abbrev pub EntriesAreDone : Sides → Taken → Type 0
EntriesAreDone s t = length s.table.entries.items < length t.entries

abbrev pub RulesAreDone : Sides → Taken → Type 0
RulesAreDone s t = length s.list.rules.items < length t.rules

-- a line of this kind is due: one of each entry, then one of each rule, then those of pairs and the last one
abbrev pub IsDue : Sides → Taken → Line → Type 0
IsDue s t (entry_line steps) = ¬ EntriesAreDone s t
IsDue s t (rule_line steps) = EntriesAreDone s t × ¬ RulesAreDone s t
IsDue s t (pair_line p steps) = EntriesAreDone s t × RulesAreDone s t
IsDue s t (last_line k) = EntriesAreDone s t × RulesAreDone s t

-- a claim is taken
abbrev pub TakesClaim : Sides → Taken → Line → Reading → Type 0
TakesClaim s t (entry_line steps) after = IsCover s (entry_claim s (length t.entries)) steps × (after ≡ with_claims (record t { entries = t.entries ++ rules_named steps ∷ [] }))
TakesClaim s t (rule_line steps) after = IsCover s (rule_claim s (length t.rules)) steps × (after ≡ with_claims (record t { rules = t.rules ++ entries_named steps ∷ [] }))
TakesClaim s t (pair_line p steps) after = ComesNext t.pairs p × IsCover s (pair_claim s p) steps × (after ≡ with_claims (record t { pairs = t.pairs ++ p ∷ [] }))
TakesClaim s t (last_line k) after = EachHasLine s t × (k ≡ length t.pairs) × (after ≡ all_of t)

-- or it is wrong, for the first of the reasons that it gives
abbrev pub FailsClaim : Sides → Taken → Line → Why → Type 0
FailsClaim s t (entry_line steps) why = (why ≡ EntryCover) × ¬ IsCover s (entry_claim s (length t.entries)) steps
FailsClaim s t (rule_line steps) why = (why ≡ RuleCover) × ¬ IsCover s (rule_claim s (length t.rules)) steps
FailsClaim s t (pair_line p steps) why =
    ((why ≡ Order) × ¬ ComesNext t.pairs p) ⊎ ((why ≡ PairCover) × ComesNext t.pairs p × ¬ IsCover s (pair_claim s p) steps)
FailsClaim s t (last_line k) why =
    ((p : Pair) × (why ≡ PairMissing (p.rule + 1) (p.entry + 1)) × IsFirstMissing s t p)
    ⊎ ((why ≡ PairsDiffer k (length t.pairs)) × EachHasLine s t × (k ≢ length t.pairs))

abbrev pub TakesNext : Sides → Taken → Option Line → Reading → Type 0
TakesNext s t None after = ⊥
TakesNext s t (Some line) after = IsDue s t line × TakesClaim s t line after

abbrev pub FailsNext : Sides → Taken → Option Line → Why → Type 0
FailsNext s t None why = why ≡ Form
FailsNext s t (Some line) why = ((why ≡ Form) × ¬ IsDue s t line) ⊎ (IsDue s t line × FailsClaim s t line why)

-- All lines.

abbrev pub line_in : RuleList → Table → Taken → List (List ℕ) → Option Line
line_in list table t words = line_of (length list.rules.items) (length table.entries.items) (is_some t.before) words

abbrev pub TakesWords : RuleList → Table → Option Taken → Bool → List (List ℕ) → Reading → Type 0
TakesWords list table None ended words after = TakesHeading list table (heading_of words) after
TakesWords list table (Some t) false words after = TakesNext (sides_of list table t) t (line_in list table t words) after
TakesWords list table (Some t) true words after = ⊥

-- each line after the last one is wrong
abbrev pub FailsWords : RuleList → Table → Option Taken → Bool → List (List ℕ) → Why → Type 0
FailsWords list table None ended words why = FailsHeading list table (heading_of words) why
FailsWords list table (Some t) false words why = FailsNext (sides_of list table t) t (line_in list table t words) why
FailsWords list table (Some t) true words why = why ≡ Form

abbrev pub TakesLine : RuleList → Table → Reading → List ℕ → Reading → Type 0
TakesLine list table r line after = TakesWords list table r.taken r.ended (words_of line) after

pub record FailsLine (list : RuleList) (table : Table) (r : Reading) (line : List ℕ) (w : Wrong) : Type 0 where
  pub line_is : w.line ≡ lines_taken r + 1
  pub why : FailsWords list table r.taken r.ended (words_of line) w.why

-- all lines are taken in turn
abbrev pub TakesAll : RuleList → Table → Reading → List (List ℕ) → Reading → Type 0
TakesAll list table r [] after = after ≡ r
TakesAll list table r (line ∷ lines) after = (next : Reading) × TakesLine list table r line next × TakesAll list table next lines after

-- one of the lines is wrong, and those before it are taken
abbrev pub FindsWrong : RuleList → Table → Reading → List (List ℕ) → Wrong → Type 0
FindsWrong list table r [] w = ⊥
FindsWrong list table r (line ∷ lines) w =
    FailsLine list table r line w ⊎ ((next : Reading) × TakesLine list table r line next × FindsWrong list table next lines w)

-- what a text ends with that doesn't end with its last line: no last line, or bytes without a line feed
abbrev pub LacksEnd : Bool → List ℕ → Why → Type 0
LacksEnd false [] why = why ≡ EndsEarly
LacksEnd true [] why = ⊥
LacksEnd ended (b ∷ rest) why = why ≡ Form

pub record EndsBadly (r : Reading) (rest : List ℕ) (w : Wrong) : Type 0 where
  pub line_is : w.line ≡ lines_taken r + 1
  pub why : LacksEnd r.ended rest w.why

-- what is shown: agreement, or the stated header, with the names that list and table decide on it
abbrev pub IsShown : RuleList → Table → Option (List ℕ) → Shown → Type 0
IsShown list table before Equal = before ≡ None
IsShown list table before (Differ d) =
    (before ≡ Some d.header.values) × (name_at list.names d.left ≡ name_decided list d.header.values) × (name_at table.names d.right ≡ name_answered table d.header.values)

-- the text is valid: all lines are taken, the last one ends it, and this is what it shows
pub record IsValid (list : RuleList) (table : Table) (text : List ℕ) (v : Valid) : Type 0 where
  pub taken : Taken
  pub takes : TakesAll list table started (lines_of text).whole (all_of taken)
  pub whole : (lines_of text).rest ≡ []
  pub pairs : v.pairs ≡ length taken.pairs
  pub shown : IsShown list table taken.before v.shown

-- the text is wrong at its end: all lines are taken, and it doesn't end with its last line
pub record IsUnended (list : RuleList) (table : Table) (text : List ℕ) (w : Wrong) : Type 0 where
  pub after : Reading
  pub takes : TakesAll list table started (lines_of text).whole after
  pub ends : EndsBadly after (lines_of text).rest w

-- the text is wrong: one of its lines, or its end
abbrev pub IsWrong : RuleList → Table → List ℕ → Wrong → Type 0
IsWrong list table text w = FindsWrong list table started (lines_of text).whole w ⊎ IsUnended list table text w

-- no line of the text is wrong
abbrev pub HasNoWrongLine : RuleList → Table → List ℕ → Type 0
HasNoWrongLine list table text = (after : Reading) × TakesAll list table started (lines_of text).whole after
