-- Where the code stands in a proof: the claims that it took, the words of a line, and the bytes of a text.
use Rattle.std.specs.Prelude.{◌≡◌, ℕ, ◌+◌, ◌≤◌, nat_eq, nat_le, ◌||◌, Bool, true, false, List, [], ◌∷◌, ◌++◌, Option, Some, None, Ok, Err, Result, IfSome, codes, is_some, length, option_map, take, if◌then◌else◌}
use Rattle.std.specs.List.{AllPairs}
use Rattle.field_boxes.specs.Headline.Fields.{IsHeader}
use Rattle.field_boxes.specs.Lists.{name_decided}
use Rattle.field_boxes.specs.Names.{name_at}
use Rattle.field_boxes.specs.declared.rule_list.RuleList.{RuleList}
use Rattle.ternary_words.specs.declared.table.Table.{Table}
use Rattle.text_lines.specs.Numbers.{plain_number}
use Rattle.partition_check.specs.Agreement.{name_answered}
use Rattle.partition_check.specs.CertificateText.{lines_of}
use Rattle.agreement_check.specs.declared.claims.Claims.{Claims}
use Rattle.agreement_check.specs.declared.claims.Due.{Due}
use Rattle.agreement_check.specs.declared.claims.Due.TheVariants as due
use Rattle.agreement_check.specs.declared.claims.Stage.{Stage}
use Rattle.agreement_check.specs.declared.claims.Stage.TheVariants as stage
use Rattle.agreement_check.specs.declared.cover.Cover.{Cover}
use Rattle.agreement_check.specs.declared.line.At.{At}
use Rattle.agreement_check.specs.declared.line.At.TheVariants as at
use Rattle.agreement_check.specs.declared.line.Line as code_line
use Rattle.agreement_check.specs.declared.reader.Reader.{Reader}
use Rattle.agreement_check.specs.declared.reader.Refusal.{Refusal}
use Rattle.agreement_check.specs.declared.reader.Refusal.TheVariants as refusals
use Rattle.agreement_check.specs.declared.step.Step.{Step}
use Rattle.agreement_check.specs.declared.step.Terms.{Terms}
use Rattle.agreement_check.specs.declared.valid.Difference.{Difference}
use Rattle.agreement_check.specs.declared.wrong.Why.{Why}
use Rattle.agreement_check.specs.declared.wrong.Wrong.{Wrong}
use Rattle.agreement_check.specs.Pairs.{comes_before}
use Rattle.agreement_check.specs.Steps.{place_in, steps_of}
use Rattle.agreement_check.specs.Covers.{Sides, Claim}
use Rattle.agreement_check.specs.Covering.{StandsFor}
use Rattle.agreement_check.specs.Claims.{Taken, begun, bound_of, entry_claim, pair_claim, rule_claim, sides_of}
use Rattle.agreement_check.specs.Texts.{Heading, Line, counts_due, header_due, heading_by, heading_of, numbers_in, terms_of, words_of}
use Rattle.agreement_check.specs.Views.{sides_in}
use Rattle.agreement_check.specs.Verdict.{Reading, FailsClaim, FailsHeading, FailsWords, IsDue, TakesAll, TakesClaim, TakesHeading, TakesWords, all_of, line_in, started, with_claims}

-- The claims.

abbrev pub header_of : Option Difference → Option (List ℕ)
header_of difference = option_map (λ (d : Difference). d.header.values) difference

abbrev pub taken_in : Claims → Taken
taken_in c = record { before = header_of c.difference; entries = c.entries.items; rules = c.rules.items; pairs = c.pairs.items }

abbrev pub reading_by : Stage → Taken → Reading
reading_by stage.Fresh t = started
reading_by stage.Begun t = with_claims t
reading_by stage.Ended t = all_of t

abbrev pub reading_in : Claims → Reading
reading_in c = reading_by c.stage (taken_in c)

abbrev pub list_in : Claims → RuleList
list_in c = c.sides.list.now

abbrev pub table_in : Claims → Table
table_in c = c.sides.table.now

abbrev pub rule_count : Claims → ℕ
rule_count c = length (list_in c).rules.items

abbrev pub entry_count : Claims → ℕ
entry_count c = length (table_in c).entries.items

-- list and table give the header that a difference states these names, which are others
pub record IsDifferenceOf (list : RuleList) (table : Table) (d : Difference) : Type 0 where
  pub left : name_at list.names d.left ≡ name_decided list d.header.values
  pub right : name_at table.names d.right ≡ name_answered table d.header.values

-- what always holds of the claims
pub record IsSound (c : Claims) : Type 0 where
  pub bound : c.sides.bound ≡ bound_of (header_of c.difference)
  pub fresh : c.stage ≡ stage.Fresh → taken_in c ≡ begun None
  pub few_entries : length c.entries.items ≤ entry_count c + 1
  pub few_rules : length c.rules.items ≤ rule_count c + 1
  pub rising : AllPairs (λ p q. comes_before p q ≡ true) c.pairs.items
  pub names : IfSome c.difference (IsDifferenceOf (list_in c) (table_in c))

-- which kind of line is due
abbrev pub claim_due_in : Claims → Due
claim_due_in c =
    if nat_le (length c.entries.items) (entry_count c) then due.Entry else (if nat_le (length c.rules.items) (rule_count c) then due.Rule else due.Pair)

abbrev pub due_by : Stage → Due → Due
due_by stage.Fresh kind = due.Heading
due_by stage.Begun kind = kind
due_by stage.Ended kind = due.Nothing

abbrev pub due_in : Claims → Due
due_in c = due_by c.stage (claim_due_in c)

abbrev pub is_entry : Due → Bool
is_entry due.Entry = true
is_entry kind = false

abbrev pub terms_in : Claims → Terms
terms_in c = terms_of (rule_count c) (entry_count c) (if is_entry (claim_due_in c) then false else true) (is_some c.difference)

-- The words of a line.

-- so many words of the first line, each what it has to be, with these numbers
pub record IsHeadingFront (place : ℕ) (numbers : List ℕ) (words : List (List ℕ)) : Type 0 where
  pub count : length words ≡ place
  pub few : place ≤ 12
  pub numbers_are : numbers_in (take place (counts_due ++ header_due)) words ≡ Some numbers

-- the first words of the line of a pair, before its cover
abbrev pub IsPairFront : ℕ → List ℕ → List (List ℕ) → Type 0
IsPairFront rules [] (kind ∷ []) = kind ≡ codes "p"
IsPairFront rules (i ∷ []) (kind ∷ word ∷ []) = (kind ≡ codes "p") × (place_in rules word ≡ Some i)
IsPairFront rules numbers words = ⊥

-- the first words of the last line
abbrev pub IsLastFront : List ℕ → List (List ℕ) → Type 0
IsLastFront [] (kind ∷ []) = kind ≡ codes "pairs"
IsLastFront (k ∷ []) (kind ∷ word ∷ []) = (kind ≡ codes "pairs") × (plain_number 4294967295 word ≡ Some k)
IsLastFront numbers words = ⊥

-- the words spell steps, and what is kept of them stands for these
pub record AreStepsOf (terms : Terms) (s : Sides) (c : Claim) (cover : Cover) (words : List (List ℕ)) : Type 0 where
  pub steps : List Step
  pub spelled : steps_of terms words ≡ Some steps
  pub stands : StandsFor s c steps cover

-- list and table, and how far they are compared
abbrev pub own_sides : Claims → Sides
own_sides c = sides_in c.sides

-- the words of a line with a cover, by the kind that is due
abbrev pub IsCoverFront : Claims → Due → List ℕ → Cover → List (List ℕ) → Type 0
IsCoverFront c due.Entry numbers cover (kind ∷ words) =
    (kind ≡ codes "e") × AreStepsOf (terms_in c) (own_sides c) (entry_claim (own_sides c) (length c.entries.items)) cover words
IsCoverFront c due.Rule numbers cover (kind ∷ words) =
    (kind ≡ codes "r") × AreStepsOf (terms_in c) (own_sides c) (rule_claim (own_sides c) (length c.rules.items)) cover words
IsCoverFront c due.Pair (i ∷ j ∷ []) cover (kind ∷ rule ∷ entry ∷ words) =
    (kind ≡ codes "p") × (place_in (rule_count c + 1) rule ≡ Some i) × (place_in (entry_count c + 1) entry ≡ Some j)
    × AreStepsOf (terms_in c) (own_sides c) (pair_claim (own_sides c) (record { rule = i; entry = j })) cover words
IsCoverFront c kind numbers cover words = ⊥

-- the words are those of no line that is due
abbrev pub HasNoForm : RuleList → Table → Option Taken → Bool → List (List ℕ) → Type 0
HasNoForm list table None ended words = heading_of words ≡ None
HasNoForm list table (Some t) false words = IfSome (line_in list table t words) (λ line. ¬ IsDue (sides_of list table t) t line)
HasNoForm list table (Some t) true words = Unit {0}

-- what is kept of a line stands for these words
abbrev pub IsAt : Claims → At → code_line.Line → List (List ℕ) → Type 0
IsAt c at.Start line words = words ≡ []
IsAt c (at.Heading place) line words = (c.stage ≡ stage.Fresh) × IsHeadingFront place line.numbers.items words
IsAt c at.Pair line words = (due_in c ≡ due.Pair) × IsPairFront (rule_count c + 1) line.numbers.items words
IsAt c at.Cover line words = (c.stage ≡ stage.Begun) × IsCoverFront c (claim_due_in c) line.numbers.items line.cover words
IsAt c at.Last line words = (due_in c ≡ due.Pair) × IsLastFront line.numbers.items words
IsAt c at.Nothing line words = (more : List (List ℕ)) → HasNoForm (list_in c) (table_in c) (reading_in c).taken (reading_in c).ended (words ++ more)

-- one word more
abbrev pub IsBehind : {E : Type 0} → Claims → At → code_line.Line → List ℕ → Result At E → code_line.Line → Type 0
IsBehind c here old word (Ok next) new = (words : List (List ℕ)) → IsAt c here old words → IsAt c next new (words ++ word ∷ [])
IsBehind c here old word (Err error) new = Unit {0}

-- the line of these words is taken, or wrong
abbrev pub Judges : Claims → List (List ℕ) → Option Why → Claims → Type 0
Judges old words None new = TakesWords (list_in old) (table_in old) (reading_in old).taken (reading_in old).ended words (reading_in new)
Judges old words (Some why) new = FailsWords (list_in old) (table_in old) (reading_in old).taken (reading_in old).ended words why

-- the same of a first line that says this, or nothing
abbrev pub JudgesHeading : Claims → Option Heading → Option Why → Claims → Type 0
JudgesHeading old heading None new = TakesHeading (list_in old) (table_in old) heading (reading_in new)
JudgesHeading old heading (Some why) new = FailsHeading (list_in old) (table_in old) heading why

-- what a first line of so many words says in which these numbers stand
abbrev pub heading_at : ℕ → List ℕ → Option Heading
heading_at words numbers = if nat_eq words 6 || nat_eq words 12 then heading_by numbers else None

-- the header that it states, if it states one, is a header
abbrev pub StatesHeader : Option Heading → Type 0
StatesHeader heading = IfSome heading (λ h. IfSome h.before IsHeader)

-- and of a claim
abbrev pub JudgesClaim : Claims → Line → Option Why → Claims → Type 0
JudgesClaim old line None new = TakesClaim (own_sides old) (taken_in old) line (reading_in new)
JudgesClaim old line (Some why) new = FailsClaim (own_sides old) (taken_in old) line why

-- list and table stay
abbrev pub KeepsSides : Claims → Claims → Type 0
KeepsSides old new = (list_in new ≡ list_in old) × (table_in new ≡ table_in old)

-- The bytes of a text.

-- what is kept stands for a text: its lines are taken, and behind them these words of a line, and the unfinished one
pub record IsAfter (list : RuleList) (table : Table) (text : List ℕ) (r : Reader) : Type 0 where
  pub list_is : list_in r.claims ≡ list
  pub table_is : table_in r.claims ≡ table
  pub takes : TakesAll list table started (lines_of text).whole (reading_in r.claims)
  pub words : List (List ℕ)
  pub word : List ℕ
  pub parts : words_of (lines_of text).rest ≡ words ++ word ∷ []
  pub kept : r.word.items ≡ take 13 word
  pub stands : IsAt r.claims r.line.at r.line words
  pub begins : words ≡ [] → r.line.at ≡ at.Start

-- what a refusal says of a text, unless memory was refused
abbrev pub IfWrong : Refusal → (Wrong → Type 0) → Type 0
IfWrong (refusals.Wrong wrong) P = P wrong
IfWrong refusals.Memory P = Unit {0}
