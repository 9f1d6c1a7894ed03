-- Proofs that come piece by piece.
use Rattle.std.specs.Prelude.{◌≡◌, ℕ, ◌⊎◌, ◌≤◌, ◌<◌, List, [], ◌++◌, Result, Ok, Err, length, take}
use Rattle.field_boxes.specs.declared.rule_list.RuleList.{RuleList}
use Rattle.ternary_words.specs.declared.table.Table.{Table}
use Rattle.razor_base.specs.Headline.Readings.{Reading}
use Rattle.razor_base.specs.Turns.{ArePieces, IsFailedTurn, IsUnfailed, IsWholeTurn}
use Rattle.partition_check.specs.CertificateText.{lines_of}
use Rattle.agreement_check.specs.declared.stream.Stop.{Stop}
use Rattle.agreement_check.specs.declared.stream.Stop.TheVariants as stops
use Rattle.agreement_check.specs.declared.valid.Valid.{Valid}
use Rattle.agreement_check.specs.declared.wrong.Wrong.{Wrong}
use Rattle.agreement_check.specs.Verdict.{FindsWrong, HasNoWrongLine, IsUnended, IsValid, started}

-- the whole input is valid, it is within the limit, and all of it was read
pub record ReadsValid (list : RuleList) (table : Table) (limit : ℕ) (all left : List ℕ) (v : Valid) : Type 0 where
  pub valid : IsValid list table all v
  pub within : length all ≤ limit
  pub whole : left ≡ []

-- a line is wrong that ends within the limit; or the input is within the limit, and wrong at its end
abbrev pub ReadsWrong : RuleList → Table → ℕ → List ℕ → Wrong → Type 0
ReadsWrong list table limit all w = FindsWrong list table started (lines_of (take limit all)).whole w ⊎ ((length all ≤ limit) × IsUnended list table all w)

-- the input goes on after the limit, and no line that ends within it is wrong
pub record ReadsTooMuch (list : RuleList) (table : Table) (limit : ℕ) (all : List ℕ) : Type 0 where
  pub longer : limit < length all
  pub right : HasNoWrongLine list table (take limit all)

-- these bytes were read before a fault: no more than the limit, and no line that ends in them is wrong
pub record ReadsUpTo (list : RuleList) (table : Table) (limit : ℕ) (all left : List ℕ) : Type 0 where
  pub front : List ℕ
  pub parts : all ≡ front ++ left
  pub within : length front ≤ limit
  pub right : HasNoWrongLine list table front

-- the reads of a proof, by how its check ends: a wrong line decides where it stands
abbrev pub IsTurnOfProof : {T : Type 0} → List ℕ → Result T Stop → List Reading → Type 0
IsTurnOfProof name (Ok value) added = IsWholeTurn name added
IsTurnOfProof name (Err (stops.Wrong wrong)) added = IsUnfailed name added
IsTurnOfProof name (Err stops.ReadFault) added = IsFailedTurn name added
IsTurnOfProof name (Err stops.TooLong) added = ArePieces name added
IsTurnOfProof name (Err stops.Memory) added = ArePieces name added

-- a fact unless a read failed
abbrev pub UnlessFault : {T : Type 0} → Result T Stop → Type 0 → Type 0
UnlessFault (Ok value) P = P
UnlessFault (Err (stops.Wrong wrong)) P = P
UnlessFault (Err stops.ReadFault) P = Unit {0}
UnlessFault (Err stops.TooLong) P = P
UnlessFault (Err stops.Memory) P = P
