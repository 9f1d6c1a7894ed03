-- How the writing of a certificate ends.
use Rattle.std.specs.Prelude.{◌≡◌, ◌⊎◌, ℕ, List, [], Result, Ok, Err, IfOk, length}
use Rattle.razor_base.specs.Headline.Outcomes.{CallOutcome}
use Rattle.razor_base.specs.Output.{Appends, AppendsFront, AreRefused, AreTaken}
use Rattle.field_boxes.specs.declared.rule_list.RuleList.{RuleList}
use Rattle.field_boxes.specs.Lists.{name_decided}
use Rattle.ternary_words.specs.declared.table.Table.{Table}
use Rattle.list_equiv.specs.Verdict.{Differs}
use Rattle.partition_check.specs.Agreement.{name_answered}
use Rattle.partition_check.specs.Checking.{Statement}
use Rattle.partition_check.specs.Good.{certificate_text}
use Rattle.partition_check.specs.PrefixWords.{ArePrefixes, IsFirstOther}
use Rattle.box_partition.specs.Certificate.{IsCertificate}
use Rattle.box_partition.specs.Output.{PutsUntil}
use Rattle.box_partition.specs.declared.stop.Stop.{Stop}
use Rattle.box_partition.specs.declared.error.CertError.{CertError}
use Rattle.box_partition.specs.declared.error.CertError.TheVariants.{Differs as Apart, NotPrefix, Fault, Memory}

-- the certificate of list and table was appended, and has so many rows
pub record IsWritten (list : RuleList) (table : Table) (before after : List CallOutcome) (count : ℕ) : Type 0 where
  pub rows : List Statement
  pub certificate : IsCertificate list table rows
  pub appended : Appends before after (certificate_text rows)
  pub counted : count ≡ length rows

-- a front of the certificate was appended
pub record IsCut (list : RuleList) (table : Table) (before after : List CallOutcome) : Type 0 where
  pub rows : List Statement
  pub certificate : IsCertificate list table rows
  pub appended : AppendsFront before after (certificate_text rows)

-- the certificate is being written: all of it, or a front of it where the call stops
pub record IsWriting {S : Type 0} (list : RuleList) (table : Table) (written : S → List CallOutcome) (faults : S → ℕ) (before after : S) (answer : Result ℕ Stop) : Type 0 where
  pub rows : List Statement
  pub certificate : IsCertificate list table rows
  pub puts : PutsUntil written faults before after [] [] (certificate_text rows) answer
  pub counted : IfOk answer (λ n. n ≡ length rows)

-- list and table differ: first on this header, to which they give the names with these numbers
abbrev pub TellApart : RuleList → Table → List ℕ → ℕ → ℕ → Type 0
TellApart list table header left right = Differs list.names table.names (name_decided list) (name_answered table) header left right

-- what each error says, and what stands after it; a word that is no prefix comes before all else
abbrev pub Ends : RuleList → Table → List CallOutcome → List CallOutcome → CertError → Type 0
Ends list table before after (NotPrefix entry) = IsFirstOther table.entries.items entry × (after ≡ before)
Ends list table before after (Apart header left right) = ArePrefixes table.entries.items × TellApart list table header.values left right × (after ≡ before)
Ends list table before after Fault = ArePrefixes table.entries.items × IsCut list table before after
Ends list table before after Memory = ArePrefixes table.entries.items × ((after ≡ before) ⊎ IsCut list table before after)

-- the writes of a call that ends so: none failed, or the last one did
abbrev pub AreWritesOf : {T : Type 0} → Result T CertError → List CallOutcome → Type 0
AreWritesOf (Ok rows) added = AreTaken added
AreWritesOf (Err (NotPrefix entry)) added = AreTaken added
AreWritesOf (Err (Apart header left right)) added = AreTaken added
AreWritesOf (Err Fault) added = AreRefused added
AreWritesOf (Err Memory) added = AreTaken added
