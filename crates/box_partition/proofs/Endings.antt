-- How the writing of the certificate ends.
use Rattle.std.proofs.Common.{◌≡◌, ℕ, List, [], Bool, Result, Ok, Err, ap, sym, subst, ◌∙◌, IsErrAnd, IfOk, position, length}
use Rattle.razor_base.specs.Headline.Outcomes.{CallOutcome, Extends}
use Rattle.razor_base.proofs.Writing.{made-none}
use Rattle.field_boxes.specs.declared.rule.Rule.{Rule}
use Rattle.field_boxes.specs.Headline.Fields.{stated, IsHeader}
use Rattle.field_boxes.specs.Rules as rules
use Rattle.field_boxes.specs.declared.rule_list.RuleList.{RuleList}
use Rattle.ternary_words.specs.declared.table.Table.{Table}
use Rattle.ternary_words.specs.Views as words
use Rattle.node_store.specs.Diagram.{Node, answer}
use Rattle.fdd_build.specs.Rules.{decided}
use Rattle.partition_check.specs.Agreement.{Agree}
use Rattle.partition_check.specs.Checking.{Statement}
use Rattle.partition_check.specs.Good.{certificate_text}
use Rattle.box_partition.specs.declared.error.CertError.{CertError}
use Rattle.box_partition.specs.declared.error.CertError.TheVariants.{NotPrefix}
use Rattle.box_partition.specs.declared.stop.Stop.{Stop}
use Rattle.box_partition.specs.declared.stop.Stop.TheVariants.{Memory}
use Rattle.box_partition.specs.Firsts.{number_of_place, number_answered}
use Rattle.box_partition.specs.Outcome.{AreWritesOf, IsWriting}
use Rattle.box_partition.specs.Output.{PutsUntil}
use Rattle.box_partition.specs.Rows.{AreRowsOf}
use Rattle.box_partition.specs.Standing.{StandFor, counted}
use Rattle.box_partition.proofs.Certified.{RuleDecides, EntryDecides, certificate-some, certificate-of}
use Rattle.box_partition.proofs.InPlace.{places-answer}
use Rattle.box_partition.proofs.Until.{until-refused}

-- memory was refused before the first row
pub is-refused : {S : Type 0} {w : S → List CallOutcome} {f : S → ℕ} {a : S} {r : Result ℕ Stop} → RuleDecides → EntryDecides → (list : RuleList) (table : Table) → Agree list table →
    IsErrAnd r (λ stop. stop ≡ Memory) → IsWriting list table w f a a r
is-refused {r = Ok n} rule entry list table agree h = absurd h
is-refused {r = Err e} rule entry list table agree h =
    let made = certificate-some rule entry list table agree in record { rows = made.0; certificate = made.1; puts = until-refused h; counted = tt }

-- a node of rules that stand for items answers the number of the first item that passes
pub answers-first : {X : Type 0} (test : List ℕ → X → Bool) (nodes : List Node) (id : ℕ) (items whole : List X) (made rs : List Rule) → items ≡ whole → rs ≡ made → StandFor test counted items made →
    ((header : List ℕ) → IsHeader header → answer nodes id header ≡ decided stated rs header) →
    (header : List ℕ) → IsHeader header → number_answered (answer nodes id header) ≡ number_of_place (position (test header) whole)
answers-first {X} test nodes id items whole made rs same from s answers header is =
    ap number_answered (answers header is ∙ ap (λ (xs : List Rule). decided stated xs header) from) ∙ places-answer test items made s header is
    ∙ ap (λ (xs : List X). number_of_place (position (test header) xs)) same

-- the rows of two nodes that answer the first rule and the first entry are being written
pub is-writing : {S : Type 0} {w : S → List CallOutcome} {f : S → ℕ} {a b : S} {r : Result ℕ Stop} → RuleDecides → EntryDecides → (nodes : List Node) (left right : ℕ) (list : RuleList) (table : Table) → Agree list table →
    ((header : List ℕ) → IsHeader header → number_answered (answer nodes left header) ≡ number_of_place (rules.first_match header list.rules.items)) →
    ((header : List ℕ) → IsHeader header → number_answered (answer nodes right header) ≡ number_of_place (words.first_match header table.entries.items)) →
    ((rows : List Statement) → AreRowsOf nodes 0 left right rows → PutsUntil w f a b [] [] (certificate_text rows) r) →
    ((rows : List Statement) → AreRowsOf nodes 0 left right rows → IfOk r (λ n. n ≡ length rows)) → IsWriting list table w f a b r
is-writing rule entry nodes left right list table agree first second puts count =
    let made = certificate-of rule entry nodes left right list table agree first second in record {
      rows = made.0;
      certificate = made.1.certificate;
      puts = puts made.0 made.1.rows_of_nodes;
      counted = count made.0 made.1.rows_of_nodes;
    }

-- nothing was written where a word is no prefix
pub unwritten : {T : Type 0} (writes : List CallOutcome) (entry : ℕ) (r : Result T CertError) → IsErrAnd r (λ e. e ≡ NotPrefix entry) → Extends writes writes (AreWritesOf r)
unwritten writes entry (Ok x) h = absurd h
unwritten {T = T} writes entry (Err e) h = subst (λ (s : CertError). Extends writes writes (AreWritesOf {T = T} (Err s))) (sym h) (made-none writes)
