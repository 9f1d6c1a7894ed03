-- A certificate that is there whole: its lines were taken, and then its end.
use Rattle.std.proofs.Common.{◌≡◌, ◌∙◌, ℕ, ◌-◌, List, [], Some, Ok, Err, sym, subst, inr, arith, Result, IfSome, IsErrAnd, drop, length, length-drop, take, take_all}
use Rattle.std.proofs.lemmas.Result.{IfErr-weaker, IfOk-weaker, on_ok_weaker}
use Rattle.std.specs.Prelude.{IfErr, IfOk, OnOk}
use Rattle.field_boxes.specs.declared.rule_list.RuleList.{RuleList}
use Rattle.ternary_words.specs.declared.table.Table.{Table}
use Rattle.partition_check.specs.declared.row.Wrong.{Wrong}
use Rattle.partition_check.specs.Agreement.{Agree}
use Rattle.partition_check.specs.CertificateText.{lines_of}
use Rattle.partition_check.specs.Checking.{Checking, EndsWell}
use Rattle.partition_check.specs.Verdict.{EndsBadly, IsValid, IsWrong, Reading, TakesAll, started}
use Rattle.partition_check.proofs.Streaming.{Keep, all_keep}

module _ (c : Checking) (text : List ℕ) (r : Reading) (takes : TakesAll (started c) (lines_of text).whole r) where
  all_kept : Keep (length (lines_of text).whole) (started c) r
  all_kept = all_keep (lines_of text).whole (started c) r tt takes

  pub whole-well : IfSome r.ended (EndsWell r.checking)
  whole-well = all_kept.well

  -- the bytes behind the last line
  module _ (start : ℕ) (left : drop start text ≡ (lines_of text).rest) (result : Result ℕ Wrong) where
    abbrev pub rest : List ℕ
    rest = take (length text - start) (drop start text)

    is_rest : rest ≡ (lines_of text).rest
    is_rest = take_all (length text - start) (drop start text) (omega (arith, length-drop start text)) ∙ left

    pub whole-valid : IfOk result (λ rows. (r.ended ≡ Some rows) × (rest ≡ [])) → IfOk result (λ rows. IsValid c text rows)
    whole-valid = IfOk-weaker result (λ rows. (r.ended ≡ Some rows) × (rest ≡ [])) (λ rows. IsValid c text rows)
        (λ rows ok. record { after = r; takes = takes; ended = ok.0; whole = sym is_rest ∙ ok.1 })

    pub whole-wrong : IfErr result (λ w. EndsBadly r rest w) → IfErr result (λ w. IsWrong c text w)
    whole-wrong = IfErr-weaker result (λ w. EndsBadly r rest w) (λ w. IsWrong c text w)
        (λ w bad. inr (record { after = r; takes = takes; ends = subst (λ (bytes : List ℕ). EndsBadly r bytes w) is_rest bad }))

    pub whole-agree : OnOk result (Agree r.checking.list r.checking.table) → OnOk result (Agree c.list c.table)
    whole-agree = on_ok_weaker result
        (λ agree. subst (λ (list : RuleList). Agree list c.table) all_kept.list (subst (λ (table : Table). Agree r.checking.list table) all_kept.table agree))

-- an error that is handed on as it is
pub handed : (result : Result ℕ Wrong) (w : Wrong) (P : Wrong → Type 0) → IsErrAnd result (λ e. e ≡ w) → P w → IfErr result P
handed (Ok rows) w P is holds = tt
handed (Err e) w P is holds = subst P (sym is) holds
