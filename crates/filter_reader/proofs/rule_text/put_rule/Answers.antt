use Rattle.std.proofs.Common.{◌≡◌, ◌∷◌, ◌++◌, ◌<◌, ℕ, List, [], ap, sym, arith, append_assoc, length, get_or, slice_index_or}
use Rattle.std.proofs.lemmas.List.{get_or_default}
use Rattle.field_boxes.specs.Headline.Classifier.{Interval}
use Rattle.field_boxes.specs.Headline.Names.{text_of}
use Rattle.field_boxes.specs.Names.{name_at}
use Rattle.field_boxes.specs.Rules.{sets_of}
use Rattle.razor_base.proofs.Writing.{puts-is, puts-more, puts-stop, puts-then}
use Rattle.filter_reader.specs.ListText.{columns_text, decision_text, ports_text}
use Rattle.filter_reader.proofs.rule_text.put_rule.Goals as goal

pub returns-in_err-put_prefix : goal.returns-in_err-put_prefix
returns-in_err-put_prefix g c = puts-stop c.from_residual.ensures.0 (puts-more _ (puts-more _ (puts-more _ (puts-more _ (puts-more _ (puts-more _ c.in_err-put_prefix.ensures))))))

pub returns-in_err-put_prefix-2 : goal.returns-in_err-put_prefix-2
returns-in_err-put_prefix-2 g c = puts-stop c.from_residual-in_err-put_prefix-2.ensures.0 (puts-more _ (puts-more _ (puts-more _ (puts-more _ (puts-more _ (puts-then c.in_ok-put_prefix.ensures c.in_err-put_prefix-2.ensures))))))

-- a tab and a set of ports that was read from the rule
port_column : (ports : List (List Interval)) (k : ℕ) (set : List Interval) → k < length ports → 9 ∷ ports_text (get_or ports k set) ≡ 9 ∷ ports_text (slice_index_or ports k [])
port_column ports k set within = ap (λ p. 9 ∷ ports_text p) (get_or_default ports k set [] within)

pub returns-in_err-put_ports : goal.returns-in_err-put_ports
returns-in_err-put_ports g c =
    let first = port_column c.args.rule.now.ports 0 c.index-rule-0.result (omega arith) in
    puts-stop c.from_residual-in_err-put_ports.ensures.0 (puts-more _ (puts-more _ (puts-more _ (puts-more _
    (puts-then (puts-then c.in_ok-put_prefix.ensures c.in_ok-put_prefix-2.ensures) (puts-is c.in_err-put_ports.ensures first))))))

pub returns-in_err-put_ports-2 : goal.returns-in_err-put_ports-2
returns-in_err-put_ports-2 g c =
    let first = port_column c.args.rule.now.ports 0 c.index-rule-0.result (omega arith) in
    let second = port_column c.args.rule.now.ports 1 c.index-rule-1.result (omega arith) in
    puts-stop c.from_residual-in_err-put_ports-2.ensures.0 (puts-more _ (puts-more _ (puts-more _
    (puts-then (puts-then (puts-then c.in_ok-put_prefix.ensures c.in_ok-put_prefix-2.ensures) (puts-is c.in_ok-put_ports.ensures first)) (puts-is c.in_err-put_ports-2.ensures second)))))

pub returns-in_err-put_protocol : goal.returns-in_err-put_protocol
returns-in_err-put_protocol g c =
    let first = port_column c.args.rule.now.ports 0 c.index-rule-0.result (omega arith) in
    let second = port_column c.args.rule.now.ports 1 c.index-rule-1.result (omega arith) in
    puts-stop c.from_residual-in_err-put_protocol.ensures.0 (puts-more _ (puts-more _
    (puts-then (puts-then (puts-then (puts-then c.in_ok-put_prefix.ensures c.in_ok-put_prefix-2.ensures) (puts-is c.in_ok-put_ports.ensures first)) (puts-is c.in_ok-put_ports-2.ensures second)) c.in_err-put_protocol.ensures)))

pub returns : goal.returns
returns g c =
    let first = port_column c.args.rule.now.ports 0 c.index-rule-0.result (omega arith) in
    let second = port_column c.args.rule.now.ports 1 c.index-rule-1.result (omega arith) in
    puts-is (puts-then (puts-then (puts-then (puts-then (puts-then c.in_ok-put_prefix.ensures c.in_ok-put_prefix-2.ensures) (puts-is c.in_ok-put_ports.ensures first)) (puts-is c.in_ok-put_ports-2.ensures second)) c.in_ok-put_protocol.ensures)
    (puts-is c.put_decision.ensures (ap (λ name. decision_text name ++ 10 ∷ []) c.name.ensures)))
    (sym (append_assoc (columns_text (sets_of c.args.rule.now)) (decision_text (text_of (name_at c.args.names.now c.args.rule.now.decision))) (10 ∷ [])))
