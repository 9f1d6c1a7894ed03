use Rattle.std.proofs.Common.{ap, arith}
use Rattle.field_boxes.specs.NamedRules.{named_rules}
use Rattle.razor_base.proofs.Writing.{puts-is, puts-written}
use Rattle.filter_reader.specs.ListText.{list_text}
use Rattle.filter_reader.proofs.ListTexts.{list_of-text}
use Rattle.filter_reader.proofs.write.write_list.Goals as goal

pub returns-in_err-put_rules-clause-spelled : goal.returns-in_err-put_rules-clause-spelled
returns-in_err-put_rules-clause-spelled g c =
    let list = c.args.list.now in
    list_of-text list.names list.rules.items list.spelled c.requires (let few = list.few in let len = list.rules.ok.0 in omega arith)

pub returns-clause-written : goal.returns-clause-written
returns-clause-written g c =
    puts-written c.new-pending.ensures (puts-is c.in_ok-put_rules.ensures (ap (λ rules. list_text (named_rules c.args.list.now.names rules)) c.deref.ensures.value)) c.flush.ensures.whole

pub returns-clause-spelled : goal.returns-clause-spelled
returns-clause-spelled g c =
    let list = c.args.list.now in
    list_of-text list.names list.rules.items list.spelled c.requires (let few = list.few in let len = list.rules.ok.0 in omega arith)
