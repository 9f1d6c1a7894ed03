use Rattle.std.proofs.Common.{◌<◌, ap, Option}
use Rattle.std.proofs.lemmas.List.Elements.{All-push, All-same}
use Rattle.ternary_words.specs.Headline.Table.{Entry}
use Rattle.bank_update.specs.declared.write.Put.{Put}
use Rattle.memory_text.specs.Memory.{Write}
use Rattle.memory_text.specs.Views.{spelled_of}
use Rattle.memory_text.proofs.Holding.{puts_push, writes_push}
use Rattle.memory_text.proofs.draft.Draft.with.Goals as goal

pub invariant_of-result : goal.invariant_of-result
invariant_of-result c =
    let grown = c.in_ok-entry.ensures.extends in
    let p : Put = record { slot = c.args.write.slot; entry = c.in_ok-entry.entry } in
    record {
      named = grown.spelled c.args.self.named;
      numbered = puts_push c.args.self.names c.numbered.new.names c.args.self.writes.items _ p grown c.args.self.numbered c.in_ok-push.ensures.items c.in_ok-entry.ensures.within;
    }

pub returns-clause-writes : goal.returns-clause-writes
returns-clause-writes c =
    let p : Put = record { slot = c.args.write.slot; entry = c.in_ok-entry.entry } in
    writes_push c.args.self.names c.numbered.new.names c.args.self.writes.items _ p (spelled_of c.args.write) c.in_ok-entry.ensures.extends c.args.self.numbered c.in_ok-push.ensures.items
    (ap (λ (o : Option Entry). let w : Write = record { slot = c.args.write.slot; entry = o } in w) c.in_ok-entry.ensures.entry)

pub returns-clause-within : goal.returns-clause-within
returns-clause-within c =
    let p : Put = record { slot = c.args.write.slot; entry = c.in_ok-entry.entry } in
    λ slots all lt.
    let P = λ (x : Put). x.slot < slots in
    All-same P _ _ c.in_ok-push.ensures.items (All-push P c.args.self.writes.items p all lt)
