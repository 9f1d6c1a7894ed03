use Rattle.std.proofs.Common.{rules, ◌≡◌, ◌++◌, List, ℕ, take, sym, ap, ◌∙◌}
use Rattle.razor_base.proofs.Writing.{takes_more, takes_none}
use Rattle.razor_base.proofs.mem_sink.MemSinkSink.write.Goals as goal

pub invariant_of-self-clause-told : goal.invariant_of-self-clause-told
invariant_of-self-clause-told c = takes_none c.args.self.now.history.writes c.fail.new.self.writes c.fail.ensures ∙ c.args.self.now.told

pub invariant_of-self-2-clause-told : goal.invariant_of-self-2-clause-told
invariant_of-self-2-clause-told c =
    let sink = c.args.self.now in
    let bytes = take c.min-taken.result c.args.piece.now in
    let held : c.extend_from_slice.new.self.items ≡ sink.bytes.items ++ bytes = search rules in
    takes_more sink.history.writes c.note.new.self.writes bytes c.note.ensures ∙ ap (λ (items : List ℕ). items ++ bytes) sink.told ∙ sym held
