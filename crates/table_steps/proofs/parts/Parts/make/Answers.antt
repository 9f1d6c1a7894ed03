use Rattle.std.proofs.Common.{subst, sym}
use Rattle.std.proofs.lemmas.List.Elements.{All-push}
use Rattle.std.specs.Prelude.{All}
use Rattle.table_steps.specs.Answering.{IsPartOf}
use Rattle.table_steps.proofs.parts.Parts.make.Goals as goal

pub returns : goal.returns
returns c = λ all. subst (All (IsPartOf c.args.table.now)) (sym c.in_ok-push.ensures.items)
    (All-push (IsPartOf c.args.table.now) c.note.new.self.parts.items _ (subst (λ parts. All (IsPartOf c.args.table.now) parts.items) (sym c.note.ensures) all) c.in_ok-list.ensures)
