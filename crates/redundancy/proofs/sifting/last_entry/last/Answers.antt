use Rattle.std.proofs.Common.{◌∷◌, ◌++◌, [], ap, ◌∙◌}
use Rattle.redundancy_laws.proofs.Kept.{last-sifted}
use Rattle.redundancy.proofs.sifting.last_entry.last.Goals as goal

pub returns-clause-sifted : goal.returns-clause-sifted
returns-clause-sifted c =
    last-sifted c.args.sets.now c.leaf.new.self c.args.contexts.now c.wanted-wanted.result c.args.decision c.in_ok-leaf.leaf _ c.in_ok-leaf.ensures.grows c.requires
    c.wanted-wanted.ensures c.in_ok-leaf.ensures.level c.in_ok-leaf.ensures.answer (c.in_ok-push.ensures.items ∙ ap (λ ks. ks ++ c.wanted-wanted.result ∷ []) c.new-kept.ensures.items) c.in_ok-after.ensures.count c.in_ok-after.ensures.each
