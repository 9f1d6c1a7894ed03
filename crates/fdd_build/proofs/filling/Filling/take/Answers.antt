use Rattle.std.proofs.Common.{subst, sym}
use Rattle.node_store.specs.Store.{LeadTo}
use Rattle.fdd_build.specs.declared.filling.Filling.{Filling}
use Rattle.fdd_build.proofs.filling.Filling.take.Goals as goal
use Rattle.fdd_build.proofs.filling.Filling.take.Goals.{then-self-from+in_ok-lead, else-self-from}

pub returns-clause-children : goal.returns-clause-children
returns-clause-children c = λ nodes level inside outside children.
    c.in_ok-lead-2.ensures.children nodes level inside (elim c.if-self-from.branch [
      | then-self-from+in_ok-lead w ↦ subst (λ (f : Filling). LeadTo nodes level f.edges.items) (sym w.self-is) (w.in_ok-lead.ensures.children nodes level outside children)
      | else-self-from w ↦ subst (λ (f : Filling). LeadTo nodes level f.edges.items) (sym w.self-is) children
    ])
