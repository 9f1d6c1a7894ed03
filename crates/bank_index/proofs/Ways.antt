-- The way of a key from node to node.
use Rattle.std.proofs.Common.{◌≡◌, ℕ, zero, suc, List, Option, Some, subst}
use Rattle.std.specs.Prelude.{slice_get}
use Rattle.ternary_words.specs.declared.entry.Entry.{Entry}
use Rattle.bank_index.specs.Tree.{LeadsIn, LeadsOn}
use Rattle.bank_index.specs.declared.node.Node.{Node}

-- a node on the way leads on
pub leads_on : (steps : ℕ) (nodes : List Node) (entries : List Entry) (key : ℕ) (first : Option ℕ) (place : ℕ) (node : Node) → LeadsIn steps nodes entries key first place → slice_get nodes place ≡ Some node →
    (left : ℕ) × LeadsOn (LeadsIn left nodes entries key first) entries key first (Some node)
unfolding LeadsIn
leads_on zero nodes entries key first place node h e = absurd h
leads_on (suc steps) nodes entries key first place node h e = (steps, subst (λ n. LeadsOn (LeadsIn steps nodes entries key first) entries key first n) e h)
