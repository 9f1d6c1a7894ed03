-- The first answer of some nodes that isn't 0: one laid over another.
use Rattle.std.proofs.Common.{◌≡◌, ℕ, arith, ◌∷◌, ◌++◌, ◌∙◌, List, [], ap, refl, sym, All}
use Rattle.std.proofs.lemmas.Bool.Decides.{nat_tests}
use Rattle.rule_audit.specs.Parts.{over}
use Rattle.std.proofs.lemmas.List.Elements.{All-cons, All-nil}
use Rattle.node_store.specs.declared.edge.NodeId.{NodeId}
use Rattle.node_store.specs.Diagram.{Node, answer}
use Rattle.rule_audit.specs.Search.{first_answer}

pub over_assoc : (a b c : ℕ) → over (over a b) c ≡ over a (over b c)
over_assoc a b c = grind (arith, nat_tests)

pub over_nothing : (a : ℕ) → over a 0 ≡ a
over_nothing a = grind (arith, nat_tests)

-- where 0 shows, both are 0
pub over_zero : (a b : ℕ) → over a b ≡ 0 → (a ≡ 0) × (b ≡ 0)
over_zero a b h = (grind (arith, nat_tests), grind (arith, nat_tests))

pub over_some : (a b : ℕ) → (a ≡ 0 → ⊥) → over a b ≡ a
over_some a b h = grind (arith, nat_tests)

module _ (nodes : List Node) where
  first_append : (xs ys : List NodeId) (values : List ℕ) → first_answer nodes (xs ++ ys) values ≡ over (first_answer nodes xs values) (first_answer nodes ys values)
  first_append [] ys values = refl
  first_append (id ∷ xs) ys values =
      ap (λ n. over (answer nodes id.0 values) n) (first_append xs ys values)
      ∙ sym (over_assoc (answer nodes id.0 values) (first_answer nodes xs values) (first_answer nodes ys values))

  pub first_push : (xs : List NodeId) (id : NodeId) (values : List ℕ) → first_answer nodes (xs ++ id ∷ []) values ≡ over (first_answer nodes xs values) (answer nodes id.0 values)
  first_push xs id values = first_append xs (id ∷ []) values ∙ ap (λ n. over (first_answer nodes xs values) n) (over_nothing (answer nodes id.0 values))

  -- where there is none, all answer 0
  pub all_zero : (ids : List NodeId) (values : List ℕ) → first_answer nodes ids values ≡ 0 → All (λ (i : NodeId). answer nodes i.0 values ≡ 0) ids
  all_zero [] values h = All-nil (λ (i : NodeId). answer nodes i.0 values ≡ 0)
  all_zero (id ∷ ids) values h =
      let z = over_zero (answer nodes id.0 values) (first_answer nodes ids values) h in
      All-cons (λ (i : NodeId). answer nodes i.0 values ≡ 0) id ids z.0 (all_zero ids values z.1)
