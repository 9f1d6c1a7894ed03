-- Nodes that answer 0: a node over them is one too.
use Rattle.std.proofs.Common.{◌≡◌, ℕ, List, [], ◌∷◌, ◌≤◌, ◌<◌, ◌∙◌, length, arith, sym, subst}
use Rattle.std.specs.Prelude.{drop, slice_index_or}
use Rattle.node_store.specs.declared.edge.NodeId.{NodeId}
use Rattle.field_boxes.specs.Headline.Fields.{AreValues}
use Rattle.node_store.specs.Levels.{HasField, IsLevel, next, top_of}
use Rattle.node_store.specs.Diagram.{Node, level_of, answer}
use Rattle.fdd_build.specs.Nothing.{AnswersNothing, AreNothing, IsZero, AreZeros}
use Rattle.node_store.specs.Store.{Grows}
use Rattle.std.specs.List.{insert}
use Rattle.std.proofs.lemmas.List.Elements.{All-cons, All-nil}
use Rattle.node_store.proofs.Canonical.{is_next}
use Rattle.node_store.proofs.Values.{each}
use Rattle.fdd_build.proofs.Stays as stays

pub opened : (old new : List Node) (level : List ℕ) (to id : ℕ) → HasField level → AnswersNothing old (next level) to → level_of new id ≡ level →
    ((v : ℕ) (values : List ℕ) → v ≤ top_of level → answer new id (v ∷ values) ≡ answer old to values) → AnswersNothing new level id
opened old new level to id field nothing at same = record {
  level = at;
  zero = each (λ values. answer new id values ≡ 0) level field (λ v rest low h. same v rest low ∙ nothing.zero rest h);
}

zero : (nodes : List Node) (level : List ℕ) (id : NodeId) → IsLevel level → AnswersNothing nodes level id.0 → IsZero nodes id
zero nodes level id is n = record { within = subst IsLevel (sym n.level) is; zero = λ values h. n.zero values (subst (λ k. AreValues k values) n.level h) }

-- the node of the level itself
pub head : (nodes : List Node) (level : List ℕ) (ids : List NodeId) (d : NodeId) → AreNothing nodes level ids → AnswersNothing nodes level (slice_index_or ids 0 d).0
head nodes level [] d n = absurd n
head nodes [] (id ∷ ids) d n = n.0
head nodes (f ∷ level) (id ∷ ids) d n = n.0

pub some : (nodes : List Node) (level : List ℕ) (ids : List NodeId) → AreNothing nodes level ids → 0 < length ids
some nodes level [] n = absurd n
some nodes level (id ∷ ids) n = omega arith

-- each of them answers 0 for all values of its level
pub all_zeros : (nodes : List Node) (level : List ℕ) (ids : List NodeId) → IsLevel level → AreNothing nodes level ids → AreZeros nodes ids
all_zeros nodes level [] is n = absurd n
all_zeros nodes [] (id ∷ []) is n = All-cons (IsZero nodes) id [] (zero nodes [] id is n.0) (All-nil (IsZero nodes))
all_zeros nodes [] (id ∷ d ∷ ids) is n = cc
all_zeros nodes (f ∷ level) (id ∷ ids) is n = All-cons (IsZero nodes) id ids (zero nodes (f ∷ level) id is n.0) (all_zeros nodes level ids is.1 n.1)

-- those of the levels after it
pub rest : (nodes : List Node) (level : List ℕ) (ids : List NodeId) → HasField level → AreNothing nodes level ids → AreNothing nodes (next level) (drop 1 ids)
rest nodes level [] field n = absurd n
rest nodes [] (id ∷ ids) field n = absurd field
rest nodes (f ∷ level) (id ∷ ids) field n = n.1

pub one_more : (nodes : List Node) (level : List ℕ) (id : NodeId) (ids : List NodeId) → HasField level → AnswersNothing nodes level id.0 → AreNothing nodes (next level) ids →
    AreNothing nodes level (id ∷ ids)
one_more nodes [] id ids field here below = absurd field
one_more nodes (f ∷ level) id ids field here below = (here, below)

-- the node of the next level, as it stands once the store has grown
pub second : (nodes : List Node) (level : List ℕ) (ids : List NodeId) (d : NodeId) → HasField level → AreNothing nodes level ids → AnswersNothing nodes (next level) (slice_index_or ids 1 d).0
second nodes level [] d field n = absurd n
second nodes [] (id ∷ ids) d field n = absurd field
second nodes (f ∷ level) (id ∷ ids) d field n = head nodes level ids d n.1

-- the node over the first of those of the next level goes in front of them
pub made : (mid new : List Node) (level : List ℕ) (ids slice more : List NodeId) (id : NodeId) → HasField level → Grows mid new → AreNothing mid (next level) ids → slice ≡ ids →
    level_of new id.0 ≡ level → ((v : ℕ) (values : List ℕ) → v ≤ top_of level → answer new id.0 (v ∷ values) ≡ answer mid (slice_index_or {A = NodeId} slice 0 (record { 0 = 0 })).0 values) →
    more ≡ insert ids 0 id → AreNothing new level more
made mid new level ids slice more id field g below is at same e =
    let here = opened mid new level (slice_index_or {A = NodeId} slice 0 (record { 0 = 0 })).0 id.0 field
    (subst (λ xs. AnswersNothing mid (next level) (slice_index_or {A = NodeId} xs 0 (record { 0 = 0 })).0) (sym is) (head mid (next level) ids (record { 0 = 0 }) below)) at same in
    subst (AreNothing new level) (sym e) (one_more new level id ids field here (stays.all_nothing mid new (next level) ids g (is_next level field) below))
