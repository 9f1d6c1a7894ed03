-- Lists by their places, and numbers that keep their levels and edges.
use Rattle.std.proofs.Common.{◌≡◌, ◌∷◌, ◌++◌, ℕ, List, [], ◌+◌, ◌<◌, length, ap, arith, sym, ◌∙◌, subst, get_or, inl, inr}
use Rattle.std.specs.Prelude.{◌⊎◌, slice_get}
use Rattle.std.proofs.lemmas.Bool.{cases_lt}
use Rattle.std.proofs.Math.Seq.{get_or-append_seam}
use Rattle.std.proofs.lemmas.List.{length-append, get_or_append_left}
use Rattle.node_store.specs.Levels.{IsLevel}
use Rattle.field_sets.specs.Constant.{AnswersAlways}
use Rattle.node_store.specs.Diagram.{Node, node_edges, level_of, edges_of}
use Rattle.node_store.specs.Store.{Grows}
use Rattle.node_store.proofs.Canonical.{in_use}
use Rattle.node_store.proofs.Growth.{kept_place, level_kept}

pub last_item : {X : Type 0} (d : X) (xs : List X) (x : X) (n : ℕ) → length xs ≡ n → get_or (xs ++ x ∷ []) n d ≡ x
last_item d xs x n e = ap (λ k. get_or (xs ++ x ∷ []) k d) (sym e) ∙ get_or-append_seam xs x [] d

split_last : (c n : ℕ) → c < n + 1 → (c < n) ⊎ (c ≡ n)
split_last c n h = elim (cases_lt c n) [ inl less ↦ inl less | inr le ↦ inr (omega (arith, le, h)) ]

-- what holds of each item holds of one more
pub pushed : {X : Type 0} (P : ℕ → X → Type 0) (d : X) (xs : List X) (x : X) (n : ℕ) → length xs ≡ n → ((c : ℕ) → c < n → P c (get_or xs c d)) → P n x →
    (c : ℕ) → c < n + 1 → P c (get_or (xs ++ x ∷ []) c d)
pushed P d xs x n e all here c h = elim (split_last c n h) [
  | inl less ↦ subst (P c) (sym (get_or_append_left xs (x ∷ []) d c (omega (arith, less, e)))) (all c less)
  | inr is ↦ subst (λ k. P k (get_or (xs ++ x ∷ []) k d)) (sym is) (subst (P n) (sym (last_item d xs x n e)) here)
]

-- the same of a list that has one item more
pub pushed_to : {X : Type 0} (P : ℕ → X → Type 0) (d : X) (xs ys : List X) (x : X) (n : ℕ) → ys ≡ xs ++ x ∷ [] → length xs ≡ n → ((c : ℕ) → c < n → P c (get_or xs c d)) → P n x →
    (length ys ≡ n + 1) × ((c : ℕ) → c < n + 1 → P c (get_or ys c d))
pushed_to P d xs ys x n to e all here = (
  ap length to ∙ length-append xs (x ∷ []) ∙ ap (λ k. k + 1) e,
  λ c less. subst (λ zs. P c (get_or zs c d)) (sym to) (pushed P d xs x n e all here c less),
)

pub number_stays : (old new : List Node) (id : ℕ) (level : List ℕ) → IsLevel level → Grows old new → level_of old id ≡ level → level_of new id ≡ level
number_stays old new id level is g e = level_kept old new id g (in_use old id level is e) ∙ e

pub edges_stay : (old new : List Node) (id : ℕ) (level : List ℕ) → IsLevel level → Grows old new → level_of old id ≡ level → edges_of new id ≡ edges_of old id
edges_stay old new id level is g e = ap node_edges (ap (λ nodes. slice_get nodes id) g.gained.1 ∙ kept_place old g.gained.0 id (in_use old id level is e))

pub always_stays : (old new : List Node) (decision id : ℕ) (level : List ℕ) → IsLevel level → Grows old new → AnswersAlways old level decision id → AnswersAlways new level decision id
always_stays old new decision id level is g h = record {
  level = number_stays old new id level is g h.level;
  answers = λ values ok. g.answers id values (in_use old id level is h.level) ∙ h.answers values ok;
}
