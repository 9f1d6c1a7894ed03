-- What the walk needs of the nodes that it goes through.
use Rattle.std.proofs.Common.{◌≡◌, ◌∷◌, ◌++◌, ℕ, ◌^◌, ◌<◌, ◌≤◌, List, [], Bool, true, false, cond, Ok, refl, ap, sym, ◌∙◌, subst, arith, append-nil, length, get_or, map, nat_eq, not, flat_map, decimal}
use Rattle.std.specs.Bool.{OnTrue}
use Rattle.std.proofs.lemmas.Bool.{OnTrue_from, not-true}
use Rattle.std.proofs.lemmas.Bool.Decides.{Decides-eqb}
use Rattle.razor_base.specs.Headline.Outcomes.{CallOutcome}
use Rattle.razor_base.specs.Output.{Puts, Writes}
use Rattle.razor_base.proofs.Output.{leaves_out-none}
use Rattle.razor_base.proofs.Writing.{made-none}
use Rattle.field_boxes.specs.Headline.Classifier.{Interval}
use Rattle.field_boxes.specs.Headline.Fields.{stated}
use Rattle.node_store.specs.declared.edge.Edge.{Edge}
use Rattle.node_store.specs.Levels.{HasField, next, top_of}
use Rattle.node_store.specs.Diagram.{Node, edges_of, answer}
use Rattle.box_query.specs.Boxes.{put_first}
use Rattle.box_query.specs.BoxText.{boxes_text}
use Rattle.box_query.specs.NodeBoxes.{branches, branch_boxes, front_text, node_boxes}
use Rattle.box_query.proofs.NodeBoxes.{leaf_boxes, inner_boxes}
use Rattle.box_query.proofs.Texts.{AreLonger, longer-branches, more-front, last-line}
use Rattle.field_boxes.proofs.Orders.{field_few}

-- read where no edge stands
abbrev pub no_edge : Edge
no_edge = record { hi = 0; to = record { 0 = 0 } }

pub empty-level : (level : List ℕ) → nat_eq (length level) 0 ≡ true → level ≡ []
empty-level [] h = refl
empty-level (f ∷ level) h = absurd (let e = (Decides-eqb (length (f ∷ level)) 0).0 h in omega (arith, e))

-- a leaf
leaf-at : (nodes : List Node) (id : ℕ) (b t : Bool) → b ≡ nat_eq (answer nodes id []) 1 → b ≡ t → node_boxes nodes [] id ≡ cond t ([] ∷ []) []
leaf-at nodes id b t e is = leaf_boxes nodes id ∙ ap (λ x. cond x ([] ∷ []) []) (sym e ∙ is)

pub leaf-empty : (nodes : List Node) (level : List ℕ) (id : ℕ) (b : Bool) → level ≡ [] → b ≡ nat_eq (answer nodes id []) 1 → OnTrue (not b) (node_boxes nodes level id ≡ [])
leaf-empty nodes level id b e is = subst (λ l. OnTrue (not b) (node_boxes nodes l id ≡ [])) (sym e) (OnTrue_from (not b) (node_boxes nodes [] id ≡ []) (λ no. leaf-at nodes id b false is (not-true b no)))

module _ (front : List ℕ) (i : Interval) (nodes : List Node) (id : ℕ) (b : Bool) (wanted : b ≡ nat_eq (answer nodes id []) 1) where
  pub no-text : b ≡ false → [] ≡ front_text front (map (put_first i) (node_boxes nodes [] id))
  no-text is = sym (ap (λ bs. front_text front (map (put_first i) bs)) (leaf-at nodes id b false wanted is))

  pub no-count : b ≡ false → 0 ≡ length (map (put_first i) (node_boxes nodes [] id))
  no-count is = sym (ap (λ bs. length (map (put_first i) bs)) (leaf-at nodes id b false wanted is))

  pub one-text : (line : List ℕ) → line ≡ ((front ++ decimal i.lo) ++ (45 ∷ decimal i.hi)) ++ (10 ∷ []) → b ≡ true → line ≡ front_text front (map (put_first i) (node_boxes nodes [] id))
  one-text line e is = e ∙ last-line front i ∙ sym (ap (λ bs. front_text front (map (put_first i) bs)) (leaf-at nodes id b true wanted is))

  pub one-count : b ≡ true → 1 ≡ length (map (put_first i) (node_boxes nodes [] id))
  one-count is = sym (ap (λ bs. length (map (put_first i) bs)) (leaf-at nodes id b true wanted is))

-- an inner node

longer-node : (nodes : List Node) (level : List ℕ) (id : ℕ) → HasField level → AreLonger (node_boxes nodes level id)
longer-node nodes [] id h = absurd h
longer-node nodes (f ∷ level) id h = subst AreLonger (sym (inner_boxes nodes f level id)) (longer-branches (node_boxes nodes level) (branches 0 (edges_of nodes id)))

-- the lines of its boxes with an interval in front of each
pub below-text : (nodes : List Node) (level : List ℕ) (id : ℕ) (front line : List ℕ) (i : Interval) → HasField level → line ≡ ((front ++ decimal i.lo) ++ (45 ∷ decimal i.hi)) ++ (32 ∷ []) →
    front_text line (node_boxes nodes level id) ≡ front_text front (map (put_first i) (node_boxes nodes level id))
below-text nodes level id front line i h e =
    ap (λ l. front_text l (node_boxes nodes level id)) e ∙ sym (more-front front i (node_boxes nodes level id) (longer-node nodes level id h))

-- the boxes of a node by its edges, as the code has them
pub boxes-by : (nodes : List Node) (level rest : List ℕ) (id : ℕ) (es : List Edge) → HasField level → rest ≡ next level → es ≡ edges_of nodes id →
    flat_map (branch_boxes (node_boxes nodes rest)) (branches 0 es) ≡ node_boxes nodes level id
boxes-by nodes [] rest id es h r e = absurd h
boxes-by nodes (f ∷ level) rest id es h r e =
    ap (λ l. flat_map (branch_boxes (node_boxes nodes l)) (branches 0 es)) r ∙ ap (λ xs. flat_map (branch_boxes (node_boxes nodes level)) (branches 0 xs)) e ∙ sym (inner_boxes nodes f level id)

single : (es : List Edge) (d : Edge) → 0 < length es → length es ≤ 1 → get_or es 0 d ∷ [] ≡ es
single (e ∷ []) d some one = refl
single es d some one = absurd (omega arith)

-- one edge to a node without a box
pub single-empty : (nodes : List Node) (level rest : List ℕ) (id : ℕ) (es : List Edge) (d : Edge) (t : Bool) → HasField level → rest ≡ next level → es ≡ edges_of nodes id → 0 < length es → length es ≤ 1 →
    OnTrue t (node_boxes nodes rest (get_or es 0 d).to.0 ≡ []) → OnTrue t (node_boxes nodes level id ≡ [])
single-empty nodes level rest id es d true h r e some one none =
    sym (boxes-by nodes level rest id es h r e) ∙ ap (λ xs. flat_map (branch_boxes (node_boxes nodes rest)) (branches 0 xs)) (sym (single es d some one))
    ∙ ap (λ bs. map (put_first (record { lo = 0; hi = (get_or es 0 d).hi })) bs ++ []) none
single-empty nodes level rest id es d false h r e some one none = tt

-- What was put.

-- nothing
pub puts-zero : {S T E : Type 0} {w : S → List CallOutcome} {f : S → ℕ} {a : S} {waited : List ℕ} {x : T} → Puts {T = T} {E = E} w f a a waited waited [] (Ok x)
puts-zero {w = w} {a = a} {waited = waited} = record {
  ok = rw (append-nil waited) (leaves_out-none (w a) waited);
  err = tt;
  lost = tt;
  failed = tt;
  calm = refl;
  tries = made-none (w a);
  counts = omega arith;
}

-- the answer has no part in it
pub puts-ok : {S T U E : Type 0} {w : S → List CallOutcome} {f : S → ℕ} {a b : S} {waited waits text : List ℕ} {x : T} {y : U} →
    Puts {T = T} {E = E} w f a b waited waits text (Ok x) → Puts {T = U} {E = E} w f a b waited waits text (Ok y)
puts-ok p = record { ok = p.ok; err = tt; lost = tt; failed = tt; calm = p.calm; tries = p.tries; counts = p.counts }

pub writes-ok : {S T U E : Type 0} {w : S → List CallOutcome} {f : S → ℕ} {a b : S} {text : List ℕ} {x : T} {y : U} → Writes {T = T} {E = E} w f a b text (Ok x) → Writes {T = U} {E = E} w f a b text (Ok y)
writes-ok p = record { ok = p.ok; err = tt; failed = tt; calm = p.calm; tries = p.tries; counts = p.counts }

-- no field has a value above 32 bits
pub top-small : (level : List ℕ) → HasField level → top_of level ≤ 4294967295
top-small [] h = absurd h
top-small (f ∷ level) h = omega (arith, field_few f h.0.0)

-- the boxes so far and those of the next edge are few enough to count
pub few-sum : (sum part all : ℕ) → sum ≡ part → part ≤ all → all ≤ 2 ^ 104 → sum < 2 ^ 128
few-sum sum part all e p q = omega (arith, e, p, q)

-- behind nothing, in the stated order, they are the lines of the boxes
pub lines-all : (nodes : List Node) (id : ℕ) (order line : List ℕ) → line ≡ [] → order ≡ stated → front_text line (node_boxes nodes order id) ≡ boxes_text (node_boxes nodes stated id)
lines-all nodes id order line none is = ap (λ front. front_text front (node_boxes nodes order id)) none ∙ ap (λ o. boxes_text (node_boxes nodes o id)) is
