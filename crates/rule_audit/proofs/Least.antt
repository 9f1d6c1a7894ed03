-- What is wanted of the values of a field, by what the nodes answer to which they lead.
use Rattle.std.proofs.Common.{◌≡◌, ◌∷◌, ◌++◌, ◌≤◌, ◌<◌, ◌∙◌, ℕ, suc, List, [], true, length, drop, min, ap, sym, subst, arith, eqb-true, Bool, false, get_or, All, nat_eq, eq-eqb, true≢false, zero, take, set, refl, inl, inr}
use Rattle.std.proofs.lemmas.List.Elements.{All-nil, All-push, All-contains}
use Rattle.field_boxes.specs.Headline.Fields.{stated, AreValues}
use Rattle.field_boxes.specs.Fields.{greatest_of, ComesBefore}
use Rattle.node_store.specs.declared.edge.Edge.{Edge}
use Rattle.node_store.specs.declared.edge.NodeId.{NodeId}
use Rattle.node_store.specs.Diagram.{Node, answer, edges_of, level_of}
use Rattle.node_store.specs.Edges.{AreFull, child_of}
use Rattle.node_store.specs.Levels.{HasField, IsLevel, next, top_of}
use Rattle.node_store.specs.Store.{IsStore}
use Rattle.node_store.proofs.Canonical.{leads_on, within, chosen}
use Rattle.rule_audit.specs.declared.search.around.Around.{Around}
use Rattle.rule_audit.specs.declared.search.branch.Branch.{Branch}
use Rattle.rule_audit.specs.Search.{StandAtLevel, first_answer, AreAround, IsWanted, GainsChild, AreChildren, IsBranch, NoneIsWanted, IsFound, IsLeastWanted, is_nowhere}
use Rattle.rule_audit.specs.Marks.{AnswersThroughout, AreRight, HasMarked}
use Rattle.rule_audit.specs.Parts.{over}
use Rattle.rule_audit.proofs.FirstAnswers.{first_push, all_zero}
use Rattle.node_store.proofs.Stated.{has_field, is_level, next_is, top_is}
use Rattle.node_store.proofs.Edges.{rise_of}
use Rattle.node_store.proofs.Values.{each, first, values_from}
use Rattle.std.proofs.lemmas.Bool.{cases_lt, true≢false}
use Rattle.std.proofs.lemmas.List.{length-append, length-take-le}
use Rattle.std.proofs.Math.Seq.{take-suc-set}
use Rattle.rule_audit.specs.declared.search.least.Found.{Found}
use Rattle.rule_audit.specs.declared.search.least.Found.TheVariants.{At, Nowhere, GaveUp}

-- read where no node stands
abbrev pub no_id : NodeId
no_id = record { 0 = 0 }

-- a node of a level is in use
pub used : (nodes : List Node) (id depth : ℕ) → level_of nodes id ≡ drop depth stated → id < length nodes
used nodes id depth at = within nodes id (subst IsLevel (sym at) (is_level depth))

pub has : (nodes : List Node) (id depth : ℕ) → depth < 5 → level_of nodes id ≡ drop depth stated → HasField (level_of nodes id)
has nodes id depth less at = subst HasField (sym at) (has_field depth less)

-- its edges fill the field
pub full : (nodes : List Node) (id depth : ℕ) (edges : List Edge) → depth < 5 → level_of nodes id ≡ drop depth stated → AreFull (top_of (level_of nodes id)) edges → AreFull (greatest_of depth) edges
full nodes id depth edges less at f = subst (λ g. AreFull g edges) (ap top_of at ∙ top_is depth less) f

-- the node to which a value leads stands at the next level
pub child_at : (nodes : List Node) (id depth v to : ℕ) → IsStore nodes → depth < 5 → level_of nodes id ≡ drop depth stated → v ≤ greatest_of depth → child_of (edges_of nodes id) v ≡ to →
    level_of nodes to ≡ drop (suc depth) stated
child_at nodes id depth v to s less at low leads =
    ap (level_of nodes) (sym leads)
    ∙ (leads_on nodes id v s (has nodes id depth less at) (subst (λ n. v ≤ n) (sym (ap top_of at ∙ top_is depth less)) low)).1
    ∙ ap next at
    ∙ next_is depth less

-- the values from lo to the edge's end lead from the node where the edge does
abbrev pub LeadAlike : List Node → ℕ → ℕ → Edge → Type 0
LeadAlike nodes id lo e = (v : ℕ) → lo ≤ v → v ≤ e.hi → child_of (edges_of nodes id) v ≡ e.to.0

-- the edge at which a value leads on from a node, as a search in its edges tells it
pub record LeadsOn (nodes : List Node) (id depth value : ℕ) (e : Edge) : Type 0 where
  pub low : value ≤ e.hi
  pub leads : LeadAlike nodes id value e
  pub level : level_of nodes e.to.0 ≡ drop (suc depth) stated
  pub used : e.to.0 < length nodes

pub leads_from : (nodes : List Node) (id depth value : ℕ) (edges : List Edge) (e : Edge) → IsStore nodes → depth < 5 → level_of nodes id ≡ drop depth stated → value ≤ greatest_of depth →
    edges ≡ edges_of nodes id → value ≤ e.hi → ((v : ℕ) → value ≤ v → v ≤ e.hi → child_of edges v ≡ e.to.0) → LeadsOn nodes id depth value e
leads_from nodes id depth value edges e s less at inside is low leads =
    let alike : LeadAlike nodes id value e = λ v from to. ap (λ es. child_of es v) (sym is) ∙ leads v from to in
    let level = child_at nodes id depth value e.to.0 s less at inside (alike value (omega arith) low) in
    record { low = low; leads = alike; level = level; used = used nodes e.to.0 (suc depth) level }

module _ (nodes : List Node) where
  pub counted : (xs ys : List NodeId) (id : NodeId) → ys ≡ xs ++ id ∷ [] → GainsChild nodes xs ys id.0
  counted xs ys id is = record {
    stand = λ place at h. subst (StandAtLevel nodes place) (sym is) (All-push (λ (i : NodeId). level_of nodes i.0 ≡ place) xs id h at);
    answers = λ values ok. ap (λ (zs : List NodeId). first_answer nodes zs values) is ∙ first_push nodes xs id values;
  }

  -- one node more
  pub next_row : (depth lo hi top : ℕ) (ids xs ys : List NodeId) (id : NodeId) (e : Edge) → level_of nodes e.to.0 ≡ drop (suc depth) stated → lo ≤ e.hi → LeadAlike nodes id.0 lo e →
      top ≡ min hi e.hi → GainsChild nodes xs ys e.to.0 → AreChildren nodes depth ids lo hi xs → AreChildren nodes depth (ids ++ id ∷ []) lo top ys
  next_row depth lo hi top ids xs ys id e at low leads is gains row = record {
    low = let r = row.low in omega (arith, r, low, is);
    high = let r = row.high in omega (arith, r, is);
    stand = gains.stand (drop (suc depth) stated) at row.stand;
    answers = λ v values from to ok.
        let less : v ≤ hi = omega (arith, to, is) in
        let inside : v ≤ e.hi = omega (arith, to, is) in
        first_push nodes ids id (v ∷ values)
        ∙ ap (λ n. over n (answer nodes id.0 (v ∷ values))) (row.answers v values from less ok)
        ∙ ap (λ n. over (first_answer nodes xs values) (answer nodes n values)) (leads v from inside)
        ∙ sym (gains.answers values (subst (λ l. AreValues l values) (sym at) ok));
  }

  module _ (depth lo : ℕ) (around : Around) (step : Branch) (e : Edge) (at : level_of nodes e.to.0 ≡ drop (suc depth) stated) (leads : LeadAlike nodes around.here.0 lo e) (here : step.around.here ≡ e.to) (high : e.hi ≤ greatest_of depth) where
    same_here : (v : ℕ) (values : List ℕ) → lo ≤ v → v ≤ e.hi → answer nodes around.here.0 (v ∷ values) ≡ answer nodes step.around.here.0 values
    same_here v values from to = ap (λ n. answer nodes n values) (leads v from to ∙ ap (λ (i : NodeId). i.0) (sym here))

    level_here : level_of nodes step.around.here.0 ≡ drop (suc depth) stated
    level_here = ap (λ (i : NodeId). level_of nodes i.0) here ∙ at

    -- the rule doesn't match
    pub step_past : lo ≤ e.hi → AnswersThroughout nodes true e.to.0 → step.hi ≡ e.hi → step.around.before.items ≡ [] → step.around.behind.items ≡ [] → IsBranch nodes depth around lo step
    step_past low nothing hi before behind =
        let zero : (values : List ℕ) → AreValues (drop (suc depth) stated) values → answer nodes step.around.here.0 values ≡ 0 = λ values ok.
        ap (λ (i : NodeId). answer nodes i.0 values) here ∙ eqb-true (answer nodes e.to.0 values) 0 (nothing values (subst (λ l. AreValues l values) (sym at) ok)) in
        let none = All-nil (λ (i : NodeId). level_of nodes i.0 ≡ drop (suc depth) stated) in
        record {
          low = omega (arith, low, hi);
          high = omega (arith, high, hi);
          stand = record {
            here = level_here;
            before = subst (StandAtLevel nodes (drop (suc depth) stated)) (sym before) none;
            behind = subst (StandAtLevel nodes (drop (suc depth) stated)) (sym behind) none;
          };
          onward = λ v values from to ok wanted. absurd (wanted.matched (same_here v values from (omega (arith, to, hi)) ∙ zero values ok));
          back = λ v values from to ok wanted. absurd (wanted.matched (zero values ok));
        }

    -- all lead on
    pub step_on : (before_hi behind_hi : ℕ) → lo ≤ step.hi → step.hi ≤ e.hi → step.hi ≤ before_hi → step.hi ≤ behind_hi →
        AreChildren nodes depth around.before.items lo before_hi step.around.before.items → AreChildren nodes depth around.behind.items lo behind_hi step.around.behind.items → IsBranch nodes depth around lo step
    step_on before_hi behind_hi low below below_before below_behind before behind = record {
      low = low;
      high = omega (arith, high, below);
      stand = record { here = level_here; before = before.stand; behind = behind.stand };
      onward = λ v values from to ok wanted. record {
        matched = λ zero. wanted.matched (same_here v values from (omega (arith, to, below)) ∙ zero);
        first = sym (before.answers v values from (omega (arith, to, below_before)) ok) ∙ wanted.first;
        otherwise = λ same. wanted.otherwise (
            behind.answers v values from (omega (arith, to, below_behind)) ok ∙ same ∙ sym (same_here v values from (omega (arith, to, below)))
            );
      };
      back = λ v values from to ok wanted. record {
        matched = λ zero. wanted.matched (sym (same_here v values from (omega (arith, to, below))) ∙ zero);
        first = before.answers v values from (omega (arith, to, below_before)) ok ∙ wanted.first;
        otherwise = λ same. wanted.otherwise (
            sym (behind.answers v values from (omega (arith, to, below_behind)) ok) ∙ same ∙ same_here v values from (omega (arith, to, below))
            );
      };
    }

-- a node whose children are all marked
pub inner : (nodes : List Node) (marks : List Bool) (id : ℕ) (nothing : Bool) (edges : List Edge) → IsStore nodes → HasField (level_of nodes id) → AreFull (top_of (level_of nodes id)) edges →
    edges ≡ edges_of nodes id → AreRight nodes nothing marks → All (λ (e : Edge). get_or marks e.to.0 false ≡ true) edges → AnswersThroughout nodes nothing id
inner nodes marks id nothing edges s field full is right all =
    let top = top_of (level_of nodes id) in
    let rise = rise_of top (edges_of nodes id) (subst (λ es. AreFull top es) is full) in
    let every = subst (λ (es : List Edge). All (λ (e : Edge). get_or marks e.to.0 false ≡ true) es) is all in
    each (λ values. nat_eq (answer nodes id values) 0 ≡ nothing) (level_of nodes id) field
    (λ v rest low ok.
    right (child_of (edges_of nodes id) v) (chosen (λ n. get_or marks n false ≡ true) top 0 (edges_of nodes id) v rise low every) rest
    (subst (λ l. AreValues l rest) (sym (leads_on nodes id v s field low).1) ok))

-- where an earlier rule matches, nothing is wanted
module _ (nodes : List Node) (place : List ℕ) (around : Around) (at : AreAround nodes place around) where
  pub none_hidden : (marks : List Bool) → AreRight nodes false marks → HasMarked marks around.before.items → NoneIsWanted nodes place around
  none_hidden marks right has = λ values ok wanted.
      let ids = around.before.items in
      let id = has.0 in
      let zero = All-contains (λ (i : NodeId). answer nodes i.0 values ≡ 0) ids id (all_zero nodes ids values wanted.first) has.1 in
      let level = All-contains (λ (i : NodeId). level_of nodes i.0 ≡ place) ids id at.before has.1 in
      true≢false (sym (eq-eqb (answer nodes id.0 values) 0 zero) ∙ right id.0 has.2 values (subst (λ l. AreValues l values) (sym level) ok))

-- values that begin so, with one more behind them
parted : (values front : List ℕ) (depth v : ℕ) → length front ≡ depth → take (suc depth) values ≡ front ++ v ∷ [] → (take depth values ≡ front) × (drop depth values ≡ v ∷ drop (suc depth) values)
parted [] front depth v long is = absurd (let n = ap (λ (xs : List ℕ). length xs) is in let m = length-append front (v ∷ []) in omega (arith, n, m))
parted (x ∷ values) [] zero v long is = let e : x ≡ v = cc in (refl, ap (λ y. y ∷ values) e)
parted (x ∷ values) (y ∷ front) (suc depth) v long is =
    let e : x ≡ y = cc in
    let rest : take (suc depth) values ≡ front ++ v ∷ [] = cc in
    let r = parted values front depth v (omega (arith, long)) rest in
    (ap (λ xs. x ∷ xs) r.0 ∙ ap (λ z. z ∷ front) e, r.1)
parted values front depth v long is = absurd (omega arith)

module _ (nodes : List Node) (depth : ℕ) (around : Around) where
  -- nothing is wanted that begins with a value below this one
  abbrev pub AreGone : ℕ → Type 0
  AreGone lo = (v : ℕ) (values : List ℕ) → v < lo → AreValues (drop (suc depth) stated) values → IsWanted nodes around (v ∷ values) → ⊥

  pub all_gone : (lo : ℕ) → depth < 5 → greatest_of depth < lo → AreGone lo → NoneIsWanted nodes (drop depth stated) around
  all_gone lo five past gone = λ values ok wanted.
      each (λ (xs : List ℕ). IsWanted nodes around xs → ⊥) (drop depth stated) (has_field depth five)
      (λ v rest low here.
      gone v rest (omega (arith, low, top_is depth five, past)) (subst (λ l. AreValues l rest) (next_is depth five) here))
      values ok wanted

  module _ (lo : ℕ) (step : Branch) (is : IsBranch nodes depth around lo step) (gone : AreGone lo) where
    -- nothing is wanted of the step's values
    pub gone_on : (top : ℕ) → top ≡ suc step.hi → NoneIsWanted nodes (drop (suc depth) stated) step.around → AreGone top
    gone_on top same none = λ v values less ok wanted. elim (cases_lt v lo) [
      | inl below ↦ gone v values below ok wanted
      | inr above ↦ none values ok (is.onward v values above (omega (arith, less, same)) ok wanted)
    ]

    least_by : (rest others : List ℕ) → depth < 5 → IsLeastWanted nodes (drop (suc depth) stated) step.around rest → AreValues (drop depth stated) others → IsWanted nodes around others →
        ComesBefore others (lo ∷ rest) → ⊥
    least_by rest [] five found ok wanted before = before
    least_by rest (v ∷ others) five found ok wanted (inl less) =
        gone v others less (subst (λ l. AreValues l others) (next_is depth five) (first (drop depth stated) v others (has_field depth five) ok).1) wanted
    least_by rest (v ∷ others) five found ok wanted (inr same) =
        let here = subst (λ l. AreValues l others) (next_is depth five) (first (drop depth stated) v others (has_field depth five) ok).1 in
        let e = same.0 in
        found.least others here (is.onward v others (omega (arith, e)) (omega (arith, e, is.low)) here wanted) same.1

    least_here : (rest : List ℕ) → depth < 5 → IsLeastWanted nodes (drop (suc depth) stated) step.around rest → IsLeastWanted nodes (drop depth stated) around (lo ∷ rest)
    least_here rest five found =
        let low = is.low in
        let high = is.high in
        let top = top_is depth five in record {
          in_fields = values_from (drop depth stated) lo rest (has_field depth five) (omega (arith, low, high, top)) (subst (λ l. AreValues l rest) (sym (next_is depth five)) found.in_fields);
          wanted = is.back lo rest (omega arith) low found.in_fields found.wanted;
          least = λ others ok wanted before. least_by rest others five found ok wanted before;
        }

    -- what is found of the step's values is found of all
    pub found_here : (values begun : List ℕ) (found : Found) → depth < 5 → length values ≡ 5 → begun ≡ set values depth lo → IsFound nodes (suc depth) step.around begun found →
        is_nowhere found ≡ false → IsFound nodes depth around values found
    found_here values begun Nowhere five count is_begun h e = absurd (true≢false e)
    found_here values begun GaveUp five count is_begun h e = tt
    found_here values begun (At header) five count is_begun h e =
        let begins = h.0 ∙ ap (take (suc depth)) is_begun ∙ take-suc-set values depth lo (omega (arith, five, count)) in
        let p = parted header.values (take depth values) depth lo (length-take-le depth values (omega (arith, five, count))) begins in
        (p.0, subst (IsLeastWanted nodes (drop depth stated) around) (sym p.1) (least_here (drop (suc depth) header.values) five h.1))

-- where the search went through all values in vain, none is wanted
pub nowhere : (nodes : List Node) (depth : ℕ) (around : Around) (values : List ℕ) (found : Found) → IsFound nodes depth around values found → is_nowhere found ≡ true → NoneIsWanted nodes (drop depth stated) around
nowhere nodes depth around values Nowhere h e = h
nowhere nodes depth around values found h e = absurd (true≢false (sym e))
