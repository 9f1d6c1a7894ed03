-- What was kept of a block, with nodes as contexts: it stays right where the store grows, and blocks of each kind.
use Rattle.node_store.specs.Levels.{HasField, IsLevel, next, top_of}
use Rattle.std.proofs.Common.{◌≡◌, ◌∷◌, ◌++◌, ℕ, List, [], ◌<◌, ◌≤◌, ◌+◌, Bool, true, false, length, refl, ap, arith, sym, ◌∙◌, subst}
use Rattle.std.specs.Prelude.{◌||◌, ◌==◌, not, cond, map, slice_get}
use Rattle.std.specs.List.{list_any}
use Rattle.std.proofs.lemmas.List.{length-append, length-map}
use Rattle.field_boxes.specs.Headline.Fields.{AreValues}
use Rattle.field_boxes.specs.Headline.Classifier.{Interval, interval_holds}
use Rattle.node_store.specs.declared.edge.NodeId.{NodeId}
use Rattle.node_store.specs.Edges.{child_of}
use Rattle.node_store.specs.Diagram.{Node, answer, node_edges, level_of, edges_of}
use Rattle.node_store.specs.Store.{IsStore, Grows}
use Rattle.node_store.proofs.Canonical.{in_use, is_level, is_next}
use Rattle.node_store.proofs.Growth.{kept_place, level_kept}
use Rattle.node_store.proofs.Values.{each}
use Rattle.redundancy_laws.specs.declared.context.Context.{Context}
use Rattle.redundancy_laws.specs.declared.sifted.Sifted.{Sifted}
use Rattle.redundancy_laws.specs.Rows.{Row, last_row, in_front}
use Rattle.redundancy_laws.specs.Marks.{marked}
use Rattle.redundancy_laws.specs.Contexts.{IsRight, IsWanted, before_block, after_block}
use Rattle.redundancy_laws.specs.Layers.{AreApartFrom}
use Rattle.redundancy_laws.specs.Sifted.{node_at, context_at, is_in, contexts_of, answers_of, AreNodes, AreContexts, IsSifted, context_below, AreBelow, IsCover, IsUnion, IsBehind, answers_by, IsSoFar, LeadOn, LeadsAs}
use Rattle.redundancy_laws.proofs.Leaves.{leaf-right}
use Rattle.redundancy_laws.proofs.Merged.{same-contexts}
use Rattle.redundancy_laws.proofs.Sequence.{sequence, nothing}
use Rattle.redundancy_laws.proofs.Marked.{marked-append, all-marked}
use Rattle.redundancy_laws.proofs.NextRun.{next_run, unchanged}
use Rattle.redundancy_laws.proofs.Below.{level-below, split-below}

number_stays : (old new : List Node) (id : ℕ) (level : List ℕ) → IsLevel level → Grows old new → level_of old id ≡ level → level_of new id ≡ level
number_stays old new id level five g e = level_kept old new id g (in_use old id level five e) ∙ e

answer_stays : (old new : List Node) (id : ℕ) (level : List ℕ) (values : List ℕ) → IsLevel level → Grows old new → level_of old id ≡ level → answer new id values ≡ answer old id values
answer_stays old new id level values five g e = g.answers id values (in_use old id level five e)

in_stays : (old new : List Node) (id : ℕ) (level : List ℕ) (values : List ℕ) → IsLevel level → Grows old new → level_of old id ≡ level → is_in new id values ≡ is_in old id values
in_stays old new id level values five g e = ap (λ n. not (n == 0)) (answer_stays old new id level values five g e)

pub pairs-stay : (old new : List Node) (level : List ℕ) (pairs : List Context) → IsLevel level → Grows old new → AreContexts old level pairs → AreContexts new level pairs
pairs-stay old new level pairs five g h c less = let p = h c less in (number_stays old new _ level five g p.0, number_stays old new _ level five g p.1)

pub nodes-stay : (old new : List Node) (level : List ℕ) (ids : List NodeId) → IsLevel level → Grows old new → AreNodes old level ids → AreNodes new level ids
nodes-stay old new level ids five g h c less = number_stays old new _ level five g (h c less)

pub cover-stays : (old new : List Node) (level : List ℕ) (set : ℕ) (rows : List Row) → IsLevel level → Grows old new → level_of old set ≡ level → IsCover old level set rows → IsCover new level set rows
cover-stays old new level set rows five g e h values ok = in_stays old new set level values five g e ∙ h values ok

pub union-stays : (old new : List Node) (level : List ℕ) (x y id : ℕ) → IsLevel level → Grows old new → level_of old x ≡ level → level_of old y ≡ level → level_of old id ≡ level → IsUnion old level x y id → IsUnion new level x y id
union-stays old new level x y id five g ex ey e h values ok =
    in_stays old new id level values five g e ∙ h values ok
    ∙ sym (ap (λ t. t || is_in new y values) (in_stays old new x level values five g ex) ∙ ap (λ t. is_in old x values || t) (in_stays old new y level values five g ey))

-- contexts of pairs of an older store
right_stays : (old new : List Node) (level : List ℕ) (rows : List Row) (flags : List Bool) (pairs : List Context) (inner out : ℕ → List ℕ → ℕ) → IsLevel level → Grows old new → AreContexts old level pairs →
    IsRight level (contexts_of old pairs) (marked rows flags) inner → ((c : ℕ) → c < length pairs → (values : List ℕ) → AreValues level values → out c values ≡ inner c values) →
    IsRight level (contexts_of new pairs) (marked rows flags) out
right_stays old new level rows flags pairs inner out five g h right same =
    same-contexts level (contexts_of new pairs) (contexts_of old pairs) (marked rows flags) inner out refl
    (λ c less. record {
      after = λ values ok. sym (answer_stays old new (context_at pairs c).after.0 level values five g (h c less).0);
      met = λ values ok. sym (in_stays old new (context_at pairs c).met.0 level values five g (h c less).1);
    })
    right same

pub sifted-stays : (old new : List Node) (level : List ℕ) (rows : List Row) (pairs : List Context) (s : Sifted) → IsLevel level → Grows old new → AreContexts old level pairs → IsSifted old level rows pairs s → IsSifted new level rows pairs s
sifted-stays old new level rows pairs s five g h k = record {
  flags = k.flags;
  count = k.count;
  numbers = nodes-stay old new level s.after.items five g k.numbers;
  right = right_stays old new level rows s.kept.items pairs (answers_of old s.after.items) (answers_of new s.after.items) five g h k.right
      (λ c less values ok. answer_stays old new (node_at s.after.items c).0 level values five g (k.numbers c (let e = k.count in omega (arith, e, less))));
}

-- a row with no field left
wanted_stays : (old new : List Node) (pairs : List Context) (b : Bool) (r : Row) → Grows old new → AreContexts old [] pairs → IsWanted (contexts_of old pairs) b r → IsWanted (contexts_of new pairs) b r
wanted_stays old new pairs true r g h (c, less, met, differ) =
    (c, less, in_stays old new (context_at pairs c).met.0 [] [] tt g (h c less).1 ∙ met, λ e. differ (sym (answer_stays old new (context_at pairs c).after.0 [] [] tt g (h c less).0) ∙ e))
wanted_stays old new pairs false r g h w =
    λ c less met. answer_stays old new (context_at pairs c).after.0 [] [] tt g (h c less).0 ∙ w c less (sym (in_stays old new (context_at pairs c).met.0 [] [] tt g (h c less).1) ∙ met)

last_answer : (new : List Node) (wanted : Bool) (leaf after id : NodeId) (decision : ℕ) → id ≡ cond wanted leaf after → answer new leaf.0 [] ≡ decision → answer new id.0 [] ≡ cond wanted decision (answer new after.0 [])
last_answer new true leaf after id decision e h = ap (λ (i : NodeId). answer new i.0 []) e ∙ h
last_answer new false leaf after id decision e h = ap (λ (i : NodeId). answer new i.0 []) e

last_number : (new : List Node) (level : List ℕ) (wanted : Bool) (leaf after id : NodeId) → id ≡ cond wanted leaf after → level_of new leaf.0 ≡ level → level_of new after.0 ≡ level → level_of new id.0 ≡ level
last_number new level true leaf after id e h k = ap (λ (i : NodeId). level_of new i.0) e ∙ h
last_number new level false leaf after id e h k = ap (λ (i : NodeId). level_of new i.0) e ∙ k

pub last-sifted : (old new : List Node) (pairs : List Context) (wanted : Bool) (decision : ℕ) (leaf : NodeId) (s : Sifted) → Grows old new → AreContexts old [] pairs →
    IsWanted (contexts_of old pairs) wanted (last_row decision) → level_of new leaf.0 ≡ [] → answer new leaf.0 [] ≡ decision → s.kept.items ≡ wanted ∷ [] →
    length s.after.items ≡ length pairs → ((c : ℕ) → c < length pairs → node_at s.after.items c ≡ cond wanted leaf (context_at pairs c).after) →
    IsSifted new [] (last_row decision ∷ []) pairs s
last-sifted old new pairs wanted decision leaf s g h w number leads kept count each = record {
  flags = ap length kept;
  count = count;
  numbers = λ c less. let l : c < length pairs = omega (arith, count, less) in
      last_number new [] wanted leaf (context_at pairs c).after (node_at s.after.items c) (each c l) number (number_stays old new _ [] tt g (h c l).0);
  right = subst (λ flags. IsRight [] (contexts_of new pairs) (marked (last_row decision ∷ []) flags) (answers_of new s.after.items)) (sym kept)
      (leaf-right (contexts_of new pairs) wanted decision (answers_of new s.after.items) (wanted_stays old new pairs wanted (last_row decision) g h w)
      (λ c less. last_answer new wanted leaf (context_at pairs c).after (node_at s.after.items c) decision (each c less) leads));
}

-- two blocks, one after the other: what was worked out of either, at the store as it is in the end
pub two-sifted : (nodes : List Node) (level : List ℕ) (first second : List Row) (pairs behind before : List Context) (cover : NodeId) (later earlier s : Sifted) →
    IsCover nodes level cover.0 first → length behind ≡ length pairs → length before ≡ length pairs →
    ((c : ℕ) → c < length pairs → IsBehind nodes level cover (context_at pairs c) (context_at behind c)) →
    ((c : ℕ) → c < length pairs → (context_at before c).after ≡ node_at later.after.items c) →
    ((c : ℕ) → c < length pairs → (context_at before c).met ≡ (context_at pairs c).met) →
    IsSifted nodes level second behind later → IsSifted nodes level first before earlier →
    s.kept.items ≡ earlier.kept.items ++ later.kept.items → s.after.items ≡ earlier.after.items → IsSifted nodes level (first ++ second) pairs s
two-sifted nodes level first second pairs behind before cover later earlier s covers cb ca after_is before_is met_is l e kept after = record {
  flags = ap length kept ∙ length-append earlier.kept.items later.kept.items ∙ ap (λ n. n + length later.kept.items) e.flags ∙ ap (λ n. length first + n) l.flags ∙ sym (length-append first second);
  count = ap length after ∙ e.count ∙ ca;
  numbers = subst (AreNodes nodes level) (sym after) e.numbers;
  right = subst (λ ids. IsRight level (contexts_of nodes pairs) (marked (first ++ second) s.kept.items) (answers_of nodes ids)) (sym after)
      (subst (λ flags. IsRight level (contexts_of nodes pairs) (marked (first ++ second) flags) (answers_of nodes earlier.after.items)) (sym kept)
      (subst (λ ms. IsRight level (contexts_of nodes pairs) ms (answers_of nodes earlier.after.items)) (sym (marked-append first second earlier.kept.items later.kept.items e.flags))
      (sequence level (contexts_of nodes pairs) (marked first earlier.kept.items) (marked second later.kept.items) (answers_of nodes later.after.items) (answers_of nodes earlier.after.items)
      (subst (λ rows. IsRight level (after_block (contexts_of nodes pairs) rows) (marked second later.kept.items) (answers_of nodes later.after.items)) (sym (all-marked first earlier.kept.items e.flags)) behind_right)
      before_right)));
}
  where
    behind_right : IsRight level (after_block (contexts_of nodes pairs) first) (marked second later.kept.items) (answers_of nodes later.after.items)
    behind_right = same-contexts level (after_block (contexts_of nodes pairs) first) (contexts_of nodes behind) (marked second later.kept.items) (answers_of nodes later.after.items) (answers_of nodes later.after.items) (sym cb)
        (λ c less. let b = after_is c less in record {
          after = λ values ok. ap (λ (n : NodeId). answer nodes n.0 values) b.0;
          met = λ values ok. b.1 values ok ∙ ap (λ t. is_in nodes (context_at pairs c).met.0 values || t) (covers values ok);
        })
        l.right (λ c less values ok. refl)

    before_right : IsRight level (before_block (contexts_of nodes pairs) (answers_of nodes later.after.items)) (marked first earlier.kept.items) (answers_of nodes earlier.after.items)
    before_right = same-contexts level (before_block (contexts_of nodes pairs) (answers_of nodes later.after.items)) (contexts_of nodes before) (marked first earlier.kept.items) (answers_of nodes earlier.after.items)
        (answers_of nodes earlier.after.items) (sym ca)
        (λ c less. record {
          after = λ values ok. ap (λ (n : NodeId). answer nodes n.0 values) (before_is c less);
          met = λ values ok. ap (λ (n : NodeId). is_in nodes n.0 values) (met_is c less);
        })
        e.right (λ c less values ok. refl)

-- before any run each context leads where it leads
pub none-so-far : (nodes : List Node) (level : List ℕ) (pairs : List Context) → IsStore nodes → HasField level → AreContexts nodes level pairs →
    IsSoFar nodes level [] pairs [] (λ c v. child_of (edges_of nodes (context_at pairs c).after.0) v)
none-so-far nodes level pairs store five h = record {
  count = refl;
  numbers = λ c v less small. level-below nodes level (context_at pairs c).after.0 v store five (h c less).0 small;
  right = same-contexts level (contexts_of nodes pairs) (contexts_of nodes pairs) [] (contexts_of nodes pairs).after (answers_by nodes (λ c v. child_of (edges_of nodes (context_at pairs c).after.0) v)) refl
      (λ c less. record { after = λ values ok. refl; met = λ values ok. refl }) (nothing level (contexts_of nodes pairs))
      (λ c less. each (λ values. answers_by nodes (λ c v. child_of (edges_of nodes (context_at pairs c).after.0) v) c values ≡ answer nodes (context_at pairs c).after.0 values) level five (λ v values small ok. refl));
}

pub so-far-stays : (old new : List Node) (level : List ℕ) (rows : List Row) (pairs : List Context) (flags : List Bool) (leads : ℕ → ℕ → ℕ) → HasField level → Grows old new → AreContexts old level pairs →
    IsSoFar old level rows pairs flags leads → IsSoFar new level rows pairs flags leads
so-far-stays old new level rows pairs flags leads five g h s = record {
  count = s.count;
  numbers = λ c v less small. number_stays old new (leads c v) (next level) (is_next level five) g (s.numbers c v less small);
  right = right_stays old new level rows flags pairs (answers_by old leads) (answers_by new leads) (is_level level five) g h s.right
      (λ c less. each (λ values. answers_by new leads c values ≡ answers_by old leads c values) level five
      (λ v values small ok. answer_stays old new (leads c v) (next level) values (is_next level five) g (s.numbers c v less small)));
}

module _ (nodes : List Node) (level : List ℕ) (span : Interval) (pairs lower : List Context) (to : ℕ → ℕ → ℕ) (rows more : List Row) (flags : List Bool) (inner : Sifted) (before leads : ℕ → ℕ → ℕ) where
  count_more : IsSoFar nodes level rows pairs flags before → IsSifted nodes (next level) more lower inner → length (flags ++ inner.kept.items) ≡ length (rows ++ map (in_front span) more)
  count_more s k =
      length-append flags inner.kept.items ∙ ap (λ n. n + length inner.kept.items) s.count ∙ ap (λ n. length rows + n) (k.flags ∙ sym (length-map more (in_front span)))
      ∙ sym (length-append rows (map (in_front span) more))

  leads_at : AreBelow nodes level span pairs lower to → IsSoFar nodes level rows pairs flags before → IsSifted nodes (next level) more lower inner → LeadOn level span (length pairs) to inner.after.items before leads →
      (c v : ℕ) (t : Bool) → interval_holds v span ≡ t → c < length pairs → v ≤ top_of level → level_of nodes (leads c v) ≡ next level
  leads_at below s k on c v true is less small =
      let d = (below.covered c v less small is).0 in
      let n = k.count in
      ap (level_of nodes) (on.inside c v less small is) ∙ k.numbers (to c v) (omega (arith, d, n))
  leads_at below s k on c v false is less small = ap (level_of nodes) (on.outside c v less small is) ∙ s.numbers c v less small

  pub next-so-far : HasField level → AreApartFrom span rows → AreBelow nodes level span pairs lower to → IsSoFar nodes level rows pairs flags before → IsSifted nodes (next level) more lower inner →
      LeadOn level span (length pairs) to inner.after.items before leads → IsSoFar nodes level (rows ++ map (in_front span) more) pairs (flags ++ inner.kept.items) leads
  next-so-far five apart below s k on = record {
    count = count_more s k;
    numbers = λ c v less small. leads_at below s k on c v (interval_holds v span) refl less small;
    right = next_run level span (contexts_of nodes pairs) (contexts_of nodes lower) to rows more flags inner.kept.items (answers_of nodes inner.after.items) (answers_by nodes before) (answers_by nodes leads)
        five s.count apart s.right (split-below nodes level span pairs lower to below) k.right
        (record {
          inside = λ c v values less small ok is. ap (λ n. answer nodes n values) (on.inside c v less small is);
          outside = λ c v values less small ok is. ap (λ n. answer nodes n values) (on.outside c v less small is);
        });
  }

  pub same-so-far : HasField level → AreApartFrom span rows → AreBelow nodes level span pairs lower to → IsSoFar nodes level rows pairs flags before → IsSifted nodes (next level) more lower inner →
      list_any (λ b. b) inner.kept.items ≡ false → IsSoFar nodes level (rows ++ map (in_front span) more) pairs (flags ++ inner.kept.items) before
  same-so-far five apart below s k none = record {
    count = count_more s k;
    numbers = s.numbers;
    right = unchanged level span (contexts_of nodes pairs) (contexts_of nodes lower) to rows more flags inner.kept.items (answers_of nodes inner.after.items) (answers_by nodes before)
        five s.count apart s.right (split-below nodes level span pairs lower to below) k.right none;
  }

-- nodes that lead on so are what is answered
pub layer-sifted : (nodes : List Node) (level : List ℕ) (rows : List Row) (pairs : List Context) (leads : ℕ → ℕ → ℕ) (s : Sifted) → HasField level → IsSoFar nodes level rows pairs s.kept.items leads →
    length s.after.items ≡ length pairs → ((c : ℕ) → c < length pairs → LeadsAs nodes level leads c (node_at s.after.items c)) → IsSifted nodes level rows pairs s
layer-sifted nodes level rows pairs leads s five so count made = record {
  flags = so.count;
  count = count;
  numbers = λ c less. (made c (omega (arith, count, less))).number;
  right = same-contexts level (contexts_of nodes pairs) (contexts_of nodes pairs) (marked rows s.kept.items) (answers_by nodes leads) (answers_of nodes s.after.items) refl
      (λ c less. record { after = λ values ok. refl; met = λ values ok. refl }) so.right
      (λ c less. each (λ values. answers_of nodes s.after.items c values ≡ answers_by nodes leads c values) level five (λ v values small ok. (made c less).answers v values small ok));
}

-- a node that was made of where the context leads
pub made : (old new : List Node) (level : List ℕ) (leads : ℕ → ℕ → ℕ) (c : ℕ) (id : NodeId) → HasField level → Grows old new → ((v : ℕ) → v ≤ top_of level → level_of old (leads c v) ≡ next level) →
    level_of new id.0 ≡ level → ((v : ℕ) (values : List ℕ) → v ≤ top_of level → answer new id.0 (v ∷ values) ≡ answer old (leads c v) values) → LeadsAs new level leads c id
made old new level leads c id five g in_old number h = record {
  number = number;
  answers = λ v values small ok. h v values small ∙ sym (answer_stays old new (leads c v) (next level) values (is_next level five) g (in_old v small));
}

pub made-stays : (old new : List Node) (level : List ℕ) (leads : ℕ → ℕ → ℕ) (c : ℕ) (id : NodeId) → HasField level → Grows old new → ((v : ℕ) → v ≤ top_of level → level_of old (leads c v) ≡ next level) →
    LeadsAs old level leads c id → LeadsAs new level leads c id
made-stays old new level leads c id five g in_old h = record {
  number = number_stays old new id.0 level (is_level level five) g h.number;
  answers = λ v values small ok.
      answer_stays old new id.0 level (v ∷ values) (is_level level five) g h.number ∙ h.answers v values small ok
      ∙ sym (answer_stays old new (leads c v) (next level) values (is_next level five) g (in_old v small));
}

edges_kept : (old new : List Node) (id : ℕ) → Grows old new → id < length old → edges_of new id ≡ edges_of old id
edges_kept old new id g h = ap node_edges (ap (λ nodes. slice_get nodes id) g.gained.1 ∙ kept_place old g.gained.0 id h)

abbrev pair_to : ℕ → ℕ → Context
pair_to a m = record { after = record { 0 = a }; met = record { 0 = m } }

-- the pairs below stay where they lead
pair_stays : (old new : List Node) (level : List ℕ) (v : ℕ) (p : Context) → IsLevel level → Grows old new → level_of old p.after.0 ≡ level → level_of old p.met.0 ≡ level → context_below new v p ≡ context_below old v p
pair_stays old new level v p five g ea em =
    context_of (ap (λ es. child_of es v) (edges_kept old new p.after.0 g (in_use old p.after.0 level five ea))) (ap (λ es. child_of es v) (edges_kept old new p.met.0 g (in_use old p.met.0 level five em)))
  where
    context_of : {a b m n : ℕ} → a ≡ b → m ≡ n → pair_to a m ≡ pair_to b n
    context_of h k = cc

pub below-stays : (old new : List Node) (level : List ℕ) (span : Interval) (pairs lower : List Context) (to : ℕ → ℕ → ℕ) → IsLevel level → Grows old new → AreContexts old level pairs →
    AreBelow old level span pairs lower to → AreBelow new level span pairs lower to
below-stays old new level span pairs lower to five g are h = record {
  covered = λ c v less small is.
      let s = h.covered c v less small is in
      let p = are c less in
      (s.0, s.1 ∙ sym (pair_stays old new level v (context_at pairs c) five g p.0 p.1));
  reached = λ d less.
      let r = h.reached d less in
      let p = are r.0 r.2 in
      (r.0, r.1, r.2, r.3, r.4, r.5 ∙ sym (pair_stays old new level r.1 (context_at pairs r.0) five g p.0 p.1));
}
