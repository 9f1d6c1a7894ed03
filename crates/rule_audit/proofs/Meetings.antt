-- What was met, as the walk goes on from edge to edge.
use Rattle.std.proofs.Common.{◌≡◌, ◌≤◌, ◌<◌, ◌∷◌, ℕ, zero, suc, List, [], drop, length, get_or, arith, ◌++◌, ◌∙◌, take, set, ap, append_assoc, refl, sym, subst, inl, inr, ◌⊎◌, Bool, true, slice_index_or, append-nil}
use Rattle.node_store.specs.declared.edge.Edge.{Edge}
use Rattle.node_store.specs.Edges.{AreFull, child_of}
use Rattle.node_store.proofs.Edges.{Rise, bounded, past, rise_of, within}
use Rattle.field_boxes.specs.declared.header.Header.{Header}
use Rattle.field_boxes.specs.Headline.Fields.{stated, AreValues, IsHeader}
use Rattle.field_boxes.specs.Fields.{greatest_of, ComesBefore}
use Rattle.node_store.specs.Diagram.{Node, answer, edges_of, level_of}
use Rattle.rule_audit.specs.declared.state.RuleState.{RuleState}
use Rattle.rule_audit.specs.Labels.{label_at}
use Rattle.rule_audit.specs.Meeting.{AreMet, Before, IsMarked, IsStateSoFar, LeadsTo, UpTo, next_shown, shown_by, state_after}
use Rattle.rule_audit.proofs.Order.{Within, before_more, before_raised, before_zero, by_value, cut, rest_values, IsFirstValue, first_value, no_values, values_joined, values_lower}
use Rattle.rule_audit.proofs.SoFar.{IsKnown, one_more, widened}

-- the edges rise from a value on to the greatest
abbrev pub RiseFrom : ℕ → ℕ → List Edge → Type 0
RiseFrom greatest lo [] = lo ≡ suc greatest
RiseFrom greatest lo (e ∷ edges) = (lo ≤ e.hi) × (e.hi ≤ greatest) × RiseFrom greatest (suc e.hi) edges

rise_all : (greatest lo : ℕ) (edges : List Edge) → Rise greatest lo edges → RiseFrom greatest lo edges
rise_all greatest lo [] h = absurd h
rise_all greatest lo (e ∷ []) h = (h.0, omega (arith, h.1), omega (arith, h.1))
rise_all greatest lo (e ∷ d ∷ edges) h = let b = bounded greatest lo e (d ∷ edges) h in (b.0, b.1, rise_all greatest (suc e.hi) (d ∷ edges) h.1)

pub all_left : (greatest : ℕ) (edges : List Edge) → AreFull greatest edges → RiseFrom greatest 0 edges
all_left greatest edges h = rise_all greatest 0 edges (rise_of greatest edges h)

-- the first edge that is left
pub record IsNextEdge (greatest lo : ℕ) (edges : List Edge) (i : ℕ) (e : Edge) : Type 0 where
  pub low : lo ≤ e.hi
  pub high : e.hi ≤ greatest
  pub rise : RiseFrom greatest (suc e.hi) (drop (suc i) edges)
  pub leads : (v : ℕ) → v ≤ e.hi → child_of (drop i edges) v ≡ e.to.0
  pub later : (v : ℕ) → e.hi < v → child_of (drop i edges) v ≡ child_of (drop (suc i) edges) v

first_edge : (greatest lo : ℕ) (e : Edge) (edges : List Edge) → RiseFrom greatest lo (e ∷ edges) → IsNextEdge greatest lo (e ∷ edges) 0 e
first_edge greatest lo e edges h = record {
  low = h.0;
  high = h.1;
  rise = h.2;
  leads = λ v top. within e edges v top;
  later = λ v above. past e edges v above;
}

pub next_edge : (greatest lo : ℕ) (edges : List Edge) (i : ℕ) (d : Edge) → i < length edges → RiseFrom greatest lo (drop i edges) → IsNextEdge greatest lo edges i (get_or edges i d)
next_edge greatest lo [] i d less h = absurd (omega (arith, less))
next_edge greatest lo (e ∷ edges) zero d less h = first_edge greatest lo e edges h
next_edge greatest lo (e ∷ edges) (suc i) d less h =
    let r = next_edge greatest lo edges i d (omega (arith, less)) h in record {
      low = r.low;
      high = r.high;
      rise = r.rise;
      leads = r.leads;
      later = r.later;
    }

-- what is marked after one more is marked
marked_by : (seen : List Bool) (id other : ℕ) → IsMarked (set seen id true) other → (other ≡ id) ⊎ IsMarked seen other
marked_by [] zero other h = inr h
marked_by [] (suc id) other h = inr h
marked_by (b ∷ seen) zero zero h = inl refl
marked_by (b ∷ seen) zero (suc other) h = inr h
marked_by (b ∷ seen) (suc id) zero h = inr h
marked_by (b ∷ seen) (suc id) (suc other) h = elim (marked_by seen id other h) [ inl e ↦ inl (ap suc e) | inr m ↦ inr m ]

module _ (first : ℕ) (nodes : List Node) (root : ℕ) where
  abbrev Known : (List ℕ → Type 0) → List ℕ → Type 0
  Known Old h = Old h ⊎ IsKnown Old (answer nodes root) h

  known_label : (k : ℕ) (Old : List ℕ → Type 0) (h : List ℕ) → Known Old h → Old h ⊎ IsKnown Old (shown_by first nodes root k) h
  known_label k Old h (inl old) = inl old
  known_label k Old h (inr r) = inr (record { earlier = r.earlier; old = r.old; same = ap (λ n. next_shown k (label_at first n)) r.same; before = r.before })

  -- more headers are met, which show nothing new
  met_wider : (Old New : List ℕ → Type 0) (seen : List Bool) (states : List RuleState) → ((h : List ℕ) → Old h → New h) → ((h : List ℕ) → New h → Known Old h) →
      AreMet first nodes root Old seen states → AreMet first nodes root New seen states
  met_wider Old New seen states grows known m = record {
    each = λ k d less.
        widened (shown_by first nodes root k) Old New grows (λ h new. known_label k Old h (known h new)) (slice_index_or states k d) (m.each k d less);
    again = λ id values marked ok. let r = m.again id values marked ok in (r.0, grows r.0 r.1, r.2);
  }

  -- a value of a node's field leads on to a child
  pub leads_on : (front : List ℕ) (id to v : ℕ) (edges : List Edge) → LeadsTo nodes root front id → edges ≡ edges_of nodes id → child_of edges v ≡ to → LeadsTo nodes root (front ++ v ∷ []) to
  leads_on front id to v edges leads is child = λ rest.
      ap (answer nodes root) (append_assoc front (v ∷ []) rest)
      ∙ leads (v ∷ rest)
      ∙ ap (λ es. answer nodes (child_of es v) rest) (sym is)
      ∙ ap (λ n. answer nodes n rest) child

  -- before the values of a field nothing more is met
  pub met_first : (front : List ℕ) (seen : List Bool) (states : List RuleState) → AreMet first nodes root (Before front) seen states → AreMet first nodes root (Before (front ++ 0 ∷ [])) seen states
  met_first front seen states m =
      met_wider (Before front) (Before (front ++ 0 ∷ [])) seen states (λ h old. (old.0, before_more h front (0 ∷ []) old.1)) (λ h new. inl (new.0, before_zero front h new.1)) m

  -- the values of an edge lead one way, so the first stands for all
  module _ (front : List ℕ) (lo hi id : ℕ) (ordered : lo ≤ hi) (leads : (v : ℕ) → lo ≤ v → v ≤ hi → LeadsTo nodes root (front ++ v ∷ []) id) where
    edge_grows : (h : List ℕ) → UpTo (front ++ lo ∷ []) h → Before (front ++ suc hi ∷ []) h
    edge_grows h old = (
      old.0,
      elim old.1 [
        | inl before ↦ before_raised front h lo (suc hi) (omega (arith, ordered)) before
        | inr begins ↦
            subst (λ x. ComesBefore x (front ++ suc hi ∷ [])) (sym (begins.1 ∙ append_assoc front (lo ∷ []) begins.0)) (by_value front lo (suc hi) begins.0 [] (omega (arith, ordered)))
      ],
    )

    leads_at : (v : ℕ) (rest : List ℕ) → lo ≤ v → v ≤ hi → answer nodes root (front ++ v ∷ rest) ≡ answer nodes id rest
    leads_at v rest low high = ap (answer nodes root) (sym (append_assoc front (v ∷ []) rest)) ∙ leads v low high rest

    lesser : (v : ℕ) → lo ≤ v → (v ≡ lo) ⊎ (lo < v)
    lesser v h = grind (arith, h)

    edge_inside : (h : List ℕ) → IsHeader h → (w : Within front lo hi h) → (w.value ≡ lo) ⊎ (lo < w.value) → Known (UpTo (front ++ lo ∷ [])) h
    edge_inside h ok w (inl same) =
        inl (ok, inr (w.rest, w.is ∙ ap (λ n. front ++ n ∷ w.rest) same ∙ sym (append_assoc front (lo ∷ []) w.rest)))
    edge_inside h ok w (inr less) = inr (record {
      earlier = front ++ lo ∷ w.rest;
      old = (
        values_lower stated front w.rest lo w.value w.low (subst IsHeader w.is ok),
        inr (w.rest, sym (append_assoc front (lo ∷ []) w.rest)),
      );
      same = leads_at lo w.rest (omega arith) ordered ∙ sym (leads_at w.value w.rest w.low w.high) ∙ ap (answer nodes root) (sym w.is);
      before = subst (ComesBefore (front ++ lo ∷ w.rest)) (sym w.is) (by_value front lo w.value w.rest w.rest less);
    })

    edge_known : (h : List ℕ) → Before (front ++ suc hi ∷ []) h → Known (UpTo (front ++ lo ∷ [])) h
    edge_known h new = elim (cut front h lo hi new.1) [
      | inl before ↦ inl (new.0, inl before)
      | inr w ↦ edge_inside h new.0 w (lesser w.value w.low)
    ]

    pub met_edge : (seen : List Bool) (states : List RuleState) → AreMet first nodes root (UpTo (front ++ lo ∷ [])) seen states → AreMet first nodes root (Before (front ++ suc hi ∷ [])) seen states
    met_edge seen states m = met_wider (UpTo (front ++ lo ∷ [])) (Before (front ++ suc hi ∷ [])) seen states edge_grows edge_known m

  -- past the greatest value of a field all that begins so is met
  module _ (front : List ℕ) (depth : ℕ) (less : depth < 5) (long : length front ≡ depth) where
    last_grows : (h : List ℕ) → Before (front ++ suc (greatest_of depth) ∷ []) h → UpTo front h
    last_grows h old = (
      old.0,
      elim (cut front h 0 (greatest_of depth) old.1) [
        | inl before ↦ inl (before_zero front h before)
        | inr w ↦ inr (w.value ∷ w.rest, w.is)
      ],
    )

    begun : (h rest : List ℕ) → h ≡ front ++ rest → IsFirstValue depth rest → ComesBefore h (front ++ suc (greatest_of depth) ∷ [])
    begun h rest is f =
        subst (λ x. ComesBefore x (front ++ suc (greatest_of depth) ∷ [])) (sym (is ∙ ap (λ xs. front ++ xs) f.is))
        (by_value front f.value (suc (greatest_of depth)) f.rest [] (omega (arith, f.within)))

    last_known : (h : List ℕ) → UpTo front h → Known (Before (front ++ suc (greatest_of depth) ∷ [])) h
    last_known h new = inl (
      new.0,
      elim new.1 [
        | inl before ↦ before_more h front (suc (greatest_of depth) ∷ []) before
        | inr begins ↦
            begun h begins.0 begins.1
            (first_value depth begins.0 less (subst (λ n. AreValues (drop n stated) begins.0) long (rest_values stated front begins.0 (subst IsHeader begins.1 new.0))))
      ],
    )

    pub met_last : (seen : List Bool) (states : List RuleState) → AreMet first nodes root (Before (front ++ suc (greatest_of depth) ∷ [])) seen states → AreMet first nodes root (UpTo front) seen states
    met_last seen states m = met_wider (Before (front ++ suc (greatest_of depth) ∷ [])) (UpTo front) seen states last_grows last_known m

  module _ (front : List ℕ) (depth id : ℕ) (long : length front ≡ depth) (level : level_of nodes id ≡ drop depth stated) (leads : LeadsTo nodes root front id) where
    rest_of : (h rest : List ℕ) → IsHeader h → h ≡ front ++ rest → AreValues (drop depth stated) rest
    rest_of h rest ok is = subst (λ n. AreValues (drop n stated) rest) long (rest_values stated front rest (subst IsHeader is ok))

    -- a node that was seen answers nothing new
    pub met_again : (seen : List Bool) (states : List RuleState) → IsMarked seen id → AreMet first nodes root (Before front) seen states → AreMet first nodes root (UpTo front) seen states
    met_again seen states marked m =
        met_wider (Before front) (UpTo front) seen states (λ h old. (old.0, inl old.1))
        (λ h new. elim new.1 [
          | inl before ↦ inl (new.0, before)
          | inr begins ↦
              let r = m.again id begins.0 marked (subst (λ l. AreValues l begins.0) (sym level) (rest_of h begins.0 new.0 begins.1)) in
              inr (record {
                earlier = r.0;
                old = r.1;
                same = r.2 ∙ sym (leads begins.0) ∙ ap (answer nodes root) (sym begins.1);
                before = subst (ComesBefore r.0) (sym begins.1) (before_more r.0 front begins.0 r.1.1);
              })
        ])
        m

    -- once all that begins so is met, the node is seen
    pub met_marked : (values : List ℕ) (seen : List Bool) (states : List RuleState) → IsHeader values → front ≡ take depth values → AreMet first nodes root (UpTo front) seen states →
        AreMet first nodes root (UpTo front) (set seen id true) states
    met_marked values seen states header is m = record {
      each = m.each;
      again = λ other rest marked ok. elim (marked_by seen id other marked) [
        | inl same ↦
            let here = subst (λ l. AreValues l rest) level (subst (λ n. AreValues (level_of nodes n) rest) same ok) in (
              front ++ rest,
              (subst (λ xs. IsHeader (xs ++ rest)) (sym is) (values_joined stated values rest depth header here), inr (rest, refl)),
              leads rest ∙ ap (λ n. answer nodes n rest) (sym same),
            )
        | inr earlier ↦ m.again other rest earlier ok
      ];
    }

    -- a leaf shows what its label says
    module _ (header : Header) (five : depth ≡ 5) (is : front ≡ header.values) (ok : IsHeader header.values) where
      alone : (h : List ℕ) → UpTo front h → Before front h ⊎ (h ≡ header.values)
      alone h new = elim new.1 [
        | inl before ↦ inl (new.0, before)
        | inr begins ↦ inr (begins.1 ∙ ap (λ xs. front ++ xs) (no_values depth begins.0 five (rest_of h begins.0 new.0 begins.1)) ∙ append-nil front ∙ is)
      ]

      answers_label : answer nodes root header.values ≡ answer nodes id []
      answers_label = ap (answer nodes root) (sym (append-nil front ∙ is)) ∙ leads []

      pub met_leaf : (number : ℕ) (seen : List Bool) (old new : List RuleState) → number ≡ answer nodes id [] → length new ≡ length old →
          ((k : ℕ) (d : RuleState) → k < length old → slice_index_or new k d ≡ state_after (next_shown k (label_at first number)) header (slice_index_or old k d)) →
          AreMet first nodes root (Before front) seen old → AreMet first nodes root (UpTo front) seen new
      met_leaf number seen old new told count each m = record {
        each = λ k d less.
            let inside : k < length old = omega (arith, less, count) in
            subst (IsStateSoFar (UpTo front) (shown_by first nodes root k)) (sym (each k d inside))
            (one_more (shown_by first nodes root k) (Before front) (UpTo front) (λ h old. (old.0, inl old.1)) header (ok, inr ([], sym (append-nil front ∙ is)))
            alone (λ h old. subst (ComesBefore h) is old.1) (next_shown k (label_at first number)) (ap (λ n. next_shown k (label_at first n)) (answers_label ∙ sym told))
            (slice_index_or old k d) (m.each k d inside));
        again = λ other rest marked good. let r = m.again other rest marked good in (r.0, (r.1.0, inl r.1.1), r.2);
      }
