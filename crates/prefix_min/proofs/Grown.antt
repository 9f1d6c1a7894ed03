-- How a part grows by its other half, and by what lies about it.
use Rattle.std.proofs.Common.{Bool, ◌≡◌, ◌++◌, ℕ, suc, List, ◌+◌, ◌-◌, ◌%◌, ◌^◌, ◌<◌, ◌≤◌, refl, ap, arith, sym, ◌∙◌, inl, inr, subst, length, get_or, take, drop}
use Rattle.std.specs.Prelude.{IsTrue, slice_index}
use Rattle.std.proofs.Math.Nat.{add-mod_right}
use Rattle.std.proofs.Math.Seq.{drop-append_seam}
use Rattle.std.proofs.lemmas.Bool.{cases_lt}
use Rattle.std.proofs.lemmas.List.{length-append, get_or_default}
use Rattle.std.proofs.lemmas.Nat.{pow_pos}
use Rattle.prefix_min.specs.declared.parts.FieldPart.{FieldPart}
use Rattle.prefix_min.specs.declared.piece.Piece.{Piece}
use Rattle.prefix_min.specs.declared.plan.Choice.{Choice}
use Rattle.prefix_min.specs.declared.savings.Gain.{Gain}
use Rattle.prefix_min.specs.declared.savings.LabelCost.{LabelCost}
use Rattle.prefix_min.specs.Growth.{IsBuilt, IsBeside, IsHalf, IsPut, IsStretch, Done, done, end_of, IsAbout}
use Rattle.prefix_min.specs.Costs.{least_cost}
use Rattle.prefix_min.specs.Field.{no_piece}
use Rattle.prefix_min.specs.Merging.{AreKept, IsJoined}
use Rattle.prefix_min.specs.Pieces.{AreFit, IsNext, weight_below, reach}
use Rattle.prefix_min.specs.Plan.{IsTopped, more_labels, rows_of}
use Rattle.prefix_min.specs.Savings.{AreSavings, AreSums, IsGain, alone, lowered, saved}
use Rattle.prefix_min.specs.Trie.{costs_of}
use Rattle.prefix_min.proofs.Blocks.{about-aligned, about-ends, from-within, sides, to-within}
use Rattle.prefix_min.proofs.PieceWeights.{first-weighs, next-label, part-inside, piece-place, still-next, below-all, below-rises, ends-rise}
use Rattle.prefix_min.proofs.Joined.{gain-turned, sums-turned}
use Rattle.prefix_min.proofs.Stacked.{constant-built, cut, front-is, halves-built, halves-row, room-built, uncut}
use Rattle.prefix_min.proofs.Stretched.{IsAlone, IsOver, around, stretch-chosen}
use Rattle.field_boxes.proofs.Powers.{double}
use Rattle.prefix_min.proofs.Planned.{both-chosen}

-- the part so far: within the part that is to be done, and it begins in the first piece
pub record IsGrown (keeps : Bool) (weights : List ℕ) (pieces : List Piece) (bits low first : ℕ) (part : FieldPart) (old new : Done) (following : ℕ) : Type 0 where
  pub built : IsBuilt keeps weights pieces part.bits part.low old new following
  pub less : part.bits ≤ bits
  pub aligned : part.low % 2 ^ part.bits ≡ 0
  pub from : low ≤ part.low
  pub to : part.low + 2 ^ part.bits ≤ low + 2 ^ bits
  pub begins : part.low ≤ end_of pieces first

-- what a part saves
kept-of : {keeps : Bool} {weights : List ℕ} {pieces : List Piece} {bits low : ℕ} {before after : List LabelCost} {old new following : ℕ} {cs0 cs1 : List Choice}
    {al0 al1 : List ℕ}
    (b : IsBuilt keeps weights pieces bits low (done before old cs0 al0) (done after new cs1 al1) following) → AreKept weights b.savings
kept-of b = record { rise = b.rise; within = λ d h. b.within d (b.saves.lists d h); most = b.saves.most; above = b.above }

-- the next piece is known from the last value that is done
pub behind-next : (weights : List ℕ) (pieces : List Piece) (fit : AreFit weights pieces) (place v limit : ℕ) → place < length pieces → v ≤ limit → v < end_of pieces place + 1 → limit ≡ end_of pieces place + 1 →
    IsNext pieces place v → IsNext pieces (place + 1) limit
behind-next weights pieces fit place v limit inside le lt is next = record {
  before = λ k d less. elim (cases_lt k place) [
    | inl earlier ↦ omega (arith, next.before k d earlier, le)
    | inr ge ↦
        let e : place ≡ k = omega (arith, less, ge) in
        let same : (get_or pieces k d).hi ≡ end_of pieces place = ap (λ i. (get_or pieces i d).hi) (sym e)
        ∙ ap (λ p. p.hi) (get_or_default pieces place d no_piece inside) in
        omega (arith, same, is)
  ];
  here = λ d more.
      let e : place + 1 ≡ suc place = omega arith in
      let rises = ends-rise (length weights) 0 place no_piece d pieces fit.follow (omega (arith, more)) in
      subst (λ k. limit ≤ (get_or pieces k d).hi) (sym e) (omega (arith, rises, is));
}

-- the first part: the greatest that ends where the first piece does
module _ {keeps : Bool} {weights : List ℕ} {pieces : List Piece} {low first : ℕ} {part : FieldPart} {before after : List LabelCost} {old new was following : ℕ}
    {cs0 cs1 : List Choice} {al0 al1 : List ℕ} (bits : ℕ)
    (fit : AreFit weights pieces) (next : IsNext pieces first low) (within : low + 2 ^ bits ≤ reach 0 pieces) (whole : low % 2 ^ bits ≡ 0)
    (ends : end_of pieces first + 1 < low + 2 ^ bits)
    (about : IsAbout (end_of pieces first) 0 bits (end_of pieces first + 1) part)
    (put : IsPut keeps weights (get_or pieces first no_piece).label part (done before old cs0 al0) (done after new cs1 al1) was following) where
  pub grown-first : IsGrown keeps weights pieces bits low first part (done before old cs0 al0) (done after new cs1 al1) (first + 1)
  grown-first =
      let inside = part-inside fit bits next within in
      let hi = end_of pieces first in
      let reached : low ≤ hi = next.here no_piece inside in
      let is_end : hi + 1 ≡ part.low + 2 ^ part.bits = omega (arith, about.ends, about.to) in
      let from = from-within part.bits bits part.low low about.short about.aligned whole (omega (arith, is_end, reached)) in
      let to = to-within part.bits bits part.low low about.short about.aligned whole (omega (arith, about.from, ends)) in
      let then = behind-next weights pieces fit first low (part.low + 2 ^ part.bits) inside (omega (arith, is_end, reached)) (omega (arith, reached)) (sym is_end) next in
      record {
        built = constant-built fit (still-next inside next from about.from) (omega (arith, to, within)) (omega (arith, is_end)) put then;
        less = about.short;
        aligned = about.aligned;
        from = from;
        to = to;
        begins = about.from;
      }

module _ {keeps : Bool} {weights : List ℕ} {pieces : List Piece} {bits low first : ℕ} {part : FieldPart} {before mid : List LabelCost} {c0 c1 next1 : ℕ} {cs0 cs1 : List Choice}
    {al0 al1 : List ℕ}
    (g : IsGrown keeps weights pieces bits low first part (done before c0 cs0 al0) (done mid c1 cs1 al1) next1) where
  -- the last part is the whole
  pub grown-last : bits ≤ part.bits → IsBuilt keeps weights pieces bits low (done before c0 cs0 al0) (done mid c1 cs1 al1) next1
  grown-last ge =
      let e : part.bits ≡ bits = omega (arith, g.less, ge) in
      let l : part.low ≡ low = omega (arith, g.from, g.to, ap (λ k. 2 ^ k) e) in
      subst (λ v. IsBuilt keeps weights pieces bits v (done before c0 cs0 al0) (done mid c1 cs1 al1) next1) l
      (subst (λ k. IsBuilt keeps weights pieces k part.low (done before c0 cs0 al0) (done mid c1 cs1 al1) next1) e g.built)

  -- what is done so far costs no more than its values weigh
  pub grown-light : c0 ≤ weight_below weights 0 pieces low → c1 ≤ weight_below weights 0 pieces (part.low + 2 ^ part.bits)
  grown-light light = omega (arith, light, below-rises weights 0 low part.low pieces g.from, g.built.light, g.built.cost)

-- the savings of the other half, and the part that both make
record IsOther (keeps : Bool) (weights : List ℕ) (pieces : List Piece) (about : FieldPart) (xs before mid after : List LabelCost) (c0 c2 next2 : ℕ) (cs0 cs2 : List Choice)
    (al0 al2 : List ℕ) : Type 0 where
  ys : List LabelCost
  pushed : after ≡ mid ++ ys
  kept : AreKept weights ys
  room : (d : ℕ) → saved xs d + saved ys d ≤ 2 ^ 104
  fits : (top : Gain) (sums : List LabelCost) → IsGain weights xs ys top.gain top.best → AreSums xs ys sums → top.gain ≤ c2
  both : (top : Gain) (sums new : List LabelCost) (cs3 : List Choice) (al3 : List ℕ) → IsGain weights xs ys top.gain top.best → AreSums xs ys sums →
      new ≡ before ++ lowered top.gain sums →
      (IsTrue keeps → al3 ≡ al2 ++ more_labels top sums) → (IsTrue keeps → IsTopped top about.low about.bits (length cs0) (length al2) (length al3) cs2 cs3) →
      IsBuilt keeps weights pieces about.bits about.low (done before c0 cs0 al0) (done new (c2 - top.gain) cs3 al3) next2

-- what two parts save, one behind the other
pub record AreReady (weights : List ℕ) (after : List LabelCost) (s m : ℕ) : Type 0 where
  pub from : s ≤ m
  pub to : m ≤ length after
  pub low : AreKept weights (take (m - s) (drop s after))
  pub high : AreKept weights (drop m after)
  pub room : (d : ℕ) → saved (take (m - s) (drop s after)) d + saved (drop m after) d < 2 ^ 128

module _ {keeps : Bool} {weights : List ℕ} {pieces : List Piece} {bits low first : ℕ} {part : FieldPart} {before mid : List LabelCost} {c0 c1 next1 : ℕ} {cs0 cs1 : List Choice}
    {al0 al1 : List ℕ}
    (fit : AreFit weights pieces) (next : IsNext pieces first low) (within : low + 2 ^ bits ≤ reach 0 pieces) (whole : low % 2 ^ bits ≡ 0)
    (g : IsGrown keeps weights pieces bits low first part (done before c0 cs0 al0) (done mid c1 cs1 al1) next1) where
  module _ {about : FieldPart} (lt : part.bits < bits) (wide : about.bits ≡ part.bits + 1) (is : about.low ≡ part.low - part.low % 2 ^ (part.bits + 1)) where
    size : about.bits ≡ suc part.bits
    size = omega (arith, wide)

    about_aligned : about.low % 2 ^ about.bits ≡ 0
    about_aligned = ap (λ k. about.low % 2 ^ k) wide ∙ about-aligned (part.bits + 1) part.low about.low is

    about_ends : part.low + 2 ^ part.bits ≤ about.low + 2 ^ about.bits
    about_ends = omega (arith, about-ends part.bits part.low about.low g.aligned is, ap (λ k. 2 ^ k) wide)

    about_from : low ≤ about.low
    about_from = from-within about.bits bits about.low low (omega (arith, wide, lt)) about_aligned whole (omega (arith, g.from, about_ends, pow_pos part.bits))

    about_to : about.low + 2 ^ about.bits ≤ low + 2 ^ bits
    about_to = to-within about.bits bits about.low low (omega (arith, wide, lt)) about_aligned whole (omega (arith, is, g.to, pow_pos part.bits))

    pub half-of : IsHalf pieces first part about
    half-of = elim (sides part.bits part.low about.low g.aligned is) [
      | inl same ↦ inl (same, add-mod_right part.low (2 ^ part.bits) ∙ g.aligned, omega (arith, same, double part.bits, ap (λ k. 2 ^ k) size, about_to, within))
      | inr half ↦
          let inside = part-inside fit bits next within in
          inr (half, inside, still-next inside next about_from (omega (arith, g.begins, half)), g.begins, omega (arith, g.to, within))
    ]

    module _ {after : List LabelCost} {c2 next2 s m : ℕ} {cs2 : List Choice} {al2 : List ℕ}
        (b : IsBeside keeps weights pieces first part about (done mid c1 cs1 al1) (done after c2 cs2 al2) next1 next2)
        (ls : s ≡ length before) (lm : m ≡ length mid) where
      above : about.low ≡ part.low → IsBuilt keeps weights pieces part.bits (part.low + 2 ^ part.bits) (done mid c1 cs1 al1) (done after c2 cs2 al2) next2 →
          IsOther keeps weights pieces about g.built.savings before mid after c0 c2 next2 cs0 cs2 al0 al2
      above same hi = record {
        ys = hi.savings;
        pushed = hi.pushed;
        kept = kept-of hi;
        room = room-built fit size refl g.built hi;
        fits = λ top sums i t. omega (arith, halves-row fit size refl g.built hi top i t, g.built.cost, hi.cost);
        both = λ top sums new cs3 al3 i t put put_also put_choices.
            subst (λ v. IsBuilt keeps weights pieces about.bits v (done before c0 cs0 al0) (done new (c2 - top.gain) cs3 al3) next2) (sym same)
            (halves-built fit size refl g.built hi top i t
            (both-chosen g.built.chosen hi.chosen about.bits part.low g.built.node hi.node size (inl (refl, refl)) (λ d. refl)) put
            (omega (arith, g.built.cost, hi.cost)) put_also
            (λ yes. subst (λ v. IsTopped top v about.bits (length cs0) (length al2) (length al3) cs2 cs3) same (put_choices yes)));
      }

      below : about.low + 2 ^ part.bits ≡ part.low → IsBuilt keeps weights pieces part.bits about.low (done mid c1 cs1 al1) (done after c2 cs2 al2) first → next2 ≡ next1 →
          IsOther keeps weights pieces about g.built.savings before mid after c0 c2 next2 cs0 cs2 al0 al2
      below half lo stays = record {
        ys = lo.savings;
        pushed = lo.pushed;
        kept = kept-of lo;
        room = λ d. omega (arith, room-built fit size (sym half) lo g.built d);
        fits = λ top sums i t. omega (arith, halves-row fit size (sym half) lo g.built top (gain-turned i) (sums-turned t), g.built.cost, lo.cost);
        both = λ top sums new cs3 al3 i t put put_also put_choices.
            let turned : (d : ℕ) → least_cost (costs_of lo.node) d + least_cost (costs_of g.built.node) d ≡ least_cost (costs_of g.built.node) d + least_cost
            (costs_of lo.node) d = λ d. omega arith in
            subst (λ k. IsBuilt keeps weights pieces about.bits about.low (done before c0 cs0 al0) (done new (c2 - top.gain) cs3 al3) k) (sym stays)
            (halves-built fit size (sym half) lo g.built top (gain-turned i) (sums-turned t)
            (both-chosen g.built.chosen lo.chosen about.bits about.low lo.node g.built.node size (inr (sym half, refl)) turned) put
            (omega (arith, g.built.cost, lo.cost)) put_also put_choices);
      }

      other : IsOther keeps weights pieces about g.built.savings before mid after c0 c2 next2 cs0 cs2 al0 al2
      other = elim b [ inl h ↦ above h.0 h.1 | inr h ↦ below h.0 h.1 h.2 ]

      pub ready : AreReady weights after s m
      ready =
          let o = other in
          let lists = uncut before mid after g.built.savings o.ys g.built.pushed o.pushed ls lm in
          record {
            from = omega (arith, ls, lm, ap length g.built.pushed, length-append before g.built.savings);
            to = omega (arith, lm, ap length o.pushed, length-append mid o.ys);
            low = lists (λ us vs. AreKept weights us) (kept-of g.built);
            high = lists (λ us vs. AreKept weights vs) o.kept;
            room = lists (λ us vs. (d : ℕ) → saved us d + saved vs d < 2 ^ 128) (λ d. omega (arith, o.room d));
          }

      module _ {top : Gain} {new : List LabelCost} {al3 : List ℕ}
          (j : IsJoined keeps weights (take (m - s) (drop s after)) (drop m after) (take s after) new al2 al3 top) where
        gained : IsGain weights g.built.savings other.ys top.gain top.best
        gained = cut before mid after g.built.savings other.ys g.built.pushed other.pushed ls lm (λ us vs. IsGain weights us vs top.gain top.best) j.gain

        summed : AreSums g.built.savings other.ys j.sums
        summed = cut before mid after g.built.savings other.ys g.built.pushed other.pushed ls lm (λ us vs. AreSums us vs j.sums) j.are

        pub both-fits : top.gain ≤ c2
        both-fits = other.fits top j.sums gained summed

        pub grown-both : {cs3 : List Choice} {below also end : ℕ} → below ≡ length cs0 → also ≡ length al2 → end ≡ length al3 →
            (IsTrue keeps → IsTopped top about.low about.bits below also end cs2 cs3) →
            IsGrown keeps weights pieces bits low first about (done before c0 cs0 al0) (done new (c2 - top.gain) cs3 al3) next2
        grown-both {cs3 = cs3} {below = below} {also = also} {end = end} p q r put = record {
          built = other.both top j.sums new cs3 al3 gained summed
              (j.savings ∙ ap (λ zs. zs ++ lowered top.gain j.sums) (front-is before mid after g.built.savings other.ys g.built.pushed other.pushed ls lm))
              j.also
              (λ yes. subst (λ x. IsTopped top about.low about.bits (length cs0) (length al2) x cs2 cs3) r
              (subst (λ x. IsTopped top about.low about.bits (length cs0) x end cs2 cs3) q
              (subst (λ x. IsTopped top about.low about.bits x also end cs2 cs3) p (put yes))));
          less = omega (arith, wide, lt);
          aligned = about_aligned;
          from = about_from;
          to = about_to;
          begins = omega (arith, is, g.begins);
        }

  -- the part stretches as far as only its label stands about it
  pub grown-wide : {wide : FieldPart} {s label next2 below also : ℕ} {cs2 : List Choice} → s ≡ length before → (get_or pieces first no_piece).label ≡ label →
      part.bits < wide.bits →
      IsStretch weights pieces (drop s mid) label part bits next1 wide → IsNext pieces next2 (wide.low + 2 ^ wide.bits) → below ≡ length cs0 →
      also ≡ length al1 →
      (IsTrue keeps → IsTopped (record { gain = slice_index weights label; best = label }) wide.low wide.bits below also also cs1 cs2) → IsGrown keeps weights pieces bits low first wide (done before c0 cs0 al0) (done mid c1 cs2 al1) next2
  grown-wide {wide = wide} {label = label} {below = below} {also = also} {cs2 = cs2} ls lab lt st then p q put =
      let built = g.built in
      let about = st.about in
      let inside = part-inside fit bits next within in
      let only : built.savings ≡ alone weights label =
      sym (ap (λ k. drop k mid) ls ∙ ap (drop (length before)) built.pushed ∙ drop-append_seam before built.savings) ∙ st.alone_is in
      let start : low ≤ wide.low = from-within wide.bits bits wide.low low about.short about.aligned whole (omega (arith, g.from, about.to, pow_pos part.bits)) in
      let stop : wide.low + 2 ^ wide.bits ≤ low + 2 ^ bits = to-within wide.bits bits wide.low low about.short about.aligned whole (omega (arith, about.from, g.to, pow_pos part.bits)) in
      let inner : IsAlone weights pieces label (costs_of built.node).row (λ width. rows_of width built.chosen.forest label) part.bits part.low = record {
        node = built.node;
        stands = built.stands;
        saves = subst (AreSavings weights (costs_of built.node)) only built.saves;
        within = built.within;
        from = built.from;
        row = refl;
        under = λ width p. built.chosen.writes width label p;
      } in
      let o : IsOver weights pieces label (costs_of built.node).row (λ width. rows_of width built.chosen.forest label) wide.bits wide.low =
      around weights pieces label (costs_of built.node).row (λ width. rows_of width built.chosen.forest label)
      (subst (λ y. y < length weights) lab (piece-place fit first inside)) st.weighs (first, inside, lab)
      g.aligned inner wide.bits wide.low lt about.aligned about.from about.to (
        (λ u from below. next-label fit u next inside (omega (arith, start, from)) (omega (arith, below, g.begins)) ∙ lab),
        (λ u from below. next-label fit u built.next st.inside from (omega (arith, below, about.ends)) ∙ st.label_is),
      ) in
      let top : Gain = record { gain = slice_index weights label; best = label } in
      let choices = λ (yes : IsTrue keeps). subst (λ x. IsTopped top wide.low wide.bits (length cs0) x x cs1 cs2) q
      (subst (λ x. IsTopped top wide.low wide.bits x also also cs1 cs2) p (put yes)) in
      record {
        built = record {
          node = o.inner.node;
          savings = alone weights label;
          stands = o.inner.stands;
          saves = o.inner.saves;
          rise = (omega arith, tt);
          above = (st.weighs, tt);
          within = o.inner.within;
          from = o.inner.from;
          pushed = built.pushed ∙ ap (λ zs. before ++ zs) only;
          cost = omega (arith, built.cost, o.inner.row);
          next = then;
          light = omega (arith, o.inner.row, built.light, below-rises weights 0 wide.low part.low pieces about.from, below-rises weights 0 (part.low + 2 ^ part.bits) (wide.low + 2 ^ wide.bits) pieces about.to);
          chosen = stretch-chosen built.chosen o (slice_index weights label) st.weighs choices;
        };
        less = about.short;
        aligned = about.aligned;
        from = start;
        to = stop;
        begins = omega (arith, about.from, g.begins);
      }

-- a part of one label below another that begins in the same piece
pub below-built : {keeps : Bool} {weights : List ℕ} {pieces : List Piece} {first top : ℕ} {part : FieldPart} {before after : List LabelCost} {old new was following : ℕ}
    {cs0 cs1 : List Choice} {al0 al1 : List ℕ} (fit : AreFit weights pieces) →
    first < length pieces → IsNext pieces first part.low → part.low + 2 ^ part.bits ≡ top → top ≤ end_of pieces first → top ≤ reach 0 pieces →
    IsPut keeps weights (get_or pieces first no_piece).label part (done before old cs0 al0) (done after new cs1 al1) was following →
    IsBuilt keeps weights pieces part.bits part.low (done before old cs0 al0) (done after new cs1 al1) first
below-built fit inside next is reached within put =
    constant-built fit next (omega (arith, is, within)) (omega (arith, is, reached)) put (still-next inside next (omega arith) (omega (arith, is, reached)))

-- a part of one label more never weighs too much
pub one-room : {weights : List ℕ} {pieces : List Piece} {first low : ℕ} (bits v cost : ℕ) (fit : AreFit weights pieces) → IsNext pieces first low →
    low + 2 ^ bits ≤ reach 0 pieces → cost ≤ weight_below weights 0 pieces v →
    cost + slice_index weights (get_or pieces first no_piece).label < 2 ^ 128
one-room {weights = weights} {pieces = pieces} {low = low} bits v cost fit next within light =
    let inside = part-inside fit bits next within in
    let is = next-label fit low next inside (omega arith) (next.here no_piece inside) in
    omega (
      arith,
      light,
      below-all weights 0 v pieces,
      below-all weights 0 (low + 2 ^ bits) pieces,
      fit.light,
      first-weighs fit bits low within,
      ap
          (slice_index weights) is,
    )

-- on which side the other half lies
pub below-half : (pieces : List Piece) (first : ℕ) (part about : FieldPart) → IsHalf pieces first part about → about.low < part.low →
    (about.low + 2 ^ part.bits ≡ part.low) × (first < length pieces) × IsNext pieces first
    about.low × (part.low ≤ end_of pieces first) × (part.low ≤ reach 0 pieces)
below-half pieces first part about (inl h) lt = absurd (omega (arith, h.0, lt))
below-half pieces first part about (inr h) lt = h

pub above-half : (pieces : List Piece) (first : ℕ) (part about : FieldPart) → IsHalf pieces first part about → part.low ≤ about.low →
    (about.low ≡ part.low) × ((part.low + 2 ^ part.bits) % 2 ^ part.bits ≡ 0) × (part.low + 2 ^ part.bits + 2 ^ part.bits ≤ reach 0 pieces)
above-half pieces first part about (inl h) le = h
above-half pieces first part about (inr h) le = absurd (omega (arith, h.0, le, pow_pos part.bits))
