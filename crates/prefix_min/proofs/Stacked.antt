-- What a part saves, behind what was saved before.
use Rattle.std.proofs.Common.{Bool, ◌≡◌, ◌++◌, ℕ, suc, List, [], ◌+◌, ◌-◌, ◌^◌, ◌<◌, ◌≤◌, refl, ap, arith, sym, ◌∙◌, inl, inr, subst, length, get_or, take, drop, append_assoc}
use Rattle.std.specs.Prelude.{IsTrue, ◌⊎◌, slice_index}
use Rattle.std.proofs.Math.Seq.{take-append_seam, drop-append_seam}
use Rattle.std.proofs.lemmas.Bool.{cases_lt}
use Rattle.std.proofs.lemmas.List.{length-append}
use Rattle.prefix_min.specs.declared.piece.Piece.{Piece}
use Rattle.prefix_min.specs.declared.savings.LabelCost.{LabelCost}
use Rattle.prefix_min.specs.declared.plan.Choice.{Choice}
use Rattle.prefix_min.specs.declared.savings.Gain.{Gain}
use Rattle.prefix_min.specs.Growth.{IsBuilt, IsPut, done, end_of}
use Rattle.prefix_min.specs.Field.{IsFull, IsFullLabel, IsWhole, SomeFull, no_piece}
use Rattle.prefix_min.specs.Plan.{Bare, IsLaid, IsTopped, more_labels}
use Rattle.prefix_min.specs.Costs.{Costs, Has, IsConstant, IsSplit, Lists, RisesFrom, without_row}
use Rattle.prefix_min.specs.Pieces.{AreFit, IsNext, weight_below, label_at, reach}
use Rattle.prefix_min.specs.Savings.{AreSavings, AreSums, IsGain, alone, lowered, saved}
use Rattle.prefix_min.specs.Trie.{Constant, Halves, StandsFor, costs_of}
use Rattle.prefix_min.proofs.PieceWeights.{constant_gives, first-weighs, first_label, part-inside, piece-place, below-all}
use Rattle.prefix_min.proofs.Joined.{lowered-above}
use Rattle.prefix_min.proofs.FullLabel.{end-reached, label-at-end, listed-some}
use Rattle.prefix_min.proofs.Shapes.{field-part}
use Rattle.prefix_min.proofs.Written.{field-constant, field-halves}
use Rattle.prefix_min.proofs.Planned.{AreBoth, both-chosen, halves-chosen, one-chosen}
use Rattle.prefix_min.proofs.Saved.{joined-row, joined-saves, lists-lowered, lowered-rises, one-saves, own-label, saved-lowered, writes-none}
use Rattle.prefix_min.proofs.Splitting.{both-has, both-split, both_halves, one-constant, one-has, one_label}
use Rattle.prefix_min.specs.declared.parts.FieldPart.{FieldPart}
use Rattle.field_boxes.proofs.Powers.{double}
use Rattle.prefix_min.proofs.Stretched.{Source}
use Rattle.prefix_min.proofs.Lower.{label-listed}

lowered-none : (weights : List ℕ) (c : Costs) (xs : List LabelCost) → RisesFrom 0 xs → AreSavings weights c xs → AreSavings weights c (lowered 0 xs)
lowered-none weights c xs r a = record {
  saves = λ d. omega (arith, saved-lowered 0 0 xs r d, a.saves d);
  most = λ d. omega (arith, saved-lowered 0 0 xs r d, a.most d);
  full = omega (arith, saved-lowered 0 0 xs r c.label, a.full);
  lists = λ d h. a.lists d (lists-lowered 0 xs d h);
  own = a.own;
}

-- a part within the next piece
module _ {keeps : Bool} {weights : List ℕ} {pieces : List Piece} {first : ℕ} {part : FieldPart} {before after : List LabelCost} {old new was following next2 : ℕ}
    {cs0 cs1 : List Choice} {al0 al1 : List ℕ} (fit : AreFit weights pieces)
    (next : IsNext pieces first part.low) (within : part.low + 2 ^ part.bits ≤ reach 0 pieces) (covered : part.low + 2 ^ part.bits ≤ end_of pieces first + 1)
    (put : IsPut keeps weights (get_or pieces first no_piece).label part (done before old cs0 al0) (done after new cs1 al1) was following)
    (then : IsNext pieces next2 (part.low + 2 ^ part.bits)) where
  abbrev y : ℕ
  y = (get_or pieces first no_piece).label

  constant : IsConstant weights (one_label weights y)
  constant = one-constant weights y (piece-place fit first (part-inside fit part.bits next within))

  pub constant-built : IsBuilt keeps weights pieces part.bits part.low (done before old cs0 al0) (done after new cs1 al1) next2
  constant-built =
      let gives = constant_gives fit part.bits next within covered in
      record {
        node = Constant (one_label weights y);
        savings = lowered 0 (alone weights y);
        stands = (constant, gives);
        saves = lowered-none weights (one_label weights y) (alone weights y) (omega arith, tt) (one-saves constant);
        rise = lowered-rises 0 0 (alone weights y) (omega arith, tt);
        above = lowered-above 0 (alone weights y);
        within = one-has (λ d. d < length weights) y constant.place;
        from = one-has (Source pieces) y (first, part-inside fit part.bits next within, refl);
        pushed = put.savings;
        cost = put.cost;
        next = then;
        chosen = one-chosen constant gives put.choices put.also;
        light = omega (arith, ap (slice_index weights) (first_label fit part.bits next within covered), first-weighs fit part.bits part.low within);
      }

-- two halves are a part
module _ {keeps : Bool} {weights : List ℕ} {pieces : List Piece} {n bits low at : ℕ} {lo0 lo1 hi0 hi1 : List LabelCost} {c0 c1 d0 d1 next1 next2 : ℕ}
    {ls0 ls1 hs0 hs1 : List Choice} {ll0 ll1 hl0 hl1 : List ℕ}
    (fit : AreFit weights pieces) (size : bits ≡ suc n) (is : at ≡ low + 2 ^ n)
    (lo : IsBuilt keeps weights pieces n low (done lo0 c0 ls0 ll0) (done lo1 c1 ls1 ll1) next1) (hi : IsBuilt keeps weights pieces n at (done hi0 d0 hs0 hl0) (done hi1 d1 hs1 hl1) next2) where
  abbrev lower : Costs
  lower = costs_of lo.node

  abbrev upper : Costs
  upper = costs_of hi.node

  pub halves-end : at + 2 ^ n ≡ low + 2 ^ bits
  halves-end = omega (arith, is, double n, ap (λ k. 2 ^ k) size)

  all_light : lower.row + upper.row + weight_below weights 0 pieces low ≤ weight_below weights 0 pieces (low + 2 ^ bits)
  all_light = omega (arith, lo.light, hi.light, ap (weight_below weights 0 pieces) is, ap (weight_below weights 0 pieces) halves-end)

  pub room-built : (d : ℕ) → saved lo.savings d + saved hi.savings d ≤ 2 ^ 104
  room-built d = omega (arith, lo.saves.saves d, hi.saves.saves d, all_light, below-all weights 0 (low + 2 ^ bits) pieces, fit.light)

  abbrev pub node_costs : Costs
  node_costs = both_halves weights lower upper lo.saves.own

  pub all-within : (d : ℕ) → Has (lower.labels ++ upper.labels) d → d < length weights
  all-within = both-has (λ d. d < length weights) lower.labels upper.labels lo.within hi.within

  pub all-from : (d : ℕ) → Has (lower.labels ++ upper.labels) d → Source pieces d
  all-from = both-has (Source pieces) lower.labels upper.labels lo.from hi.from

  pub split : IsSplit weights lower upper node_costs
  split = both-split weights lower upper lo.saves.own all-within

  pub high-stands : StandsFor weights (label_at pieces) n (low + 2 ^ n) hi.node
  high-stands = subst (λ v. StandsFor weights (label_at pieces) n v hi.node) is hi.stands

  pub halves-stand : StandsFor weights (label_at pieces) bits low (Halves node_costs lo.node hi.node)
  halves-stand = subst (λ k. StandsFor weights (label_at pieces) k low (Halves node_costs lo.node hi.node)) (sym size) (split, lo.stands, high-stands)

  module _ (top : Gain) {sums : List LabelCost} (g : IsGain weights lo.savings hi.savings top.gain top.best) (t : AreSums lo.savings hi.savings sums) where
    pub halves-row : node_costs.row + top.gain ≡ lower.row + upper.row
    halves-row = joined-row split lo.saves hi.saves g

    pub halves-saves : AreSavings weights node_costs (lowered top.gain sums)
    halves-saves = joined-saves split lo.saves hi.saves g sums t

    pub halves-built : {before new : List LabelCost} {old all : ℕ} {cs0 cs2 cs3 : List Choice} {al0 al2 al3 : List ℕ} →
        AreBoth keeps weights (label_at pieces) bits low lo.node hi.node cs0 cs2 al0 al2 →
        new ≡ before ++ lowered top.gain sums → all ≡ old + lower.row + upper.row → (IsTrue keeps → al3 ≡ al2 ++ more_labels top sums) →
        (IsTrue keeps → IsTopped top low bits (length cs0) (length al2) (length al3) cs2 cs3) →
        IsBuilt keeps weights pieces bits low (done before old cs0 al0) (done new (all - top.gain) cs3 al3) next2
    halves-built both put cost put_also put_choices = record {
      node = Halves node_costs lo.node hi.node;
      savings = lowered top.gain sums;
      stands = halves-stand;
      saves = halves-saves;
      rise = lowered-rises top.gain 0 sums t.rise;
      above = lowered-above top.gain sums;
      within = all-within;
      from = all-from;
      pushed = put;
      cost = omega (arith, halves-row, cost);
      next = subst (IsNext pieces next2) halves-end hi.next;
      light = omega (arith, halves-row, all_light);
      chosen = halves-chosen size split lo.stands high-stands both lo.saves hi.saves top g t put_also put_choices;
    }

-- the lists of two parts that were done one after the other
module _ (before mid after xs ys : List LabelCost) {s m : ℕ} (p : mid ≡ before ++ xs) (q : after ≡ mid ++ ys) (ls : s ≡ length before)
    (lm : m ≡ length mid) where
  after_all : after ≡ before ++ (xs ++ ys)
  after_all = q ∙ ap (λ zs. zs ++ ys) p ∙ append_assoc before xs ys

  pub front-is : take s after ≡ before
  front-is = ap (λ k. take k after) ls ∙ ap (take (length before)) after_all ∙ take-append_seam before (xs ++ ys)

  pub first-is : take (m - s) (drop s after) ≡ xs
  first-is =
      let some : m - s ≡ length xs = omega (arith, lm, ls, ap length p, length-append before xs) in
      let left : drop s after ≡ xs ++ ys = ap (λ k. drop k after) ls ∙ ap (drop (length before)) after_all ∙ drop-append_seam before (xs ++ ys) in
      ap (λ k. take k (drop s after)) some ∙ ap (take (length xs)) left ∙ take-append_seam xs ys

  pub second-is : drop m after ≡ ys
  second-is = ap (λ k. drop k after) lm ∙ ap (drop (length mid)) q ∙ drop-append_seam mid ys

  pub cut : (P : List LabelCost → List LabelCost → Type 0) → P (take (m - s) (drop s after)) (drop m after) → P xs ys
  cut P h = subst (P xs) second-is (subst (λ zs. P zs (drop m after)) first-is h)

  pub uncut : (P : List LabelCost → List LabelCost → Type 0) → P xs ys → P (take (m - s) (drop s after)) (drop m after)
  uncut P h = subst (P (take (m - s) (drop s after))) (sym second-is) (subst (λ zs. P zs ys) (sym first-is) h)

-- what is left of the savings of the whole field
pub record IsLeft (weights : List ℕ) (pieces : List Piece) (savings : List LabelCost) : Type 0 where
  pub rise : RisesFrom 0 savings
  pub within : (d : ℕ) → Lists savings d → d < length weights
  pub most : (d : ℕ) → saved savings d ≤ slice_index weights d
  pub some : SomeFull weights savings pieces

-- the halves of the whole field
module _ {keeps : Bool} {weights : List ℕ} {pieces : List Piece} {n bits at : ℕ} {before mid after : List LabelCost} {c0 c1 c2 next1 next2 s m : ℕ}
    {cs0 cs1 cs2 : List Choice} {al0 al1 al2 : List ℕ}
    (fit : AreFit weights pieces) (size : bits ≡ suc n) (is : at ≡ 0 + 2 ^ n) (lo : IsBuilt keeps weights pieces n 0 (done before c0 cs0 al0) (done mid c1 cs1 al1) next1)
    (hi : IsBuilt keeps weights pieces n at (done mid c1 cs1 al1) (done after c2 cs2 al2) next2)
    (ls : s ≡ length before) (lm : m ≡ length mid) where
  places_of : (d : ℕ) → Lists lo.savings d ⊎ Lists hi.savings d → d < length weights
  places_of d (inl h) = lo.within d (lo.saves.lists d h)
  places_of d (inr h) = hi.within d (hi.saves.lists d h)

  pub places : (d : ℕ) → Lists (take (m - s) (drop s after)) d ⊎ Lists (drop m after) d → d < length weights
  places d = uncut before mid after lo.savings hi.savings lo.pushed hi.pushed ls lm (λ us vs. Lists us d ⊎ Lists vs d → d < length weights) (places_of d)

  pub room : (d : ℕ) → saved (take (m - s) (drop s after)) d + saved (drop m after) d ≤ 2 ^ 104
  room d = uncut before mid after lo.savings hi.savings lo.pushed hi.pushed ls lm (λ us vs. saved us d + saved vs d ≤ 2 ^ 104) (room-built fit size is lo hi d)

  module _ (top : Gain) {sums : List LabelCost} (g : IsGain weights (take (m - s) (drop s after)) (drop m after) top.gain top.best)
      (t : AreSums (take (m - s) (drop s after)) (drop m after) sums) where
    abbrev costs : Costs
    costs = node_costs fit size is lo hi

    gained : IsGain weights lo.savings hi.savings top.gain top.best
    gained = cut before mid after lo.savings hi.savings lo.pushed hi.pushed ls lm (λ us vs. IsGain weights us vs top.gain top.best) g

    summed : AreSums lo.savings hi.savings sums
    summed = cut before mid after lo.savings hi.savings lo.pushed hi.pushed ls lm (λ us vs. AreSums us vs sums) t

    halves : IsSplit weights (costs_of lo.node) (costs_of hi.node) costs
    halves = split fit size is lo hi

    saves : AreSavings weights costs (lowered top.gain sums)
    saves = halves-saves fit size is lo hi top gained summed

    pub gain-fits : top.gain ≤ c2
    gain-fits = omega (arith, halves-row fit size is lo hi top gained summed, lo.cost, hi.cost)

    -- where the label of its row is known
    whole-built : (y : ℕ) → bits ≤ 32 → cs0 ≡ [] → c0 ≡ 0 → y ≡ costs.label → IsWhole keeps weights pieces bits y (c2 - top.gain) cs2 al2
    whole-built y wide bare zero_cost label =
        let both = both-chosen lo.chosen hi.chosen bits 0 lo.node hi.node size (inl (refl, is)) (λ d. refl) in
        record {
          node = Halves costs lo.node hi.node;
          stands = halves-stand fit size is lo hi;
          row = omega (arith, halves-row fit size is lo hi top gained summed, lo.cost, hi.cost, zero_cost);
          within = all-within fit size is lo hi;
          forest = both.forest;
          laid = λ yes. subst (λ k. IsLaid cs2 al2 k (length cs2) both.forest) (ap length bare) (both.kept yes).laid;
          rows = field-halves lo.node hi.node size lo.stands (high-stands fit size is lo hi) label (field-part bits wide) halves
              (both.rows bits y (field-part bits wide));
        }

    -- that label, where there is a gain
    pub gain-whole : bits ≤ 32 → cs0 ≡ [] → c0 ≡ 0 → 0 < top.gain → IsWhole keeps weights pieces bits top.best (c2 - top.gain) cs2 al2
    gain-whole wide bare zero_cost some = whole-built top.best wide bare zero_cost (sym (own-label halves lo.saves hi.saves gained some))

    -- and where there is none
    module _ {new : List LabelCost} (put : new ≡ take s after ++ lowered top.gain sums) (empty : before ≡ []) where
      new_is : new ≡ lowered top.gain sums
      new_is = put ∙ ap (λ zs. zs ++ lowered top.gain sums) (front-is before mid after lo.savings hi.savings lo.pushed hi.pushed ls lm ∙ empty)

      pub left-of : IsLeft weights pieces new
      left-of =
          let own = all-from fit size is lo hi costs.label halves.listed in
          subst (IsLeft weights pieces) (sym new_is) (record {
            rise = lowered-rises top.gain 0 sums t.rise;
            within = λ d h. all-within fit size is lo hi d (saves.lists d h);
            most = saves.most;
            some = (own.0, own.1, subst (IsFull weights (lowered top.gain sums)) (sym own.2) saves.full);
          })

      full_label : (y : ℕ) → top.gain ≡ 0 → 2 ^ bits ≡ reach 0 pieces → IsFullLabel weights (lowered top.gain sums) pieces (length pieces) y → y ≡ costs.label
      full_label y none all l =
          let silent : without_row costs y ≤ costs.row = writes-none halves lo.saves hi.saves gained y (omega (arith, none)) in
          let at_piece = λ (p : (k : ℕ) × (k < length pieces) × ((get_or pieces k no_piece).label ≡ y)).
          let at_end : label_at pieces (end_of pieces p.0) ≡ y = label-at-end (length weights) 0 p.0 no_piece pieces fit.follow p.1 ∙ p.2 in
          let reached : end_of pieces p.0 < 0 + 2 ^ bits = omega (arith, all, end-reached (length weights) 0 p.0 no_piece pieces fit.follow p.1) in
          let here : Has costs.labels y = subst (Has costs.labels) at_end
          (label-listed weights (label_at pieces) bits 0 (Halves costs lo.node hi.node) (halves-stand fit size is lo hi) (end_of pieces p.0) (omega arith)
          reached) in
          here in
          let listed : Has costs.labels y = elim l.from [ inl h ↦ saves.lists y h | inr p ↦ at_piece p ] in
          let own = all-from fit size is lo hi costs.label halves.listed in
          let least : y ≤ costs.label = elim (cases_lt 0 (slice_index weights costs.label)) [
            | inl some ↦ l.least costs.label (listed-some (lowered top.gain sums) costs.label (omega (arith, some, saves.full))) saves.full
            | inr none ↦ subst (λ z. y ≤ z) own.2 (l.least_piece own.0 own.1 (omega (arith, none, ap (slice_index weights) own.2)))
          ] in
          elim (cases_lt y costs.label) [
            | inl lt ↦ absurd (omega (arith, halves.first y listed lt, l.full, saves.saves y, silent))
            | inr ge ↦ omega (arith, least, ge)
          ]

      pub full-whole : (y : ℕ) → bits ≤ 32 → cs0 ≡ [] → c0 ≡ 0 → top.gain ≡ 0 → 2 ^ bits ≡ reach 0 pieces → IsFullLabel weights new pieces (length pieces) y →
          IsWhole keeps weights pieces bits y (c2 - top.gain) cs2 al2
      full-whole y wide bare zero_cost none all l =
          whole-built y wide bare zero_cost (full_label y none all (subst (λ xs. IsFullLabel weights xs pieces (length pieces) y) new_is l))

-- the whole field within the first piece
pub one-whole : {keeps : Bool} {weights : List ℕ} {pieces : List Piece} {width cost : ℕ} {cs : List Choice} {al : List ℕ} → AreFit weights pieces → IsNext pieces 0 0 →
    0 + 2 ^ width ≤ reach 0 pieces → 0 + 2 ^ width ≤ end_of pieces 0 + 1 →
    cs ≡ [] → width ≤ 32 → cost ≡ slice_index weights (get_or pieces 0 no_piece).label →
    IsWhole keeps weights pieces width (get_or pieces 0 no_piece).label cost cs al
one-whole {weights = weights} {pieces = pieces} {width = width} fit next within covered bare wide costs =
    let y = (get_or pieces 0 no_piece).label in
    let k = one-constant weights y (piece-place fit 0 (part-inside fit width next within)) in
    let gives = constant_gives fit width next within covered in
    record {
      node = Constant (one_label weights y);
      stands = (k, gives);
      row = sym costs;
      within = one-has (λ d. d < length weights) y k.place;
      forest = Bare;
      laid = λ yes. sym (ap length bare);
      rows = field-constant k gives (field-part width wide);
    }
