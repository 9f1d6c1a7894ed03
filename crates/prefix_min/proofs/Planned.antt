-- What the parts choose, and the rows that they write.
use Rattle.std.proofs.Common.{◌≡◌, ◌≢◌, ◌∷◌, ◌++◌, ℕ, suc, List, [], ◌+◌, ◌-◌, ◌^◌, ◌<◌, ◌≤◌, Bool, true, false, refl, ap, arith, sym, ◌∙◌, inl, inr, ne_eqb, subst, length, get_or, set, take, drop, append_assoc}
use Rattle.std.specs.Prelude.{IsTrue, ◌⊎◌, ◌&&◌, ◌==◌, cond, nat_le, nat_lt, not}
use Rattle.std.proofs.Math.Seq.{drop-append_seam, get_or-append_seam, take-append-add, take-length, take-suc-set}
use Rattle.std.proofs.lemmas.Bool.Decides.{eqb_tells}
use Rattle.std.proofs.lemmas.Bool.{eq-eqb, eqb-true, false≢true, leb-true, leb-false, lt-ltb, ltb-true, ltb-false}
use Rattle.std.proofs.lemmas.List.{append-nil, drop-append-le, get_or_append_left, length-append, length-drop, length-set, length-take-le, take-append-drop, take-append-le}
use Rattle.prefix_min.specs.declared.plan.Choice.{Choice}
use Rattle.prefix_min.specs.declared.savings.LabelCost.{LabelCost}
use Rattle.prefix_min.specs.declared.savings.Gain.{Gain}
use Rattle.prefix_min.specs.Costs.{Costs, IsConstant, IsSplit, RisesFrom, least_cost, without_row}
use Rattle.prefix_min.specs.Plan.{AreAdded, AreChosen, Bare, Forest, Grown, IsLaid, IsPlaced, IsReplaced, IsTopped, among, beside, more_labels, no_choice, own_choice, rows_of, silent}
use Rattle.prefix_min.specs.Rows.{ArePartRows, IsPart, row_of}
use Rattle.prefix_min.specs.Savings.{AreSavings, AreSums, IsGain, further, saved}
use Rattle.prefix_min.specs.Trie.{Constant, GivesAll, Halves, Node, StandsFor, costs_of}
use Rattle.prefix_min.proofs.Written.{AreHalfRows, AreHalves, half-rows, constant-inherited, constant-written, halves-inherit, halves-own}
use Rattle.prefix_min.proofs.Saved.{own-label, writes-none, writes-own}
use Rattle.prefix_min.proofs.Shapes.{high-half, low-half}
use Rattle.prefix_min.proofs.Listed.{below_all}

-- the test says whether so much is saved
abbrev Tells : Bool → ℕ → ℕ → Type 0
Tells b gain n = ((b ≡ true) × (gain ≤ n)) ⊎ ((b ≡ false) × (n < gain))

further_other : (u : Bool) (gain best d : ℕ) (e : LabelCost) (es : List LabelCost) → e.label == d ≡ false →
    Tells (among (further gain best es) d) gain (saved es d) →
    Tells (among (cond u (e.label ∷ further gain best es) (further gain best es)) d) gain (saved es d)
further_other true gain best d e es s h = rw s h
further_other false gain best d e es s h = h

-- the further labels are those beside the best that save the gain or more
further_tells : (t s : Bool) (gain best d : ℕ) (e : LabelCost) (es : List LabelCost) → 0 < gain → best ≢ d → RisesFrom (e.label + 1) es → nat_le gain e.cost ≡ t → e.label == d ≡ s →
    Tells (among (further gain best es) d) gain (saved es d) →
    Tells (among (cond (t && not (e.label == best)) (e.label ∷ further gain best es) (further gain best es)) d) gain (cond s e.cost (saved es d))
further_tells true true gain best d e es some ne r t s h =
    let other : e.label == best ≡ false = ne_eqb e.label best (λ k. ne (sym k ∙ eqb-true e.label d s)) in
    rw other (inl (ap (λ b. cond b true (among (further gain best es) d)) s, leb-true gain e.cost t))
further_tells true false gain best d e es some ne r t s h = further_other (not (e.label == best)) gain best d e es s h
further_tells false true gain best d e es some ne r t s h =
    let none : saved es d ≡ 0 = below_all (e.label + 1) d 0 es (omega (arith, eqb-true e.label d s)) r in
    elim h [ inl k ↦ absurd (omega (arith, k.1, none, some)) | inr k ↦ inr (k.0, leb-false gain e.cost t) ]
further_tells false false gain best d e es some ne r t s h = h

further-tells : (gain best low d : ℕ) (es : List LabelCost) → 0 < gain → best ≢ d → RisesFrom low es → Tells (among (further gain best es) d) gain (saved es d)
further-tells gain best low d [] some ne r = inr (refl, some)
further-tells gain best low d (e ∷ es) some ne r =
    further_tells (nat_le gain e.cost) (e.label == d) gain best d e es some ne r.1 refl refl (further-tells gain best (e.label + 1) d es some ne r.1)

-- a choice writes nothing exactly where the halves save the gain or more
silent-tells : (x : Choice) (gain d : ℕ) (es : List LabelCost) → 0 < gain → RisesFrom 0 es → gain ≤ saved es x.label →
    Tells (silent x (further gain x.label es) d) gain (saved es d)
silent-tells x gain d es some r le = elim (eqb_tells x.label d) [
  | inl t ↦ inl (ap (λ b. cond b true (among (further gain x.label es) d)) t.0, subst (λ y. gain ≤ saved es y) t.1 le)
  | inr t ↦ rw t.0 (further-tells gain x.label 0 d es some t.1 r)
]

pub rows-beside : (width d : ℕ) (f g : Forest) → rows_of width (beside f g) d ≡ rows_of width f d ++ rows_of width g d
rows-beside width d f Bare = sym (append-nil (rows_of width f d))
rows-beside width d f (Grown rest x labels below) =
    let own = cond (silent x labels d) (rows_of width below d) (rows_of width below x.label ++ row_of width x.bits x.value x.label ∷ []) in
    ap (λ rs. rs ++ own) (rows-beside width d f rest) ∙ append_assoc (rows_of width f d) (rows_of width rest d) own

pub laid-le : (cs : List Choice) (al : List ℕ) (from to : ℕ) (f : Forest) → IsLaid cs al from to f → from ≤ to
laid-le cs al from to Bare h = omega (arith, h)
laid-le cs al from to (Grown rest x labels below) h = omega (arith, laid-le cs al x.below (to - 1) below h.1, laid-le cs al from x.below rest h.2, h.0.some)

pub laid-beside : (cs : List Choice) (al : List ℕ) (from mid to : ℕ) (f g : Forest) → IsLaid cs al from mid f → IsLaid cs al mid to g → IsLaid cs al from to (beside f g)
laid-beside cs al from mid to f Bare h k = subst (λ n. IsLaid cs al from n f) k h
laid-beside cs al from mid to f (Grown rest x labels below) h k = (k.0, k.1, laid-beside cs al from mid x.below f rest h k.2)

placed_grows : (cs more : List Choice) (al other : List ℕ) (to : ℕ) (x : Choice) (labels : List ℕ) → IsPlaced cs al to x labels → IsPlaced (cs ++ more) (al ++ other) to x labels
placed_grows cs more al other to x labels p =
    let start : x.also ≤ length al = omega (arith, p.ends, p.within) in
    let left : length (drop x.also al) ≡ length al - x.also = length-drop x.also al in
    record {
      some = p.some;
      inside = omega (arith, p.inside, length-append cs more);
      is = get_or_append_left cs more no_choice (to - 1) (omega (arith, p.some, p.inside)) ∙ p.is;
      ends = p.ends;
      within = omega (arith, p.within, length-append al other);
      labels_are = ap (take (x.end - x.also)) (drop-append-le x.also al other start) ∙ take-append-le (x.end - x.also) (drop x.also al) other (omega (arith, left, p.within, p.ends)) ∙ p.labels_are;
    }

-- what is laid stays when more is put behind it
pub laid-grows : (cs more : List Choice) (al other : List ℕ) (from to : ℕ) (f : Forest) → IsLaid cs al from to f → IsLaid (cs ++ more) (al ++ other) from to f
laid-grows cs more al other from to Bare h = h
laid-grows cs more al other from to (Grown rest x labels below) h =
    (placed_grows cs more al other to x labels h.0, laid-grows cs more al other x.below (to - 1) below h.1, laid-grows cs more al other from x.below rest h.2)

laid-later : {new : List Choice} {also : List ℕ} (cs more : List Choice) (al other : List ℕ) (from to : ℕ) (f : Forest) → new ≡ cs ++ more →
    also ≡ al ++ other → IsLaid cs al from to f → IsLaid new also from to f
laid-later {new = new} cs more al other from to f p q h =
    subst (λ ys. IsLaid new ys from to f) (sym q) (subst (λ xs. IsLaid xs (al ++ other) from to f) (sym p) (laid-grows cs more al other from to f h))

labels_behind : (al al1 labels : List ℕ) → al1 ≡ al ++ labels → take (length al1 - length al) (drop (length al) al1) ≡ labels
labels_behind al al1 labels e =
    let rest : length al1 - length al ≡ length labels = omega (arith, ap length e, length-append al labels) in
    ap (λ xs. take (length al1 - length al) (drop (length al) xs)) e ∙ ap (take (length al1 - length al)) (drop-append_seam al labels)
    ∙ ap (λ m. take m labels) rest ∙ take-length labels

-- nothing is added
pub none-added : (cs : List Choice) (al : List ℕ) → AreAdded Bare cs cs al al
none-added cs al = record { laid = refl; more = []; added = sym (append-nil cs); more_also = []; added_also = sym (append-nil al) }

-- one choice more, on top of those that were added
pub top-added : {low bits label end : ℕ} {labels : List ℕ} {forest : Forest} {cs0 cs cs1 : List Choice} {al0 al al1 : List ℕ} →
    AreAdded forest cs0 cs al0 al → cs1 ≡ cs ++ own_choice low bits label (length cs0) (length al) end ∷ [] → al1 ≡ al ++ labels → end ≡ length al1 →
    AreAdded (Grown Bare (own_choice low bits label (length cs0) (length al) end) labels forest) cs0 cs1 al0 al1
top-added {low = low} {bits = bits} {label = label} {end = end} {labels = labels} {forest = forest} {cs0 = cs0} {cs = cs} {al0 = al0} {al = al} {al1 = al1} a put e at =
    let top = own_choice low bits label (length cs0) (length al) end in
    let left : length (cs ++ top ∷ []) - 1 ≡ length cs = omega (arith, length-append cs (top ∷ [])) in
    subst (λ xs. AreAdded (Grown Bare top labels forest) cs0 xs al0 al1) (sym put) (record {
      laid = (
        record {
          some = omega (arith, length-append cs (top ∷ []));
          inside = omega arith;
          is = ap (λ k. get_or (cs ++ top ∷ []) k no_choice) left ∙ get_or-append_seam cs top [] no_choice;
          ends = omega (arith, at, ap length e, length-append al labels);
          within = omega (arith, at);
          labels_are = ap (λ n. take (n - length al) (drop (length al) al1)) at ∙ labels_behind al al1 labels e;
        },
        subst (λ m. IsLaid (cs ++ top ∷ []) al1 (length cs0) m forest) (sym left)
            (laid-later cs (top ∷ []) al labels (length cs0) (length cs) forest refl e a.laid),
        refl,
      );
      more = a.more ++ top ∷ [];
      added = ap (λ xs. xs ++ top ∷ []) a.added ∙ append_assoc cs0 a.more (top ∷ []);
      more_also = a.more_also ++ labels;
      added_also = e ∙ ap (λ xs. xs ++ labels) a.added_also ∙ append_assoc al0 a.more_also labels;
    })

-- what was added by two parts, one after the other
pub both-added : {f g : Forest} {cs0 cs1 cs2 : List Choice} {al0 al1 al2 : List ℕ} → AreAdded f cs0 cs1 al0 al1 → AreAdded g cs1 cs2 al1 al2 →
    AreAdded (beside f g) cs0 cs2 al0 al2
both-added {f = f} {g = g} {cs0 = cs0} {cs1 = cs1} {cs2 = cs2} {al0 = al0} {al1 = al1} {al2 = al2} a b = record {
  laid = laid-beside cs2 al2 (length cs0) (length cs1) (length cs2) f g
      (laid-later cs1 b.more al1 b.more_also (length cs0) (length cs1) f b.added b.added_also a.laid) b.laid;
  more = a.more ++ b.more;
  added = b.added ∙ ap (λ cs. cs ++ b.more) a.added ∙ append_assoc cs0 a.more b.more;
  more_also = a.more_also ++ b.more_also;
  added_also = b.added_also ∙ ap (λ al. al ++ b.more_also) a.added_also ∙ append_assoc al0 a.more_also b.more_also;
}

placed_front : (cs more : List Choice) (al : List ℕ) (to : ℕ) (x : Choice) (labels : List ℕ) → to ≤ length cs → IsPlaced (cs ++ more) al to x labels → IsPlaced cs al to x labels
placed_front cs more al to x labels le p = record {
  some = p.some;
  inside = le;
  is = sym (get_or_append_left cs more no_choice (to - 1) (omega (arith, p.some, le))) ∙ p.is;
  ends = p.ends;
  within = p.within;
  labels_are = p.labels_are;
}

-- what is laid in a list is laid in its front, as far as that goes
laid_front : (cs more : List Choice) (al : List ℕ) (from to : ℕ) (f : Forest) → to ≤ length cs → IsLaid (cs ++ more) al from to f → IsLaid cs al from to f
laid_front cs more al from to Bare le h = h
laid_front cs more al from to (Grown rest x labels below) le h = (
  placed_front cs more al to x labels le h.0,
  laid_front cs more al x.below (to - 1) below (omega (arith, le)) h.1,
  laid_front cs more al from x.below rest (omega (arith, le, laid-le (cs ++ more) al x.below (to - 1) below h.1)) h.2,
)

-- what is left without the last choice, and writes the same rows where that one's label is inherited
pub record IsTopless (label : ℕ) (forest : Forest) (cs0 cs : List Choice) (al0 al : List ℕ) : Type 0 where
  pub left : Forest
  pub kept : AreAdded left cs0 (take (length cs - 1) cs) al0 al
  pub rows : (width : ℕ) → rows_of width left label ≡ rows_of width forest label

pub topless : {label : ℕ} {cs0 cs : List Choice} {al0 al : List ℕ} (forest : Forest) → AreAdded forest cs0 cs al0 al → length cs0 < length cs →
    (get_or cs (length cs - 1) no_choice).label ≡ label → IsTopless label forest cs0 cs al0 al
topless Bare a lt same = absurd (omega (arith, lt, a.laid))
topless {label = label} {cs0 = cs0} {cs = cs} {al0 = al0} {al = al} (Grown rest x labels below) a lt same =
    let n = length cs - 1 in
    let size : length (take n cs) ≡ n = length-take-le n cs (omega arith) in
    let over : n ≡ length cs0 + (n - length cs0) = omega (arith, lt) in
    let own : x.label == label ≡ true = eq-eqb x.label label (ap (λ y. y.label) (sym a.laid.0.is) ∙ same) in
    record {
      left = beside rest below;
      kept = record {
        laid = subst (λ m. IsLaid (take n cs) al (length cs0) m (beside rest below)) (sym size)
            (laid_front (take n cs) (drop n cs) al (length cs0) n (beside rest below) (omega (arith, size))
            (subst (λ xs. IsLaid xs al (length cs0) n (beside rest below)) (sym (take-append-drop n cs))
            (laid-beside cs al (length cs0) x.below n rest below a.laid.2 a.laid.1)));
        more = take (n - length cs0) a.more;
        added = ap (λ xs. take n xs) a.added ∙ ap (λ k. take k (cs0 ++ a.more)) over ∙ take-append-add cs0 a.more (n - length cs0);
        more_also = a.more_also;
        added_also = a.added_also;
      };
      rows = λ width. rw own (rows-beside width label rest below);
    }

-- the last choice gives way to another one
pub replaced : {g : Gain} {low bits below also end n : ℕ} {x : Choice} (cs : List Choice) → 0 < g.gain →
    (below < length cs) × ((get_or cs (length cs - 1) no_choice).label ≡ g.best) → also ≡ end → n ≡ length cs - 1 → x ≡ own_choice low bits g.best below also end →
    IsReplaced g low bits below also end cs (set cs n x)
replaced {n = n} {x = x} cs some last none at is =
    let all = set cs n x in
    let size : length all ≡ suc n = omega (arith, length-set cs n x, last.0, at) in
    record {
      some = some;
      above = last.0;
      none = none;
      same = last.1;
      new_is = sym (take-length all) ∙ ap (λ k. take k all) size ∙ take-suc-set cs n x (omega (arith, last.0, at)) ∙ ap (λ k. take k cs ++ x ∷ []) at
          ∙ ap (λ c. take (length cs - 1) cs ++ c ∷ []) is;
    }

pub same_rows : (width d : ℕ) (x : Choice) (f g : Forest) → rows_of width f x.label ≡ rows_of width g x.label → rows_of width (Grown Bare x [] f) d ≡ rows_of width (Grown Bare x [] g) d
same_rows width d x f g h = elim (eqb_tells x.label d) [
  | inl t ↦ rw t.0 (subst (λ k. rows_of width f k ≡ rows_of width g k) t.1 h)
  | inr t ↦ rw t.0 (ap (λ rs. rs ++ row_of width x.bits x.value x.label ∷ []) h)
]

no_labels : (labels : List ℕ) → length labels ≡ 0 → labels ≡ []
no_labels [] h = refl
no_labels (l ∷ labels) h = absurd (omega (arith, h))

-- a part of one label writes its row
module _ {weights : List ℕ} {f : ℕ → ℕ} {bits low : ℕ} {c : Costs} (k : IsConstant weights c) (gives : GivesAll f bits low c.label) where
  one_writes : (width d : ℕ) → IsPart width bits low →
      ArePartRows weights f width bits low d (least_cost c d) (cond (cond (c.label == d) true false) [] (row_of width bits low c.label ∷ []))
  one_writes width d p = elim (eqb_tells c.label d) [ inl t ↦ rw t.0 (constant-inherited k gives t.1) | inr t ↦ rw t.0 (constant-written k gives p t.1) ]

  pub one-chosen : {keeps : Bool} {cs cs1 : List Choice} {al al1 : List ℕ} →
      (IsTrue keeps → cs1 ≡ cs ++ own_choice low bits c.label (length cs) (length al) (length al) ∷ []) → al1 ≡ al →
      AreChosen keeps weights f bits low (Constant c) cs cs1 al al1
  one-chosen {cs = cs} {al = al} put same = record {
    forest = Grown Bare (own_choice low bits c.label (length cs) (length al) (length al)) [] Bare;
    kept = λ yes. top-added (none-added cs al) (put yes) (same ∙ sym (append-nil al)) (sym (ap length same));
    writes = one_writes;
  }

-- what two parts choose, and the rows that they write as the halves of one
pub record AreBoth (keeps : Bool) (weights : List ℕ) (f : ℕ → ℕ) (bits low : ℕ) (lo hi : Node) (cs0 cs2 : List Choice) (al0 al2 : List ℕ) : Type 0 where
  pub forest : Forest
  pub kept : IsTrue keeps → AreAdded forest cs0 cs2 al0 al2
  pub rows : (width d : ℕ) → IsPart width bits low →
      AreHalfRows weights f width bits low d (least_cost (costs_of lo) d + least_cost (costs_of hi) d) (rows_of width forest d)

-- parts that were done one after the other, in either order
module _ {keeps : Bool} {weights : List ℕ} {f : ℕ → ℕ} {n one two : ℕ} {first second : Node} {cs0 cs1 cs2 : List Choice} {al0 al1 al2 : List ℕ}
    (p : AreChosen keeps weights f n one first cs0 cs1 al0 al1) (q : AreChosen keeps weights f n two second cs1 cs2 al1 al2) where
  place : (width bits low at : ℕ) → bits ≡ suc n → IsPart width bits low → (at ≡ low) ⊎ (at ≡ low + 2 ^ n) → IsPart width n at
  place width bits low at size part (inl e) = subst (IsPart width n) (sym e) (low-half (subst (λ m. IsPart width m low) size part))
  place width bits low at size part (inr e) = subst (IsPart width n) (sym e) (high-half (subst (λ m. IsPart width m low) size part))

  pub both-chosen : (bits low : ℕ) (lo hi : Node) → bits ≡ suc n → AreHalves n low one two →
      ((d : ℕ) → least_cost (costs_of lo) d + least_cost (costs_of hi) d ≡ least_cost (costs_of first) d + least_cost (costs_of second) d) →
      AreBoth keeps weights f bits low lo hi cs0 cs2 al0 al2
  both-chosen bits low lo hi size halves sum = record {
    forest = beside p.forest q.forest;
    kept = λ yes. both-added (p.kept yes) (q.kept yes);
    rows = λ width d part.
        let us = p.writes width d (place width bits low one size part (elim halves [ inl e ↦ inl e.0 | inr e ↦ inr e.0 ])) in
        let vs = q.writes width d (place width bits low two size part (elim halves [ inl e ↦ inr e.1 | inr e ↦ inl e.1 ])) in
        let cost = least_cost (costs_of lo) d + least_cost (costs_of hi) d in
        subst (AreHalfRows weights f width bits low d cost) (sym (rows-beside width d p.forest q.forest))
        (subst (λ k. AreHalfRows weights f width k low d cost (rows_of width p.forest d ++ rows_of width q.forest d)) (sym size)
        (half-rows low cost (sum d) halves us vs));
  }

-- a part of two halves writes what they write, and its own row where its halves save less than the gain
module _ {keeps : Bool} {weights : List ℕ} {f : ℕ → ℕ} {n bits low : ℕ} {lo hi : Node} {c : Costs} {cs0 cs2 : List Choice} {al0 al2 : List ℕ} {xs ys sums : List LabelCost}
    (size : bits ≡ suc n) (s : IsSplit weights (costs_of lo) (costs_of hi) c) (h : StandsFor weights f n low lo) (k : StandsFor weights f n (low + 2 ^ n) hi)
    (both : AreBoth keeps weights f bits low lo hi cs0 cs2 al0 al2)
    (a : AreSavings weights (costs_of lo) xs) (b : AreSavings weights (costs_of hi) ys) (g : Gain) (i : IsGain weights xs ys g.gain g.best)
    (t : AreSums xs ys sums) where
  silent_none : (d : ℕ) → g.gain ≤ saved sums d → without_row c d ≤ c.row
  silent_none d le = writes-none s a b i d (omega (arith, le, t.saves d))

  less_own : (d : ℕ) → saved sums d < g.gain → c.row < without_row c d
  less_own d lt = writes-own s a b i d (omega (arith, lt, t.saves d))

  module _ (some : 0 < g.gain) where
    abbrev labels : List ℕ
    labels = further g.gain g.best sums

    abbrev own : ℕ → Choice
    own end = own_choice low bits g.best (length cs0) (length al2) end

    own_writes : (end width d : ℕ) → IsPart width bits low → ArePartRows weights f width bits low d (least_cost c d) (rows_of width (Grown Bare (own end) labels both.forest) d)
    own_writes end width d part = elim (silent-tells (own end) g.gain d sums some t.rise (omega (arith, t.saves g.best, i.whole some))) [
      | inl r ↦ rw r.0 (halves-inherit lo hi s (both.rows width d part) (silent_none d r.1))
      | inr r ↦ rw r.0 (halves-own lo hi s (both.rows width g.best part) d size h k (sym (own-label s a b i some)) part (less_own d r.1))
    ]

    own_chosen : {cs3 : List Choice} {al3 : List ℕ} → (IsTrue keeps → al3 ≡ al2 ++ labels) → (IsTrue keeps → cs3 ≡ cs2 ++ own (length al3) ∷ []) →
        AreChosen keeps weights f bits low (Halves c lo hi) cs0 cs3 al0 al3
    own_chosen {al3 = al3} put_also put = record {
      forest = Grown Bare (own (length al3)) labels both.forest;
      kept = λ yes. top-added (both.kept yes) (put yes) (put_also yes) refl;
      writes = own_writes (length al3);
    }

    own_replaced : IsTrue keeps → {cs3 : List Choice} {al3 : List ℕ} → al3 ≡ al2 ++ labels → IsReplaced g low bits (length cs0) (length al2) (length al3) cs2 cs3 →
        AreChosen keeps weights f bits low (Halves c lo hi) cs0 cs3 al0 al3
    own_replaced k {al3 = al3} put_also r =
        let x = own (length al3) in
        let top = topless both.forest (both.kept k) r.above r.same in
        let none : labels ≡ [] = no_labels labels (omega (arith, r.none, ap length put_also, length-append al2 labels)) in
        record {
          forest = Grown Bare x labels top.left;
          kept = λ again. top-added top.kept r.new_is put_also refl;
          writes = λ width d part. subst (ArePartRows weights f width bits low d (least_cost c d))
              (subst (λ ls. rows_of width (Grown Bare x ls both.forest) d ≡ rows_of width (Grown Bare x ls top.left) d) (sym none)
              (same_rows width d x both.forest top.left (sym (top.rows width))))
              (own_writes (length al3) width d part);
        }

  none_chosen : {cs3 : List Choice} {al3 : List ℕ} → g.gain ≡ 0 → (IsTrue keeps → al3 ≡ al2 ++ []) → (IsTrue keeps → cs3 ≡ cs2 ++ []) →
      AreChosen keeps weights f bits low (Halves c lo hi) cs0 cs3 al0 al3
  none_chosen {cs3 = cs3} none put_also put = record {
    forest = both.forest;
    kept = λ yes. subst (λ al. AreAdded both.forest cs0 cs3 al0 al) (sym (put_also yes ∙ append-nil al2))
        (subst (λ cs. AreAdded both.forest cs0 cs al0 al2) (sym (put yes ∙ append-nil cs2)) (both.kept yes));
    writes = λ width d part. halves-inherit lo hi s (both.rows width d part) (silent_none d (omega (arith, none)));
  }

  chosen_step : (u : Bool) → nat_lt 0 g.gain ≡ u → {cs3 : List Choice} {al3 : List ℕ} → (IsTrue keeps → al3 ≡ al2 ++ cond u (further g.gain g.best sums) []) →
      (IsTrue keeps → cs3 ≡ cs2 ++ cond u (own_choice low bits g.best (length cs0) (length al2) (length al3) ∷ []) []) →
      AreChosen keeps weights f bits low (Halves c lo hi) cs0 cs3 al0 al3
  chosen_step true u e r = own_chosen (ltb-true 0 g.gain u) e r
  chosen_step false u e r = none_chosen (omega (arith, ltb-false 0 g.gain u)) e r

  -- where choices aren't kept, nothing is said of those that are put down
  chosen_where : (kept : Bool) → keeps ≡ kept → {cs3 : List Choice} {al3 : List ℕ} → (IsTrue keeps → al3 ≡ al2 ++ more_labels g sums) →
      (IsTrue keeps → IsTopped g low bits (length cs0) (length al2) (length al3) cs2 cs3) → AreChosen keeps weights f bits low (Halves c lo hi) cs0 cs3 al0 al3
  chosen_where false k e r = chosen_step (nat_lt 0 g.gain) refl e (λ yes. absurd (false≢true (sym k ∙ yes)))
  chosen_where true k e r = elim (r k) [
    | inl put ↦ chosen_step (nat_lt 0 g.gain) refl e (λ again. put)
    | inr put ↦ own_replaced put.some k (e k ∙ ap (λ u. al2 ++ cond u (further g.gain g.best sums) []) (lt-ltb 0 g.gain put.some)) put
  ]

  pub halves-chosen : {cs3 : List Choice} {al3 : List ℕ} → (IsTrue keeps → al3 ≡ al2 ++ more_labels g sums) →
      (IsTrue keeps → IsTopped g low bits (length cs0) (length al2) (length al3) cs2 cs3) →
      AreChosen keeps weights f bits low (Halves c lo hi) cs0 cs3 al0 al3
  halves-chosen e r = chosen_where keeps refl e r
