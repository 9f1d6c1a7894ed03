-- The rows of choices, from the last one on.
use Rattle.std.proofs.Common.{◌≡◌, ◌∷◌, ◌++◌, ℕ, List, [], ◌-◌, ◌<◌, ◌≤◌, true, false, ap, arith, sym, ◌∙◌, subst, length, get_or, take, drop, append_assoc}
use Rattle.std.specs.Prelude.{cond, reverse}
use Rattle.std.proofs.lemmas.List.{append-nil, reverse-append, reverse-reverse}
use Rattle.prefix_min.specs.declared.plan.Choice.{Choice}
use Rattle.prefix_min.specs.declared.row.PrefixRow.{PrefixRow}
use Rattle.prefix_min.specs.Plan.{Bare, Forest, Grown, IsLaid, IsPlaced, beside, no_choice, rows_of, silent}
use Rattle.prefix_min.specs.Rows.{row_of}
use Rattle.prefix_min.proofs.Planned.{laid-beside, laid-le, rows-beside}

-- the choice before a place, and its further labels
abbrev pub choice_at : List Choice → ℕ → Choice
choice_at cs until = get_or cs (until - 1) no_choice

abbrev pub labels_at : List ℕ → Choice → List ℕ
labels_at al x = take (x.end - x.also) (drop x.also al)

pub record AtChoice (cs : List Choice) (al : List ℕ) (from until : ℕ) (x : Choice) (f : Forest) : Type 0 where
  pub rest : Forest
  pub below : Forest
  pub is : f ≡ Grown rest x (labels_at al x) below
  pub placed : IsPlaced cs al until x (labels_at al x)
  pub laid_below : IsLaid cs al x.below (until - 1) below
  pub laid_rest : IsLaid cs al from x.below rest

pub at-choice : (cs : List Choice) (al : List ℕ) (from until : ℕ) (f : Forest) → IsLaid cs al from until f → from < until → AtChoice cs al from until (choice_at cs until) f
at-choice cs al from until Bare h lt = absurd (omega (arith, h, lt))
at-choice cs al from until (Grown rest x labels below) h lt =
    subst (λ z. AtChoice cs al from until z (Grown rest x labels below)) (sym h.0.is)
    (record {
      rest = rest;
      below = below;
      is = ap (λ ls. Grown rest x ls below) (sym h.0.labels_are);
      placed = subst (IsPlaced cs al until x) (sym h.0.labels_are) h.0;
      laid_below = h.1;
      laid_rest = h.2;
    })

-- the choices that are left, and their rows behind those that are written
pub record IsLeft (cs : List Choice) (al : List ℕ) (width d from until : ℕ) (out all : List PrefixRow) : Type 0 where
  pub left : Forest
  pub laid : IsLaid cs al from until left
  pub rows : out ++ reverse (rows_of width left d) ≡ all

pub record IsWalking (cs : List Choice) (al : List ℕ) (width d from to until : ℕ) (old out : List PrefixRow) : Type 0 where
  pub within : until ≤ to
  pub some : (forest : Forest) × IsLaid cs al from until forest
  pub all : (forest : Forest) → IsLaid cs al from to forest → IsLeft cs al width d from until out (old ++ reverse (rows_of width forest d))

none_left : (cs : List Choice) (al : List ℕ) (width d from until : ℕ) (out all : List PrefixRow) (f : Forest) → IsLaid cs al from until f → until ≤ from → out ++ reverse (rows_of width f d) ≡ all → out ≡ all
none_left cs al width d from until out all Bare h le e = sym (append-nil out) ∙ e
none_left cs al width d from until out all (Grown rest x labels below) h le e =
    absurd (omega (arith, laid-le cs al from x.below rest h.2, laid-le cs al x.below (until - 1) below h.1, h.0.some, le))

pub walk-end : {cs : List Choice} {al : List ℕ} {width d from to until : ℕ} {old out : List PrefixRow} → IsWalking cs al width d from to until old out →
    until ≤ from →
    (forest : Forest) → IsLaid cs al from to forest → out ≡ old ++ reverse (rows_of width forest d)
walk-end w le f l = let i = w.all f l in none_left _ _ _ _ _ _ _ _ i.left i.laid le i.rows

module _ {cs : List Choice} {al : List ℕ} {width d from to until : ℕ} {old out : List PrefixRow} (w : IsWalking cs al width d from to until old out)
    (more : from < until) where
  abbrev x : Choice
  x = choice_at cs until

  pub here : AtChoice cs al from until x w.some.0
  here = at-choice cs al from until w.some.0 w.some.1 more

  pub here-inside : until - 1 < length cs
  here-inside = omega (arith, here.placed.some, here.placed.inside)

  pub here-below : (from ≤ x.below) × (x.below ≤ until - 1)
  here-below = (laid-le cs al from x.below here.rest here.laid_rest, laid-le cs al x.below (until - 1) here.below here.laid_below)

  quiet_left : silent x (labels_at al x) d ≡ true → (all : List PrefixRow) → IsLeft cs al width d from until out all → IsLeft cs al width d from (until - 1) out all
  quiet_left e all i =
      let c = at-choice cs al from until i.left i.laid more in
      let step : rows_of width i.left d ≡ rows_of width (beside c.rest c.below) d =
      ap (λ f. rows_of width f d) c.is
      ∙ ap (λ t. rows_of width c.rest d ++ cond t (rows_of width c.below d) (rows_of width c.below x.label ++ row_of width x.bits x.value x.label ∷ [])) e
      ∙ sym (rows-beside width d c.rest c.below) in
      record {
        left = beside c.rest c.below;
        laid = laid-beside cs al from x.below (until - 1) c.rest c.below c.laid_rest c.laid_below;
        rows = ap (λ rs. out ++ reverse rs) (sym step) ∙ i.rows;
      }

  pub walk-quiet : silent x (labels_at al x) d ≡ true → IsWalking cs al width d from to (until - 1) old out
  walk-quiet e = record {
    within = omega (arith, w.within);
    some = (beside here.rest here.below, laid-beside cs al from x.below (until - 1) here.rest here.below here.laid_rest here.laid_below);
    all = λ f l. quiet_left e (old ++ reverse (rows_of width f d)) (w.all f l);
  }

  module _ {mid new : List PrefixRow} (pushed : mid ≡ out ++ row_of width x.bits x.value x.label ∷ [])
      (written : (forest : Forest) → IsLaid cs al x.below (until - 1) forest → new ≡ mid ++ reverse (rows_of width forest x.label)) where
    loud_left : silent x (labels_at al x) d ≡ false → (all : List PrefixRow) → IsLeft cs al width d from until out all → IsLeft cs al width d from x.below new all
    loud_left e all i =
        let c = at-choice cs al from until i.left i.laid more in
        let own = row_of width x.bits x.value x.label in
        let us = rows_of width c.rest d in
        let vs = rows_of width c.below x.label in
        let step : rows_of width i.left d ≡ us ++ (vs ++ own ∷ []) =
        ap (λ f. rows_of width f d) c.is ∙ ap (λ t. us ++ cond t (rows_of width c.below d) (vs ++ own ∷ [])) e in
        let turned : reverse (rows_of width i.left d) ≡ (own ∷ reverse vs) ++ reverse us =
        ap reverse step ∙ reverse-append us (vs ++ own ∷ []) ∙ ap (λ rs. rs ++ reverse us) (reverse-append vs (own ∷ [])) in
        let there : new ≡ out ++ (own ∷ reverse vs) = written c.below c.laid_below ∙ ap (λ rs. rs ++ reverse vs) pushed ∙ append_assoc out (own ∷ []) (reverse vs) in
        record {
          left = c.rest;
          laid = c.laid_rest;
          rows = ap (λ rs. rs ++ reverse us) there ∙ append_assoc out (own ∷ reverse vs) (reverse us) ∙ ap (λ rs. out ++ rs) (sym turned) ∙ i.rows;
        }

    pub walk-loud : silent x (labels_at al x) d ≡ false → IsWalking cs al width d from to x.below old new
    walk-loud e = record {
      within = omega (arith, here-below.1, w.within);
      some = (here.rest, here.laid_rest);
      all = λ f l. loud_left e (old ++ reverse (rows_of width f d)) (w.all f l);
    }

-- the rows of the field, put right way round
pub all-rows : {to : ℕ} {cs shown : List Choice} {al shown_also : List ℕ} {start pushed written turned : List PrefixRow} (width label : ℕ) (forest : Forest) →
    IsLaid cs al 0 (length cs) forest →
    shown ≡ cs → shown_also ≡ al → to ≡ length cs → start ≡ [] → pushed ≡ start ++ record { prefix = record { value = 0; len = 0 }; label = label } ∷ [] →
    ((f : Forest) → IsLaid shown shown_also 0 to f → written ≡ pushed ++ reverse (rows_of width f label)) → turned ≡ reverse written → turned ≡ rows_of width forest label ++ row_of width width 0 label ∷ []
all-rows {to = to} {cs = cs} {al = al} {shown_also = shown_also} {pushed = pushed} {written = written} width label forest laid is is_also all bare put write
    turn =
    let shown_laid = subst (λ xs. IsLaid xs shown_also 0 to forest) (sym is)
    (subst (λ xs. IsLaid cs xs 0 to forest) (sym is_also) (subst (λ k. IsLaid cs al 0 k forest) (sym all) laid)) in
    let own = row_of width width 0 label in
    let rs = rows_of width forest label in
    let row : ℕ → PrefixRow = λ n. record { prefix = record { value = 0; len = n }; label = label } in
    let none : 0 ≡ width - width = omega arith in
    let first : pushed ≡ own ∷ [] = put ∙ ap (λ xs. xs ++ row 0 ∷ []) bare ∙ ap (λ n. row n ∷ []) none in
    let there : written ≡ (own ∷ []) ++ reverse rs = write forest shown_laid ∙ ap (λ xs. xs ++ reverse rs) first in
    turn ∙ ap reverse there ∙ reverse-append (own ∷ []) (reverse rs) ∙ ap (λ xs. xs ++ own ∷ []) (reverse-reverse rs)
