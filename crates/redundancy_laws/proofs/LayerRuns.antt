-- A layer, run by run.
use Rattle.node_store.specs.Levels.{HasField, next, top_of}
use Rattle.std.proofs.Common.{◌≡◌, ◌∷◌, ◌++◌, ℕ, List, [], ◌<◌, ◌≤◌, ◌+◌, Bool, true, false, length, refl, ap, arith, sym, ◌∙◌, subst, append_assoc}
use Rattle.std.specs.Prelude.{cond, map}
use Rattle.std.specs.List.{list_any}
use Rattle.std.proofs.lemmas.List.{append-nil, length-append, length-map}
use Rattle.field_boxes.specs.Headline.Fields.{AreValues}
use Rattle.field_boxes.specs.Headline.Classifier.{interval_holds}
use Rattle.node_store.proofs.Values.{each}
use Rattle.redundancy_laws.specs.Rows.{Row, matches, in_front}
use Rattle.redundancy_laws.specs.Marks.{marked}
use Rattle.redundancy_laws.specs.Contexts.{Contexts, IsRight}
use Rattle.redundancy_laws.specs.Layers.{rows_of_runs, AreApart, SiftedRun, AreSiftedRuns, runs_of, flags_of, answer_in, AreLayerAnswers}
use Rattle.redundancy_laws.proofs.Merged.{merged}
use Rattle.redundancy_laws.proofs.Sequence.{nothing}
use Rattle.redundancy_laws.proofs.Apart.{behind-none, append-none}
use Rattle.field_boxes.proofs.Unions.{not_past, not_below, between}
use Rattle.redundancy_laws.proofs.NextRun.{next_run}

-- runs above a value answer nothing there
answer_above : (least : ℕ) (runs : List SiftedRun) (c v : ℕ) (values : List ℕ) (other : ℕ) → AreApart least (runs_of runs) → v < least → answer_in runs c v values other ≡ other
answer_above least [] c v values other apart h = refl
answer_above least (s ∷ runs) c v values other apart h =
    let lo = apart.0 in
    let hi = apart.1 in
    ap (λ t. cond t (s.inner (s.to c v) values) (answer_in runs c v values other)) (not_below v s.run.span (omega (arith, lo, h)))
    ∙ answer_above (s.run.span.hi + 1) runs c v values other apart.2 (omega (arith, lo, hi, h))

-- the rows match no value from the least on
abbrev AreBelow : ℕ → List Row → Type 0
AreBelow least rows = (v : ℕ) (values : List ℕ) → least ≤ v → list_any (matches (v ∷ values)) rows ≡ false

below_more : (least : ℕ) (s : SiftedRun) (rows : List Row) → least ≤ s.run.span.lo → s.run.span.lo ≤ s.run.span.hi → AreBelow least rows →
    AreBelow (s.run.span.hi + 1) (rows ++ map (in_front s.run.span) s.run.rows)
below_more least s rows lo hi below v values h =
    append-none (v ∷ values) rows (map (in_front s.run.span) s.run.rows) (below v values (omega (arith, lo, hi, h))) (behind-none v values s.run.span s.run.rows (not_past v s.run.span (omega (arith, h))))

module _ (level : List ℕ) (cs : Contexts) (five : HasField level) where
  -- what is answered where the runs go on before it
  abbrev GoOn : List SiftedRun → (ℕ → List ℕ → ℕ) → (ℕ → List ℕ → ℕ) → Type 0
  GoOn runs before out = (c v : ℕ) (values : List ℕ) → c < cs.count → v ≤ top_of level → AreValues (next level) values →
      out c (v ∷ values) ≡ answer_in runs c v values (before c (v ∷ values))

  abbrev with_run : SiftedRun → (ℕ → List ℕ → ℕ) → ℕ → List ℕ → ℕ
  with_run s before c [] = 0
  with_run s before c (v ∷ values) = cond (interval_holds v s.run.span) (s.inner (s.to c v) values) (before c (v ∷ values))

  with_at : (s : SiftedRun) (before : ℕ → List ℕ → ℕ) (c v : ℕ) (values : List ℕ) (t : Bool) → interval_holds v s.run.span ≡ t →
      with_run s before c (v ∷ values) ≡ cond t (s.inner (s.to c v) values) (before c (v ∷ values))
  with_at s before c v values t is = ap (λ t. cond t (s.inner (s.to c v) values) (before c (v ∷ values))) is

  go_at : (s : SiftedRun) (runs : List SiftedRun) (before : ℕ → List ℕ → ℕ) (c v : ℕ) (values : List ℕ) (t : Bool) → interval_holds v s.run.span ≡ t → AreApart (s.run.span.hi + 1) (runs_of runs) →
      answer_in (s ∷ runs) c v values (before c (v ∷ values)) ≡ answer_in runs c v values (with_run s before c (v ∷ values))
  go_at s runs before c v values true is apart =
      let e = between v s.run.span is in
      ap (λ t. cond t (s.inner (s.to c v) values) (answer_in runs c v values (before c (v ∷ values)))) is
      ∙ sym (ap (answer_in runs c v values) (with_at s before c v values true is) ∙ answer_above (s.run.span.hi + 1) runs c v values (s.inner (s.to c v) values) apart (omega (arith, e.1)))
  go_at s runs before c v values false is apart =
      ap (λ t. cond t (s.inner (s.to c v) values) (answer_in runs c v values (before c (v ∷ values)))) is
      ∙ sym (ap (answer_in runs c v values) (with_at s before c v values false is))

  layer_from : (least : ℕ) (runs : List SiftedRun) (rows : List Row) (flags : List Bool) (before out : ℕ → List ℕ → ℕ) → length flags ≡ length rows → AreBelow least rows →
      AreApart least (runs_of runs) → AreSiftedRuns level cs runs → IsRight level cs (marked rows flags) before → GoOn runs before out →
      IsRight level cs (marked (rows ++ rows_of_runs (runs_of runs)) (flags ++ flags_of runs)) out
  layer_from least [] rows flags before out e below apart sifted right go =
      subst (λ fs. IsRight level cs (marked (rows ++ []) fs) out) (sym (append-nil flags))
      (subst (λ rs. IsRight level cs (marked rs flags) out) (sym (append-nil rows))
      (merged level cs cs (λ c. c) (marked rows flags) before out
      (record {
        covered = λ c less. (less, record { after = λ values ok. refl; met = λ values ok. refl });
        reached = λ d less. (d, less, record { after = λ values ok. refl; met = λ values ok. refl });
      })
      right (λ c less. each (λ values. out c values ≡ before c values) level five (λ v values small ok. go c v values less small ok))))
  layer_from least (s ∷ runs) rows flags before out e below apart sifted right go =
      subst (λ fs. IsRight level cs (marked (rows ++ (map (in_front s.run.span) s.run.rows ++ rows_of_runs (runs_of runs))) fs) out) (append_assoc flags s.flags (flags_of runs))
      (subst (λ rs. IsRight level cs (marked rs ((flags ++ s.flags) ++ flags_of runs)) out) (append_assoc rows (map (in_front s.run.span) s.run.rows) (rows_of_runs (runs_of runs)))
      (layer_from (s.run.span.hi + 1) runs (rows ++ map (in_front s.run.span) s.run.rows) (flags ++ s.flags) (with_run s before) out count
      (below_more least s rows apart.0 apart.1 below) apart.2 sifted.1
      (next_run level s.run.span cs s.contexts s.to rows s.run.rows flags s.flags s.inner before (with_run s before) five e
      (λ v values is. let n = between v s.run.span is in let lo = apart.0 in below v values (omega (arith, n.0, lo)))
      right sifted.0.split sifted.0.right
      (record {
        inside = λ c v values less small ok is. with_at s before c v values true is;
        outside = λ c v values less small ok is. with_at s before c v values false is;
      }))
      (λ c v values less small ok. go c v values less small ok ∙ go_at s runs before c v values (interval_holds v s.run.span) refl apart.2)))
    where
      count : length (flags ++ s.flags) ≡ length (rows ++ map (in_front s.run.span) s.run.rows)
      count =
          let a = length-append flags s.flags in
          let b = length-append rows (map (in_front s.run.span) s.run.rows) in
          let m = length-map s.run.rows (in_front s.run.span) in
          let k = sifted.0.count in
          omega (arith, a, b, m, k, e)

  pub layer : (runs : List SiftedRun) (out : ℕ → List ℕ → ℕ) → AreApart 0 (runs_of runs) → AreSiftedRuns level cs runs → AreLayerAnswers level cs runs out →
      IsRight level cs (marked (rows_of_runs (runs_of runs)) (flags_of runs)) out
  layer runs out apart sifted answers = layer_from 0 runs [] [] cs.after out refl (λ v values h. refl) apart sifted (nothing level cs) answers
