-- The boxes of a coarsest partition are a partition.
use Rattle.std.proofs.Common.{◌≡◌, ◌∷◌, ℕ, List, [], ◌++◌, ◌<◌, arith, ap, refl, ◌∙◌, suc, length, map}
use Rattle.field_boxes.specs.Headline.Classifier.{Interval}
use Rattle.partition_check.specs.Partition.{Group, rows_of, put_first, AreGroups, IsPartition}
use Rattle.partition_check.specs.Checking.{Statement}
use Rattle.partition_check.specs.Good.{box_of}
use Rattle.box_partition.specs.Coarsest.{put_interval, IsCoarsest}

abbrev strip : Group Statement → Group (List Interval)
strip group = record { first = group.first; rest = map box_of group.rest }

boxes-group : (i : Interval) (rest more : List Statement) (others : List (List Interval)) → map box_of more ≡ others →
    map box_of (map (put_interval i) rest ++ more) ≡ map (put_first i) (map box_of rest) ++ others
boxes-group i [] more others h = h
boxes-group i (r ∷ rest) more others h = ap (λ rows. (i ∷ r.box) ∷ rows) (boxes-group i rest more others h)

boxes-groups : (groups : List (Group Statement)) → map box_of (rows_of put_interval groups) ≡ rows_of put_first (map strip groups)
boxes-groups [] = refl
boxes-groups (x ∷ groups) = boxes-group x.first x.rest (rows_of put_interval groups) (rows_of put_first (map strip groups)) (boxes-groups groups)

some-boxes : (rest : List Statement) → 0 < length rest → 0 < length (map box_of rest)
some-boxes [] h = h
some-boxes (r ∷ rest) h = omega arith

groups-strip : (P : List Statement → Type 0) (Q : List (List Interval) → Type 0) (lo g : ℕ) (groups : List (Group Statement)) →
    ((rows : List Statement) → P rows → Q (map box_of rows)) → AreGroups P lo g groups → AreGroups Q lo g (map strip groups)
groups-strip P Q lo g [] each h = h
groups-strip P Q lo g (x ∷ groups) each h = (some-boxes x.rest h.0, h.1, h.2, each x.rest h.3, groups-strip P Q (suc x.first.hi) g groups each h.4)

pub coarsest-partition : (gs : List ℕ) (rows : List Statement) → IsCoarsest gs rows → IsPartition gs (map box_of rows)
coarsest-partition [] rows h = ap (map box_of) h.2 ∙ ap (λ (b : List Interval). b ∷ []) h.1
coarsest-partition (g ∷ gs) rows h =
    (map strip h.0, ap (map box_of) h.1 ∙ boxes-groups h.0, groups-strip (IsCoarsest gs) (IsPartition gs) 0 g h.0 (coarsest-partition gs) h.2)
