-- A block with one interval in front of all its rows.
use Rattle.node_store.specs.Levels.{HasField, next, top_of}
use Rattle.std.proofs.Common.{◌≡◌, ◌∷◌, ◌⊎◌, ℕ, List, [], ◌<◌, ◌≤◌, Bool, true, false, refl, ap, sym, ◌∙◌, inl, inr}
use Rattle.std.specs.Prelude.{◌&&◌, ◌||◌, map}
use Rattle.std.specs.List.{list_any}
use Rattle.field_boxes.specs.Headline.Fields.{AreValues}
use Rattle.field_boxes.specs.Headline.Classifier.{Interval, interval_holds}
use Rattle.node_store.proofs.Values.{each, values_from}
use Rattle.redundancy_laws.specs.Rows.{Row, matches, in_front}
use Rattle.redundancy_laws.specs.Marks.{all_of, marked}
use Rattle.redundancy_laws.specs.Contexts.{Contexts, IsRight}
use Rattle.redundancy_laws.specs.Layers.{StandsBehind, AreSplit, AreJoined}
use Rattle.redundancy_laws.proofs.Alike.{KeepSame, MatchAlike, IsLike, AreMapped, right-alike}

-- the same marks on rows with an interval in front
keep_behind : (span : Interval) (rows : List Row) (flags : List Bool) → KeepSame (marked (map (in_front span) rows) flags) (marked rows flags)
keep_behind span [] flags = tt
keep_behind span (r ∷ rows) [] = tt
keep_behind span (r ∷ rows) (b ∷ flags) = (refl, refl, keep_behind span rows flags)

-- at a value of the interval the rows match as they do without it
match_inside : (span : Interval) (v : ℕ) (values : List ℕ) (rows : List Row) (flags : List Bool) → interval_holds v span ≡ true →
    MatchAlike (v ∷ values) values (marked (map (in_front span) rows) flags) (marked rows flags)
match_inside span v values [] flags is = tt
match_inside span v values (r ∷ rows) [] is = tt
match_inside span v values (r ∷ rows) (k ∷ flags) is = (ap (λ s. s && matches values r) is, match_inside span v values rows flags is)

-- at another value none of them matches
match_outside : (span : Interval) (v : ℕ) (values : List ℕ) (rows : List Row) (flags : List Bool) → interval_holds v span ≡ false →
    list_any (matches (v ∷ values)) (all_of (marked (map (in_front span) rows) flags)) ≡ false
match_outside span v values [] flags is = refl
match_outside span v values (r ∷ rows) [] is = refl
match_outside span v values (r ∷ rows) (k ∷ flags) is =
    ap (λ s. (s && matches values r) || list_any (matches (v ∷ values)) (all_of (marked (map (in_front span) rows) flags))) is ∙ match_outside span v values rows flags is

module _ (level : List ℕ) (span : Interval) (cs ds : Contexts) (to : ℕ → ℕ → ℕ) (rows : List Row) (flags : List Bool) (inner out : ℕ → List ℕ → ℕ) where
  like : (c v d : ℕ) (values : List ℕ) → interval_holds v span ≡ true → AreValues (next level) values → StandsBehind level cs ds c v d →
      IsLike level (next level) cs ds [] [] (marked (map (in_front span) rows) flags) (marked rows flags) c (v ∷ values) d values
  like c v d values is ok h = (ap (λ s. s || false) (sym (h.met values ok)), sym (h.after values ok), match_inside span v values rows flags is)

  -- what one context answers at some values, and where it looks
  abbrev IsMapped : ℕ → List ℕ → Type 0
  IsMapped c values =
      ((d : ℕ) × (others : List ℕ) × (d < ds.count) × AreValues (next level) others
      × IsLike level (next level) cs ds [] [] (marked (map (in_front span) rows) flags) (marked rows flags) c values d others × (out c values ≡ inner d others))
      ⊎ ((list_any (matches values) (all_of (marked (map (in_front span) rows) flags)) ≡ false) × (out c values ≡ cs.after c values))

  map_value : AreSplit level span cs ds to → AreJoined level span cs.count to inner cs.after out →
      (c v : ℕ) (values : List ℕ) (s : Bool) → interval_holds v span ≡ s → c < cs.count → v ≤ top_of level → AreValues (next level) values → IsMapped c (v ∷ values)
  map_value split join c v values true is less small ok =
      let s = split.covered c v less small is in inl (to c v, values, s.0, ok, like c v (to c v) values is ok s.1, join.inside c v values less small ok is)
  map_value split join c v values false is less small ok = inr (match_outside span v values rows flags is, join.outside c v values less small ok is)

  mapped : HasField level → AreSplit level span cs ds to → AreJoined level span cs.count to inner cs.after out →
      AreMapped level (next level) cs ds (marked (map (in_front span) rows) flags) (marked rows flags) inner out
  mapped five split join c less = each (IsMapped c) level five (λ v values small ok. map_value split join c v values (interval_holds v span) refl less small ok)

  pub one_run : HasField level → AreSplit level span cs ds to → IsRight (next level) ds (marked rows flags) inner → AreJoined level span cs.count to inner cs.after out →
      IsRight level cs (marked (map (in_front span) rows) flags) out
  one_run five split right join =
      right-alike level (next level) cs ds (marked (map (in_front span) rows) flags) (marked rows flags) inner out (keep_behind span rows flags) (mapped five split join)
      (λ d less values ok. let g = split.reached d less in inl (g.0, g.1 ∷ values, g.2, values_from level g.1 values five g.3 ok, like g.0 g.1 d values g.4 ok g.5)) right

and_or : (h a b : Bool) → ((h && a) || (h && b)) ≡ (h && (a || b))
and_or true a b = refl
and_or false a b = refl

and_false : (b : Bool) → (b && false) ≡ false
and_false true = refl
and_false false = refl

-- what rows with an interval in front match
pub cover-behind : (span : Interval) (v : ℕ) (values : List ℕ) (rows : List Row) →
    list_any (matches (v ∷ values)) (map (in_front span) rows) ≡ (interval_holds v span && list_any (matches values) rows)
cover-behind span v values [] = sym (and_false (interval_holds v span))
cover-behind span v values (r ∷ rows) =
    ap (λ s. (interval_holds v span && matches values r) || s) (cover-behind span v values rows) ∙ and_or (interval_holds v span) (matches values r) (list_any (matches values) rows)
