-- Flags of the entries of a whole table.
use Rattle.std.proofs.Common.{◌≡◌, ◌+◌, ◌<◌, ℕ, List, [], Bool, length, ap, arith, subst, sym, ◌∙◌, get_or, inl, inr, ◌∷◌, map, refl}
use Rattle.std.proofs.lemmas.Bool.{cases_lt}
use Rattle.std.proofs.lemmas.List.{get_or_default, length-map}
use Rattle.ternary_words.specs.declared.entry.Entry.{Entry}
use Rattle.ternary_words.specs.Entries.{ArePrefixes}
use Rattle.redundancy_laws.specs.Built.{row_at}
use Rattle.redundancy_laws.specs.Flags.{AreRightFlags, with_flags}
use Rattle.field_boxes.specs.Orders.{IsOrder}
use Rattle.redundancy_laws.specs.Pass.{Keeps}
use Rattle.redundancy_laws.proofs.Chosen.{chosen}
use Rattle.std.specs.Prelude.{◌==◌, not}
use Rattle.field_boxes.specs.Headline.Fields.{AreValues}
use Rattle.node_store.specs.Diagram.{Node, answer}
use Rattle.redundancy_laws.specs.declared.context.Context.{Context}
use Rattle.redundancy_laws.specs.declared.sifted.Sifted.{Sifted}
use Rattle.redundancy_laws.specs.Contexts.{IsRight, whole}
use Rattle.redundancy_laws.specs.Marks.{marked}
use Rattle.redundancy_laws.specs.Rows.{Row, matches}
use Rattle.redundancy_laws.specs.Sifted.{IsSifted, answers_of, contexts_of, is_in, context_at}
use Rattle.redundancy_laws.proofs.Alike.{KeepSame, MatchAlike, right-alike}
use Rattle.redundancy_laws.proofs.Merged.{same-contexts}
use Rattle.redundancy.specs.Kept.{AreWholeFlags}

-- what is flagged is what a pass keeps
pub kept_is : (order : List ℕ) (entries seen again kept : List Entry) (flags flags_seen : List Bool) → IsOrder order → ArePrefixes entries → seen ≡ entries → again ≡ entries → flags_seen ≡ flags → AreRightFlags order seen flags →
    kept ≡ with_flags again flags_seen → Keeps [] entries kept
kept_is order entries seen again kept flags flags_seen ordered prefixes e a f right is =
    subst (Keeps [] entries) (sym (is ∙ ap (λ es. with_flags es flags_seen) a ∙ ap (with_flags entries) f)) (chosen order entries flags ordered prefixes (subst (λ es. AreRightFlags order es flags) e right))

-- what was kept of the rows for the one context that answers nothing
pub flags_of_pair : (nodes : List Node) (order level : List ℕ) (rows : List Row) (pair : Context) (s : Sifted) → level ≡ order →
    ((values : List ℕ) → AreValues order values → answer nodes pair.after.0 values ≡ 0) → ((values : List ℕ) → AreValues order values → answer nodes pair.met.0 values ≡ 0) →
    IsSifted nodes level rows (pair ∷ []) s → AreWholeFlags order rows s.kept.items
flags_of_pair nodes order level rows pair s same after met sifted = record {
  count = sifted.flags;
  out = answers_of nodes s.after.items;
  right = same-contexts order whole (contexts_of nodes (pair ∷ [])) (marked rows s.kept.items) (answers_of nodes s.after.items) (answers_of nodes s.after.items) refl
      (λ c less. let z : c ≡ 0 = omega (arith, less) in record {
        after = λ values ok. ap (λ k. answer nodes (context_at (pair ∷ []) k).after.0 values) z ∙ after values ok;
        met = λ values ok. ap (λ k. is_in nodes (context_at (pair ∷ []) k).met.0 values) z ∙ ap (λ n. not (n == 0)) (met values ok);
      })
      (subst (λ l. IsRight l (contexts_of nodes (pair ∷ [])) (marked rows s.kept.items) (answers_of nodes s.after.items)) same sifted.right) (λ c less values ok. refl);
}

-- flags of the rows of some entries
pub flags_are : (order : List ℕ) (rows : List Row) (entries : List Entry) (flags : List Bool) → rows ≡ map (row_at order) entries → AreWholeFlags order rows flags → AreRightFlags order entries flags
flags_are order rows entries flags are h = record {
  count = h.count ∙ ap length are ∙ length-map entries (row_at order);
  out = h.out;
  right = subst (λ (rs : List Row). IsRight order whole (marked rs flags) h.out) are h.right;
}

-- the rows decide alike, and match alike at all values of these fields
abbrev pub AreAlikeRows : List ℕ → List Row → List Row → Type 0
AreAlikeRows level [] [] = Unit {0}
AreAlikeRows level [] (y ∷ ys) = ⊥
AreAlikeRows level (x ∷ xs) [] = ⊥
AreAlikeRows level (x ∷ xs) (y ∷ ys) = (x.decision ≡ y.decision) × ((values : List ℕ) → AreValues level values → matches values x ≡ matches values y) × AreAlikeRows level xs ys

alike_count : (level : List ℕ) (xs ys : List Row) → AreAlikeRows level xs ys → length ys ≡ length xs
alike_count level [] [] z = refl
alike_count level [] (y ∷ ys) z = absurd z
alike_count level (x ∷ xs) [] z = absurd z
alike_count level (x ∷ xs) (y ∷ ys) z = let n = alike_count level xs ys z.2 in omega (arith, n)

keep_alike : (level : List ℕ) (xs ys : List Row) (flags : List Bool) → AreAlikeRows level xs ys → KeepSame (marked xs flags) (marked ys flags)
keep_alike level [] [] flags z = tt
keep_alike level [] (y ∷ ys) flags z = absurd z
keep_alike level (x ∷ xs) [] flags z = absurd z
keep_alike level (x ∷ xs) (y ∷ ys) [] z = tt
keep_alike level (x ∷ xs) (y ∷ ys) (b ∷ flags) z = (refl, z.0, keep_alike level xs ys flags z.2)

match_alike : (level values : List ℕ) (xs ys : List Row) (flags : List Bool) → AreValues level values → AreAlikeRows level xs ys → MatchAlike values values (marked xs flags) (marked ys flags)
match_alike level values [] [] flags ok z = tt
match_alike level values [] (y ∷ ys) flags ok z = absurd z
match_alike level values (x ∷ xs) [] flags ok z = absurd z
match_alike level values (x ∷ xs) (y ∷ ys) [] ok z = tt
match_alike level values (x ∷ xs) (y ∷ ys) (b ∷ flags) ok z = (z.1 values ok, match_alike level values xs ys flags ok z.2)

-- flags of rows that are alike
pub flags_alike : (order : List ℕ) (rows : List Row) (entries : List Entry) (flags : List Bool) → AreAlikeRows order (map (row_at order) entries) rows → AreWholeFlags order rows flags → AreRightFlags order entries flags
flags_alike order rows entries flags alike h =
    let own = map (row_at order) entries in
    record {
      count = h.count ∙ alike_count order own rows alike ∙ length-map entries (row_at order);
      out = h.out;
      right = right-alike order order whole whole (marked own flags) (marked rows flags) h.out h.out (keep_alike order own rows flags alike)
          (λ c less values ok. inl (c, values, less, ok, (refl, refl, match_alike order values own rows flags ok alike), refl))
          (λ c less values ok. inl (c, values, less, ok, (refl, refl, match_alike order values own rows flags ok alike)))
          h.right;
    }
