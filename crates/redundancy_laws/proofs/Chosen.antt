-- Flags that are right for the whole table keep what a pass keeps.
use Rattle.node_store.specs.Levels.{HasField, next}
use Rattle.std.proofs.Common.{◌≡◌, ◌∷◌, ℕ, List, [], Bool, true, false, length, refl, ap, arith, sym, ◌∙◌, subst, inl, inr}
use Rattle.std.specs.Prelude.{◌≢◌, ◌||◌, ◌==◌, not, cond, map}
use Rattle.std.specs.List.{list_any}
use Rattle.std.proofs.lemmas.List.Elements.{All-tail}
use Rattle.field_boxes.specs.Headline.Fields.{IsHeader, AreValues}
use Rattle.field_boxes.specs.Headline.Classifier.{Interval}
use Rattle.node_store.specs.Diagram.{Node, answer as answer_of_node}
use Rattle.ternary_words.specs.declared.entry.Entry.{Entry}
use Rattle.ternary_words.specs.Prefixes.{IsPrefixInEach}
use Rattle.ternary_words.specs.Views.{word_of}
use Rattle.redundancy_laws.specs.declared.context.Context.{Context}
use Rattle.redundancy_laws.specs.Rows.{Row, matches, answer_or, in_front}
use Rattle.redundancy_laws.specs.Marks.{marked, kept_of}
use Rattle.redundancy_laws.specs.Contexts.{IsFirst, IsRight, IsRightMark, AreRightMarks, whole}
use Rattle.ternary_words.specs.Entries.{answer, entry_matches, ArePrefixes}
use Rattle.redundancy_laws.specs.Pass.{IsNeeded, IsRedundant, Keeps}
use Rattle.redundancy_laws.specs.Built.{field_of, row_at, span_at, HaveSpan}
use Rattle.redundancy_laws.specs.Flags.{with_flags, AreRightFlags}
use Rattle.redundancy_laws.specs.Sifted.{contexts_of, is_in, context_at}
use Rattle.redundancy_laws.proofs.Merged.{same-contexts}
use Rattle.field_boxes.specs.Orders.{IsOrder, picked}
use Rattle.node_store.proofs.Orders.{order_level, picked_values, some_header}
use Rattle.redundancy_laws.proofs.Prefixed.{row-matches}

-- by cases on the list
abbrev Prefixes : List Entry → Type 0
Prefixes [] = Unit {0}
Prefixes (e ∷ entries) = IsPrefixInEach (word_of e.word) × Prefixes entries

prefixes : (entries : List Entry) → ArePrefixes entries → Prefixes entries
prefixes [] h = tt
prefixes (e ∷ entries) h = (h 0 e (omega arith), prefixes entries (All-tail (λ (x : Entry). IsPrefixInEach (word_of x.word)) e entries h))

any_matches : (order header : List ℕ) (entries : List Entry) → IsOrder order → Prefixes entries → IsHeader header → list_any (matches (picked order header)) (map (row_at order) entries) ≡ list_any (entry_matches header) entries
any_matches order header [] o ps one = refl
any_matches order header (e ∷ entries) o ps one =
    ap (λ t. t || list_any (matches (picked order header)) (map (row_at order) entries)) (row-matches order header e o ps.0 one) ∙ ap (λ t. entry_matches header e || t) (any_matches order header entries o ps.1 one)

same_answer : (order header : List ℕ) (entries : List Entry) → IsOrder order → Prefixes entries → IsHeader header → answer_or (picked order header) (map (row_at order) entries) 0 ≡ answer entries header
same_answer order header [] o ps one = refl
same_answer order header (e ∷ entries) o ps one =
    ap (λ t. cond t e.decision (answer_or (picked order header) (map (row_at order) entries) 0)) (row-matches order header e o ps.0 one)
    ∙ ap (λ n. cond (entry_matches header e) e.decision n) (same_answer order header entries o ps.1 one)

kept_rows : (order : List ℕ) (entries : List Entry) (flags : List Bool) → kept_of (marked (map (row_at order) entries) flags) ≡ map (row_at order) (with_flags entries flags)
kept_rows order [] flags = refl
kept_rows order (e ∷ entries) [] = refl
kept_rows order (e ∷ entries) (true ∷ flags) = ap (λ rs. row_at order e ∷ rs) (kept_rows order entries flags)
kept_rows order (e ∷ entries) (false ∷ flags) = kept_rows order entries flags

flagged : (entries : List Entry) (flags : List Bool) → Prefixes entries → Prefixes (with_flags entries flags)
flagged [] flags ps = tt
flagged (e ∷ entries) [] ps = tt
flagged (e ∷ entries) (true ∷ flags) ps = (ps.0, flagged entries flags ps.1)
flagged (e ∷ entries) (false ∷ flags) ps = flagged entries flags ps.1

needed_by : (order values : List ℕ) (before later : List Entry) (e : Entry) → IsOrder order → Prefixes before → Prefixes later → IsPrefixInEach (word_of e.word) →
    IsFirst values (map (row_at order) before) (row_at order e) → (answer_or values (map (row_at order) later) 0 ≢ e.decision) →
    (header : List ℕ) × IsHeader header × (picked order header ≡ values) → IsNeeded before e later
needed_by order values before later e o pb pl pe first differ (header, is, same) = (
  header,
  (
    is,
    sym (any_matches order header before o pb is) ∙ ap (λ vs. list_any (matches vs) (map (row_at order) before)) same ∙ first.0,
    sym (row-matches order header e o pe is) ∙ ap (λ vs. matches vs (row_at order e)) same ∙ first.1,
  ),
  λ k. differ (ap (λ vs. answer_or vs (map (row_at order) later) 0) (sym same) ∙ same_answer order header later o pl is ∙ k),
)

needed : (order : List ℕ) (before later : List Entry) (e : Entry) → IsOrder order → Prefixes before → Prefixes later → IsPrefixInEach (word_of e.word) →
    IsRightMark order whole (map (row_at order) before) true (row_at order e) (map (row_at order) later) → IsNeeded before e later
needed order before later e o pb pl pe (c, values, meet, differ) = needed_by order values before later e o pb pl pe meet.3 differ (some_header order values o meet.1)

redundant : (order : List ℕ) (before later : List Entry) (e : Entry) → IsOrder order → Prefixes before → Prefixes later → IsPrefixInEach (word_of e.word) →
    IsRightMark order whole (map (row_at order) before) false (row_at order e) (map (row_at order) later) → IsRedundant before e later
redundant order before later e o pb pl pe right = λ header meet.
    sym (same_answer order header later o pl meet.0)
    ∙ right 0 (picked order header)
    (omega arith, picked_values order header (order_level order o) meet.0, refl, (any_matches order header before o pb meet.0 ∙ meet.1, row-matches order header e o pe meet.0 ∙ meet.2))

keep_step : (order : List ℕ) (before entries : List Entry) (e : Entry) (flag : Bool) (flags : List Bool) → IsOrder order → Prefixes before → Prefixes (with_flags entries flags) → IsPrefixInEach (word_of e.word) →
    IsRightMark order whole (map (row_at order) before) flag (row_at order e) (map (row_at order) (with_flags entries flags)) →
    Keeps (e ∷ before) entries (with_flags entries flags) → Keeps before (e ∷ entries) (cond flag (e ∷ with_flags entries flags) (with_flags entries flags))
keep_step order before entries e true flags o pb pl pe right k = (with_flags entries flags, k, inl (needed order before (with_flags entries flags) e o pb pl pe right, refl))
keep_step order before entries e false flags o pb pl pe right k = (with_flags entries flags, k, inr (redundant order before (with_flags entries flags) e o pb pl pe right, refl))

keeps : (order : List ℕ) (before entries : List Entry) (flags : List Bool) → IsOrder order → Prefixes before → Prefixes entries → length flags ≡ length entries →
    AreRightMarks order whole (map (row_at order) before) (marked (map (row_at order) entries) flags) → Keeps before entries (with_flags entries flags)
keeps order before [] flags o pb ps e h = refl
keeps order before (x ∷ entries) [] o pb ps e h = absurd (omega (arith, e))
keeps order before (x ∷ entries) (b ∷ flags) o pb ps e h =
    keep_step order before entries x b flags o pb (flagged entries flags ps.1) ps.0 (subst (λ rows. IsRightMark order whole (map (row_at order) before) b (row_at order x) rows) (kept_rows order entries flags) h.0)
    (keeps order (x ∷ before) entries flags o (ps.0, pb) ps.1 (omega (arith, e)) h.1)

-- the flagged entries are those that a pass keeps
pub chosen : (order : List ℕ) (entries : List Entry) (flags : List Bool) → IsOrder order → ArePrefixes entries → AreRightFlags order entries flags → Keeps [] entries (with_flags entries flags)
chosen order entries flags o ps f = keeps order [] entries flags o tt (prefixes entries ps) f.count f.right.each

-- flags that are right for the one pair of nodes that answers nothing and meets nothing
pub flags-of-pair : (nodes : List Node) (order : List ℕ) (pair : Context) (entries : List Entry) (flags : List Bool) (out : ℕ → List ℕ → ℕ) → length flags ≡ length entries →
    ((values : List ℕ) → AreValues order values → answer_of_node nodes pair.after.0 values ≡ 0) → ((values : List ℕ) → AreValues order values → answer_of_node nodes pair.met.0 values ≡ 0) →
    IsRight order (contexts_of nodes (pair ∷ [])) (marked (map (row_at order) entries) flags) out → AreRightFlags order entries flags
flags-of-pair nodes order pair entries flags out count after met right = record {
  count = count;
  out = out;
  right = same-contexts order whole (contexts_of nodes (pair ∷ [])) (marked (map (row_at order) entries) flags) out out refl
      (λ c less. let z : c ≡ 0 = omega (arith, less) in record {
        after = λ values ok. ap (λ k. answer_of_node nodes (context_at (pair ∷ []) k).after.0 values) z ∙ after values ok;
        met = λ values ok. ap (λ k. is_in nodes (context_at (pair ∷ []) k).met.0 values) z ∙ ap (λ n. not (n == 0)) (met values ok);
      })
      right (λ c less values ok. refl);
}

-- the row of the fields from the next level on, with the level's interval in front
pub row-in-front : (level : List ℕ) (e : Entry) → HasField level → row_at level e ≡ in_front (span_at (field_of level) e) (row_at (next level) e)
row-in-front [] e five = absurd five
row-in-front (f ∷ level) e five = refl

-- entries with one interval in the level's field
pub rows-behind : (level : List ℕ) (span : Interval) (entries : List Entry) → HasField level → HaveSpan (field_of level) span entries → map (row_at level) entries ≡ map (in_front span) (map (row_at (next level)) entries)
rows-behind level span [] five h = refl
rows-behind level span (e ∷ entries) five h = pair_up (row-in-front level e five ∙ ap (λ s. in_front s (row_at (next level) e)) (h 0 e (omega arith))) (rows-behind level span entries five (All-tail (λ (x : Entry). span_at (field_of level) x ≡ span) e entries h))
  where
    pair_up : {x y : Row} {xs ys : List Row} → x ≡ y → xs ≡ ys → x ∷ xs ≡ y ∷ ys
    pair_up p q = cc
