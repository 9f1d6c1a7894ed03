-- The entries that were read so far, and one more.
use Rattle.std.proofs.Common.{◌≡◌, ◌∷◌, ◌++◌, ℕ, ◌+◌, ◌≤◌, List, [], Option, Some, None, map, length, refl, ap, sym, ◌∙◌, arith, length-append, bytes_eq}
use Rattle.std.proofs.lemmas.Bool.{cond_both}
use Rattle.std.specs.List.{AllByRecursion, list_any}
use Rattle.std.proofs.lemmas.List.{map-append}
use Rattle.std.proofs.lemmas.List.Elements.{All-push, recursion_from_All}
use Rattle.std.proofs.lemmas.List.Sums.{fold-append}
use Rattle.field_boxes.specs.Names.{name_at}
use Rattle.ternary_words.specs.Headline.Table.{Entry}
use Rattle.ternary_words.specs.declared.entry.Entry as code_entry
use Rattle.ternary_words.specs.Limits.{AreNumbered}
use Rattle.ternary_words.specs.Views.{word_of, entry_of}
use Rattle.table_text.specs.Seen.{names_seen, with_decided}

-- the first names keep their numbers
abbrev pub KeepsNames : List (List ℕ) → List (List ℕ) → Type 0
KeepsNames old new = (k : ℕ) → k ≤ length old → name_at new k ≡ name_at old k

abbrev IsUpTo : ℕ → code_entry.Entry → Type 0
IsUpTo count e = e.decision ≤ count

same_entries : (old new : List (List ℕ)) → KeepsNames old new → (entries : List code_entry.Entry) → AllByRecursion (IsUpTo (length old)) entries → map (entry_of new) entries ≡ map (entry_of old) entries
same_entries old new keeps [] h = refl
same_entries old new keeps (e ∷ entries) h =
    ap (λ (o : Option (List ℕ)). record { word = word_of e.word; decision = o } ∷ map (entry_of new) entries) (keeps e.decision h.0)
    ∙ ap (λ es. entry_of old e ∷ es) (same_entries old new keeps entries h.1)

-- an entry behind those that were read, with its decision among the names
pub pushed_entries : (old new : List (List ℕ)) (entries : List code_entry.Entry) (e : code_entry.Entry) (d : Option (List ℕ)) → AreNumbered (length old) entries → KeepsNames old new → name_at new e.decision ≡ d →
    map (entry_of new) (entries ++ e ∷ []) ≡ map (entry_of old) entries ++ record { word = word_of e.word; decision = d } ∷ []
pushed_entries old new entries e d numbered keeps at =
    map-append (entry_of new) entries (e ∷ [])
    ∙ ap (λ es. es ++ entry_of new e ∷ []) (same_entries old new keeps entries (recursion_from_All (IsUpTo (length old)) entries numbered))
    ∙ ap (λ (o : Option (List ℕ)). map (entry_of old) entries ++ record { word = word_of e.word; decision = o } ∷ []) at

-- the names seen so far, and that of one more entry
pub pushed_seen : (old new : List (List ℕ)) (entries : List code_entry.Entry) (e : code_entry.Entry) (d : Option (List ℕ)) → AreNumbered (length old) entries → KeepsNames old new → name_at new e.decision ≡ d →
    new ≡ with_decided old d → names_seen (map (entry_of old) entries) ≡ old → names_seen (map (entry_of new) (entries ++ e ∷ [])) ≡ new
pushed_seen old new entries e d numbered keeps at is seen =
    let one : Entry = record { word = word_of e.word; decision = d } in
    ap names_seen (pushed_entries old new entries e d numbered keeps at)
    ∙ fold-append (λ (names : List (List ℕ)) (x : Entry). with_decided names x.decision) [] (map (entry_of old) entries) (one ∷ [])
    ∙ ap (λ names. with_decided names d) seen ∙ sym is

pub decided_length : (names : List (List ℕ)) (d : Option (List ℕ)) → (length names ≤ length (with_decided names d)) × (length (with_decided names d) ≤ length names + 1)
decided_length names None = (omega arith, omega arith)
decided_length names (Some name) =
    cond_both (list_any (bytes_eq name) names) names (names ++ name ∷ []) (λ new. (length names ≤ length new) × (length new ≤ length names + 1)) (λ e. (omega arith, omega arith))
    (λ e. (omega (arith, length-append names (name ∷ [])), omega (arith, length-append names (name ∷ []))))

pub numbered_more : (n m : ℕ) (entries : List code_entry.Entry) (e : code_entry.Entry) → n ≤ m → AreNumbered n entries → e.decision ≤ m → AreNumbered m (entries ++ e ∷ [])
numbered_more n m entries e le h last = All-push (IsUpTo m) entries e (λ k d lt. let here = h k d lt in omega arith) last
