-- What the entries of a whole table say.
use Rattle.std.proofs.Common.{◌≡◌, ◌∷◌, ◌++◌, ℕ, List, [], Bool, true, false, length, ap, refl, sym, ◌∙◌, subst}
use Rattle.std.proofs.lemmas.Slice.Zip.{AllZip-long}
use Rattle.std.specs.Prelude.{cond, find, Option, Some, option_map, slice_index}
use Rattle.std.specs.List.{All, AllZip}
use Rattle.std.proofs.lemmas.List.Elements.{All-nil, All-cons, All-head, All-tail}
use Rattle.field_boxes.specs.declared.prefix.Prefix.{Prefix}
use Rattle.node_store.specs.Levels.{IsLevel}
use Rattle.field_boxes.specs.Headline.Fields.{IsHeader}
use Rattle.ternary_words.specs.declared.entry.Entry.{Entry}
use Rattle.ternary_words.specs.Headline.Word.{agrees, header_bits}
use Rattle.ternary_words.specs.Prefixes.{all_hold}
use Rattle.ternary_words.specs.Views.{word_of}
use Rattle.node_store.specs.Diagram.{Node, level_of, answer}
use Rattle.node_store.specs.Store.{IsStore}
use Rattle.prefix_min.specs.declared.row.PrefixRow.{PrefixRow}
use Rattle.table_compose.specs.Composed.{Box, boxes, HaveCosts, HaveLists, IsPlaced, placed, open_all, Gains, IsPrefixWord, decided}
use Rattle.field_boxes.specs.Orders.{picked, AreDistinct}
use Rattle.table_compose.proofs.Placing.{box_at}
use Rattle.node_store.proofs.Orders.{picked_values}
use Rattle.table_compose.proofs.Boxes.{prefix_count, count, decide_by, first_of}

entry_step : (t u : Bool) (e : Entry) (b : Box) (o : Option Entry) (p : Option Box) → t ≡ u → e.decision ≡ b.decision →
    option_map (λ x. x.decision) o ≡ option_map (λ x. x.decision) p → option_map (λ x. x.decision) (cond t (Some e) o) ≡ option_map (λ x. x.decision) (cond u (Some b) p)
entry_step true true e b o p same is h = ap Some is
entry_step false false e b o p same is h = h
entry_step true false e b o p same is h = cc
entry_step false true e b o p same is h = cc

-- the first entry that matches a header is that of the first box that holds its values
decided_box : (level header : List ℕ) → IsLevel level → AreDistinct level → IsHeader header → (bs : List Box) (es : List Entry) → All (λ b. length b.prefixes ≡ length level) bs →
    AllZip (IsPlaced level open_all) bs es → decided es header ≡ first_of (λ b. all_hold level b.prefixes (picked level header)) bs
decided_box level header is apart ok [] [] all z = refl
decided_box level header is apart ok [] (e ∷ es) all z = absurd z
decided_box level header is apart ok (b ∷ bs) [] all z = absurd z
decided_box level header is apart ok (b ∷ bs) (e ∷ es) all z =
    let values = picked level header in
    entry_step (agrees (word_of e.word) (header_bits header)) (all_hold level b.prefixes values) e b (find (λ x. agrees (word_of x.word) (header_bits header)) es) (find (λ x. all_hold level x.prefixes values) bs)
    (z.0.0.holds header ok ∙ box_at level b.prefixes header is apart ok (All-head (λ x. length x.prefixes ≡ length level) b bs all)) z.0.1
    (decided_box level header is apart ok bs es (All-tail (λ x. length x.prefixes ≡ length level) b bs all) z.1)

pub prefix_words : (level : List ℕ) (bs : List Box) (es : List Entry) → AllZip (IsPlaced level open_all) bs es → All (λ e. IsPrefixWord e.word) es
prefix_words level [] [] z = All-nil (λ e. IsPrefixWord e.word)
prefix_words level [] (e ∷ es) z = absurd z
prefix_words level (b ∷ bs) [] z = absurd z
prefix_words level (b ∷ bs) (e ∷ es) z = All-cons (λ x. IsPrefixWord x.word) e es (placed level open_all b.prefixes, z.0.0) (prefix_words level bs es z.1)

-- as many entries as the diagram costs
pub counted : (nodes : List Node) (fields : List ℕ) (root : ℕ) (costs : List ℕ) (lists : ℕ → List PrefixRow) (es : List Entry) → HaveCosts nodes lists costs fields root →
    AllZip (IsPlaced fields open_all) (boxes nodes lists fields root) es → length es ≡ slice_index costs root
counted nodes fields root costs lists es have z = AllZip-long (IsPlaced fields open_all) (boxes nodes lists fields root) es z ∙ count nodes lists costs fields root have

-- the first entry that matches a header has the diagram's answer
pub answers : (nodes : List Node) (fields : List ℕ) (root : ℕ) (lists : ℕ → List PrefixRow) (es : List Entry) → IsStore nodes → IsLevel fields → AreDistinct fields → level_of nodes root ≡ fields → HaveLists nodes lists fields root →
    AllZip (IsPlaced fields open_all) (boxes nodes lists fields root) es → (header : List ℕ) → IsHeader header → decided es header ≡ Some (answer nodes root (picked fields header))
answers nodes fields root lists es s is apart level have z header ok =
    decided_box fields header is apart ok (boxes nodes lists fields root) es (prefix_count nodes lists fields root) z
    ∙ decide_by nodes lists s fields root is level have (picked fields header) (picked_values fields header is ok)

-- what was added to no entries
pub from_none : (fields : List ℕ) (base : List Prefix) (old new : List Entry) (bs : List Box) → old ≡ [] → Gains fields base old new bs → AllZip (IsPlaced fields base) bs new
from_none fields base old new bs none g = subst (λ es. AllZip (IsPlaced fields base) bs es) (sym (g.1 ∙ ap (λ xs. xs ++ g.0) none)) g.2
