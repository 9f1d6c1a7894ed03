-- Trees that grow: nodes are added behind all others.
use Rattle.std.proofs.Common.{◌≡◌, ℕ, zero, suc, ◌<◌, Bool, true, false, List, [], ◌∷◌, ◌++◌, Option, Some, None, length, append_assoc, ap, refl, sym, subst, ◌∙◌}
use Rattle.std.specs.Prelude.{slice_get, filter, if◌then◌else◌, Vec}
use Rattle.std.specs.Global.{Global}
use Rattle.field_boxes.specs.Headline.Bits.{bits}
use Rattle.ternary_words.specs.declared.entry.Entry.{Entry}
use Rattle.bank_index.specs.Bits.{bit_at, may_hit}
use Rattle.bank_index.specs.Hits.{first_of}
use Rattle.bank_index.specs.Tree.{IsGrown, IsTreeOf, LeadsIn, LeadsOn}
use Rattle.bank_index.specs.declared.node.Node.{Node}
use Rattle.bank_index.specs.declared.node.Node.TheVariants.{Leaf, Split, Whole}
use Rattle.bank_index.proofs.FirstHits.{first_on_side}

kept_place : {X : Type 0} (xs ys : List X) (i : ℕ) (x : X) → slice_get xs i ≡ Some x → slice_get (xs ++ ys) i ≡ Some x
kept_place [] ys i x h = cc
kept_place (y ∷ xs) ys zero x h = h
kept_place (y ∷ xs) ys (suc i) x h = kept_place xs ys i x h

last_place : {X : Type 0} (xs : List X) (y : X) → slice_get (xs ++ y ∷ []) (length xs) ≡ Some y
last_place [] y = refl
last_place (x ∷ xs) y = last_place xs y

-- a node that leads on, where what it leads to does
on_later : (Next Later : ℕ → Type 0) (entries : List Entry) (key : ℕ) (first : Option ℕ) (node : Node) → ((place : ℕ) → Next place → Later place) → LeadsOn Next entries key first (Some node) → LeadsOn Later entries key first (Some node)
on_later Next Later entries key first (Leaf slots) later h = h
on_later Next Later entries key first (Split bit zeros ones) later h = (h.0, later (if bit_at key bit then ones else zeros) h.1)
on_later Next Later entries key first Whole later h = tt

on_place : (Next Later : ℕ → Type 0) (nodes more : List Node) (entries : List Entry) (key : ℕ) (first : Option ℕ) (place : ℕ) (node : Option Node) → slice_get nodes place ≡ node → ((next : ℕ) → Next next → Later next) →
    LeadsOn Next entries key first node → LeadsOn Later entries key first (slice_get (nodes ++ more) place)
on_place Next Later nodes more entries key first place None e later h = absurd h
on_place Next Later nodes more entries key first place (Some node) e later h =
    subst (λ n. LeadsOn Later entries key first n) (sym (kept_place nodes more place node e)) (on_later Next Later entries key first node later h)

leads_later : (steps : ℕ) (nodes more : List Node) (entries : List Entry) (key : ℕ) (first : Option ℕ) (place : ℕ) → LeadsIn steps nodes entries key first place → LeadsIn steps (nodes ++ more) entries key first place
unfolding LeadsIn
leads_later zero nodes more entries key first place h = h
leads_later (suc steps) nodes more entries key first place h =
    on_place (LeadsIn steps nodes entries key first) (LeadsIn steps (nodes ++ more) entries key first) nodes more entries key first place (slice_get nodes place) refl
    (λ next k. leads_later steps nodes more entries key first next k) h

-- a tree stays one when nodes are added
tree_later : (steps : ℕ) (old new : List Node) (entries : List Entry) (slots : List ℕ) (place : ℕ) → (more : List Node) × (new ≡ old ++ more) → IsTreeOf steps old entries slots place → IsTreeOf steps new entries slots place
tree_later steps old new entries slots place gained tree key =
    subst (λ nodes. LeadsIn steps nodes entries key (first_of entries (bits 104 key) slots) place) (sym gained.1) (leads_later steps old gained.0 entries key (first_of entries (bits 104 key) slots) place (tree key))

twice : (a b c : List Node) → (more : List Node) × (b ≡ a ++ more) → (more : List Node) × (c ≡ b ++ more) → (more : List Node) × (c ≡ a ++ more)
twice a b c g h = (g.0 ++ h.0, h.1 ∙ ap (λ nodes. nodes ++ h.0) g.1 ∙ append_assoc a g.0 h.0)

at_place : (old new : List Node) (node : Node) (place : ℕ) → place ≡ length old → new ≡ old ++ node ∷ [] → slice_get new place ≡ Some node
at_place old new node place p e = ap (λ nodes. slice_get nodes place) e ∙ ap (slice_get (old ++ node ∷ [])) p ∙ last_place old node

leads_from : (steps : ℕ) (nodes : List Node) (entries : List Entry) (key : ℕ) (first : Option ℕ) (place : ℕ) (node : Node) → slice_get nodes place ≡ Some node →
    LeadsOn (LeadsIn steps nodes entries key first) entries key first (Some node) → LeadsIn (suc steps) nodes entries key first place
unfolding LeadsIn
leads_from steps nodes entries key first place node e h = subst (λ n. LeadsOn (LeadsIn steps nodes entries key first) entries key first n) (sym e) h

pub leaf_grown : (steps : ℕ) (old new : List Node) (entries : List Entry) (slots : Vec ℕ Global) (place : ℕ) → place ≡ length old → new ≡ old ++ Leaf slots ∷ [] → IsGrown (suc steps) old new entries slots.items place
leaf_grown steps old new entries slots place p e = record {
  gained = (Leaf slots ∷ [], e);
  tree = λ key. leads_from steps new entries key (first_of entries (bits 104 key) slots.items) place (Leaf slots) (at_place old new (Leaf slots) place p e) refl;
}

pub whole_grown : (steps : ℕ) (old new : List Node) (entries : List Entry) (slots : List ℕ) (place : ℕ) → place ≡ length old → new ≡ old ++ Whole ∷ [] → IsGrown (suc steps) old new entries slots place
whole_grown steps old new entries slots place p e = record {
  gained = (Whole ∷ [], e);
  tree = λ key. leads_from steps new entries key (first_of entries (bits 104 key) slots) place Whole (at_place old new Whole place p e) tt;
}

-- a side's first hit is that of all slots, for a key with this bit
side_first : (entries : List Entry) (slots part : List ℕ) (key bit : ℕ) (one : Bool) → bit < 104 → bit_at key bit ≡ one → part ≡ filter (may_hit entries bit one) slots → first_of entries (bits 104 key) part ≡ first_of entries (bits 104 key) slots
side_first entries slots part key bit one within e parted =
    ap (first_of entries (bits 104 key)) parted ∙ ap (λ t. first_of entries (bits 104 key) (filter (may_hit entries bit t) slots)) (sym e) ∙ first_on_side entries slots key bit within

led : (steps : ℕ) (nodes : List Node) (entries : List Entry) (slots zeros ones : List ℕ) (key bit left_at right_at : ℕ) (one : Bool) → bit < 104 → bit_at key bit ≡ one →
    zeros ≡ filter (may_hit entries bit false) slots → ones ≡ filter (may_hit entries bit true) slots → IsTreeOf steps nodes entries zeros left_at → IsTreeOf steps nodes entries ones right_at →
    LeadsIn steps nodes entries key (first_of entries (bits 104 key) slots) (if one then right_at else left_at)
led steps nodes entries slots zeros ones key bit left_at right_at true within e z o zero_tree one_tree =
    subst (λ first. LeadsIn steps nodes entries key first right_at) (side_first entries slots ones key bit true within e o) (one_tree key)
led steps nodes entries slots zeros ones key bit left_at right_at false within e z o zero_tree one_tree =
    subst (λ first. LeadsIn steps nodes entries key first left_at) (side_first entries slots zeros key bit false within e z) (zero_tree key)

-- two trees, one after the other, and a node that leads to both
pub split_grown : (steps : ℕ) (first second third last : List Node) (entries : List Entry) (slots zeros ones : List ℕ) (bit left_at right_at place : ℕ) → bit < 104 →
    zeros ≡ filter (may_hit entries bit false) slots → ones ≡ filter (may_hit entries bit true) slots →
    IsGrown steps first second entries zeros left_at → IsGrown steps second third entries ones right_at → place ≡ length third → last ≡ third ++ Split bit left_at right_at ∷ [] →
    IsGrown (suc steps) first last entries slots place
split_grown steps first second third last entries slots zeros ones bit left_at right_at place within z o zero_grown one_grown p e =
    let node = Split bit left_at right_at in
    let ended : (more : List Node) × (last ≡ third ++ more) = (node ∷ [], e) in
    let zero_tree : IsTreeOf steps last entries zeros left_at = tree_later steps second last entries zeros left_at (twice second third last one_grown.gained ended) zero_grown.tree in
    let one_tree : IsTreeOf steps last entries ones right_at = tree_later steps third last entries ones right_at ended one_grown.tree in
    record {
      gained = twice first third last (twice first second third zero_grown.gained one_grown.gained) ended;
      tree = λ key. leads_from steps last entries key (first_of entries (bits 104 key) slots) place node (at_place third last node place p e)
          (within, led steps last entries slots zeros ones key bit left_at right_at (bit_at key bit) within refl z o zero_tree one_tree);
    }
