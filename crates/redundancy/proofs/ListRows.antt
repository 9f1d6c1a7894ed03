-- The rows of lists.
use Rattle.std.proofs.Common.{◌≡◌, ◌∷◌, ◌++◌, ◌⊎◌, ℕ, zero, suc, List, [], ◌+◌, ◌<◌, ◌≤◌, length, refl, ap, arith, sym, ◌∙◌, subst, inl, inr}
use Rattle.node_store.proofs.Growth.{kept_place, last_place}
use Rattle.std.specs.Prelude.{Option, Some, None, slice_get, map}
use Rattle.std.proofs.lemmas.Bool.{cases_lt}
use Rattle.std.proofs.Math.ListN.{set}
use Rattle.std.proofs.lemmas.List.{length-append, length-set, append-nil}
use Rattle.std.proofs.lemmas.Option.{slice_get_within, same_Some}
use Rattle.redundancy_laws.specs.Rows.{Row, in_front}
use Rattle.redundancy.specs.declared.blocks.Blocks.{Blocks}
use Rattle.redundancy.specs.declared.blocks.lists.Item.{Item}
use Rattle.redundancy.specs.declared.blocks.lists.Item.TheVariants.{Last, Behind}
use Rattle.redundancy.specs.declared.blocks.lists.Link.{Link}
use Rattle.redundancy.specs.declared.blocks.lists.Lists.{Lists}
use Rattle.redundancy.specs.Blocks.{rows_of}
use Rattle.redundancy.specs.Lists.{AreLinks, AreKnownLists, AreLists, FitsItem, IsBefore, IsListed, ListsGrow, enough, interval_of_run, item_rows, link_rows_by, list_rows, list_within}

before_enough : (most : ℕ) (list : Option ℕ) → IsBefore most list → enough list ≤ most
before_enough most None h = omega arith
before_enough most (Some place) h = omega (arith, h)

pub before_more : (a b : ℕ) (list : Option ℕ) → a ≤ b → IsBefore a list → IsBefore b list
before_more a b None le h = tt
before_more a b (Some place) le h = omega (arith, le, h)

pub fits_more : (a b : ℕ) (item : Item) → a ≤ b → FitsItem a item → FitsItem b item
fits_more a b (Last decision) le f = tt
fits_more a b (Behind piece) le f = omega (arith, le, f)

none_within : (rows : ℕ → List Row) (n : ℕ) (links : List Link) → list_within rows n links None ≡ []
none_within rows zero links = refl
none_within rows (suc n) links = refl

-- the rows of blocks, as far as lists have them
abbrev pub AgreeTo : ℕ → (ℕ → List Row) → (ℕ → List Row) → Type 0
AgreeTo most rows others = (k : ℕ) → k < most → others k ≡ rows k

items_agree : (most : ℕ) (rows others : ℕ → List Row) (item : Item) → AgreeTo most rows others → FitsItem most item → item_rows others item ≡ item_rows rows item
items_agree most rows others (Last decision) agree f = refl
items_agree most rows others (Behind piece) agree f = ap (map (in_front (interval_of_run piece))) (agree piece.block f)

-- rows don't depend on how often lists may lead on, nor on later links, nor on later blocks
module _ (most : ℕ) (rows others : ℕ → List Row) (links more : List Link) (leads : AreLinks most links) (agree : AgreeTo most rows others) where
  abbrev Same : ℕ → ℕ → Option ℕ → Type 0
  Same m n list = list_within others m (links ++ more) list ≡ list_within rows n links list

  by_link : (m n place : ℕ) (link : Option Link) → slice_get links place ≡ link → ((list : Option ℕ) → IsBefore place list → Same m n list) →
      link_rows_by others (list_within others m (links ++ more)) link ≡ link_rows_by rows (list_within rows n links) link
  by_link m n place None e h = refl
  by_link m n place (Some link) e h =
      let f = leads place link e in
      ap (λ (rs : List Row). rs ++ item_rows others link.item) (h link.before f.0)
      ∙ ap (λ (rs : List Row). list_within rows n links link.before ++ rs) (items_agree most rows others link.item agree f.1)

  same : (m n : ℕ) (list : Option ℕ) → enough list ≤ m → enough list ≤ n → IsBefore (length links) list → Same m n list
  same m n None lm ln l = none_within others m (links ++ more) ∙ sym (none_within rows n links)
  same zero n (Some place) lm ln l = absurd (omega (arith, lm))
  same (suc m) zero (Some place) lm ln l = absurd (omega (arith, ln))
  same (suc m) (suc n) (Some place) lm ln l =
      ap (link_rows_by others (list_within others m (links ++ more))) (kept_place links more place l)
      ∙ by_link m n place (slice_get links place) refl
      (λ list b. same m n list (omega (arith, lm, before_enough place list b)) (omega (arith, ln, before_enough place list b)) (before_more place (length links) list (omega (arith, l)) b))

  -- later links and blocks change no rows
  pub rows_stay : (list : Option ℕ) → IsBefore (length links) list → list_rows others (links ++ more) list ≡ list_rows rows links list
  unfolding list_rows
  rows_stay list l = same (enough list) (enough list) list (omega arith) (omega arith) l

agree_self : (most : ℕ) (rows : ℕ → List Row) → AgreeTo most rows rows
agree_self most rows k less = refl

-- more often than enough changes nothing
often : (most : ℕ) (rows : ℕ → List Row) (links : List Link) → AreLinks most links → (n : ℕ) (list : Option ℕ) → enough list ≤ n → IsBefore (length links) list → list_within rows n links list ≡ list_rows rows links list
unfolding list_rows
often most rows links leads n list le l =
    subst (λ ks. list_within rows n ks list ≡ list_within rows (enough list) links list) (append-nil links) (same most rows rows links [] leads (agree_self most rows) n (enough list) list le (omega arith) l)

by_place : (rows : ℕ → List Row) (links : List Link) (place : ℕ) (link : Link) → slice_get links place ≡ Some link → list_rows rows links (Some place) ≡ link_rows_by rows (list_within rows place links) (Some link)
unfolding list_rows
by_place rows links place link e = ap (link_rows_by rows (list_within rows place links)) e

-- the rows of a list, by its last link
pub last_link : (most : ℕ) (rows : ℕ → List Row) (links : List Link) → AreLinks most links → (place : ℕ) (link : Link) → slice_get links place ≡ Some link →
    list_rows rows links (Some place) ≡ list_rows rows links link.before ++ item_rows rows link.item
last_link most rows links leads place link e =
    let f = leads place link e in
    let w = slice_get_within links place link e in
    by_place rows links place link e
    ∙ ap (λ (rs : List Row). rs ++ item_rows rows link.item)
    (often most rows links leads place link.before (before_enough place link.before f.0) (before_more place (length links) link.before (omega (arith, w)) f.0))

pub some_known : (a b : ℕ) → Some (Some a) ≡ Some (Some b) → a ≡ b
some_known a b h = cc

place_cases : {X : Type 0} (xs : List X) (y : X) (k : ℕ) (x : X) → slice_get (xs ++ y ∷ []) k ≡ Some x → ((k < length xs) × (slice_get xs k ≡ Some x)) ⊎ ((k ≡ length xs) × (Some x ≡ Some y))
place_cases xs y k x e = elim (cases_lt k (length xs)) [
  | inl less ↦ inl (less, sym (kept_place xs (y ∷ []) k less) ∙ e)
  | inr le ↦
      let w = slice_get_within (xs ++ y ∷ []) k x e in
      let is : k ≡ length xs = omega (arith, w, le, length-append xs (y ∷ [])) in
      inr (is, sym e ∙ ap (slice_get (xs ++ y ∷ [])) is ∙ last_place xs y)
]

-- a link more
links_more : (most : ℕ) (links : List Link) (link : Link) → AreLinks most links → IsBefore (length links) link.before → FitsItem most link.item → AreLinks most (links ++ link ∷ [])
links_more most links link leads before item place l e = elim (place_cases links link place l e) [
  | inl old ↦ leads place l old.1
  | inr new ↦ subst (λ (k : Link). IsBefore place k.before × FitsItem most k.item) (sym (same_Some l link new.1)) (before_more (length links) place link.before (omega (arith, new.0)) before, item)
]

none_some : (number : ℕ) (X : Type 0) → Some (Some number) ≡ Some None → X
none_some number X h = absurd (cc)

known_more : (rows : ℕ → List Row) (most : ℕ) (links : List Link) (link : Link) (known : List (Option ℕ)) → AreLinks most links → length known ≡ length links → AreKnownLists rows most links known →
    AreKnownLists rows most (links ++ link ∷ []) (known ++ None ∷ [])
known_more rows most links link known leads count h place number e = elim (place_cases known None place (Some number) e) [
  | inl old ↦
      let k = h place number old.1 in
      (k.0, k.1 ∙ sym (rows_stay most rows rows links (link ∷ []) leads (agree_self most rows) (Some place) (omega (arith, old.0, count))))
  | inr new ↦ none_some number ((number < most) × (rows number ≡ list_rows rows (links ++ link ∷ []) (Some place))) new.1
]

module _ (blocks : Blocks) (old new : Lists) (link : Link) (place : ℕ) (lists : AreLists blocks old) (before : IsBefore (length old.links.keys) link.before)
    (item : FitsItem (length blocks.blocks.items) link.item) (found : slice_get new.links.keys place ≡ Some link) where
  abbrev most : ℕ
  most = length blocks.blocks.items

  abbrev rows : ℕ → List Row
  rows = rows_of blocks.blocks.items

  -- the list was there
  pub with_known : new.links.keys ≡ old.links.keys → new.known.items ≡ old.known.items → IsListed blocks old new (list_rows rows old.links.keys link.before ++ item_rows rows link.item) (Some place)
  with_known e k = record {
    lists = record {
      links = subst (AreLinks most) (sym e) lists.links;
      count = ap length k ∙ lists.count ∙ ap length (sym e);
      known = subst (λ ks. AreKnownLists rows most ks new.known.items) (sym e) (subst (AreKnownLists rows most old.links.keys) (sym k) lists.known);
    };
    count = omega (arith, ap length e);
    stay = λ other b. ap (λ ks. list_rows rows ks other) e;
    within = slice_get_within new.links.keys place link found;
    rows_are = last_link most rows new.links.keys (subst (AreLinks most) (sym e) lists.links) place link found ∙ ap (λ ks. list_rows rows ks link.before ++ item_rows rows link.item) e;
  }

  -- the list was added
  pub with_added : new.links.keys ≡ old.links.keys ++ link ∷ [] → new.known.items ≡ old.known.items ++ None ∷ [] → IsListed blocks old new (list_rows rows old.links.keys link.before ++ item_rows rows link.item) (Some place)
  with_added e k =
      let more : AreLinks most (old.links.keys ++ link ∷ []) = links_more most old.links.keys link lists.links before item in
      let stays = rows_stay most rows rows old.links.keys (link ∷ []) lists.links (agree_self most rows) in record {
        lists = record {
          links = subst (AreLinks most) (sym e) more;
          count = ap length k ∙ length-append old.known.items (None ∷ []) ∙ ap (λ n. n + 1) lists.count ∙ sym (ap length e ∙ length-append old.links.keys (link ∷ []));
          known = subst (λ ks. AreKnownLists rows most ks new.known.items) (sym e) (subst (AreKnownLists rows most (old.links.keys ++ link ∷ [])) (sym k) (known_more rows most old.links.keys link old.known.items lists.links lists.count lists.known));
        };
        count = omega (arith, ap length e, length-append old.links.keys (link ∷ []));
        stay = λ other b. ap (λ ks. list_rows rows ks other) e ∙ stays other b;
        within = slice_get_within new.links.keys place link found;
        rows_are = last_link most rows new.links.keys (subst (AreLinks most) (sym e) more) place link found
            ∙ ap (λ ks. list_rows rows ks link.before ++ item_rows rows link.item) e ∙ ap (λ (rs : List Row). rs ++ item_rows rows link.item) (stays link.before before);
      }

-- no row yet
pub none_listed : (blocks : Blocks) (lists : Lists) → AreLists blocks lists → IsListed blocks lists lists [] None
unfolding list_rows
none_listed blocks lists h = record { lists = h; count = omega arith; stay = λ other b. refl; within = tt; rows_are = refl }

pub set_cases : {X : Type 0} (xs : List X) (i : ℕ) (y : X) (k : ℕ) (x : X) → slice_get (set xs i y) k ≡ Some x → (slice_get xs k ≡ Some x) ⊎ ((k ≡ i) × (Some x ≡ Some y))
set_cases [] i y k x e = inl e
set_cases (z ∷ xs) zero y zero x e = inr (refl, sym e)
set_cases (z ∷ xs) zero y (suc k) x e = inl e
set_cases (z ∷ xs) (suc i) y zero x e = inl e
set_cases (z ∷ xs) (suc i) y (suc k) x e = elim (set_cases xs i y k x e) [ inl old ↦ inl old | inr new ↦ inr (ap suc new.0, new.1) ]

-- what is kept of a list
pub kept : (blocks : Blocks) (old new : Lists) (place number : ℕ) → AreLists blocks old → number < length blocks.blocks.items →
    rows_of blocks.blocks.items number ≡ list_rows (rows_of blocks.blocks.items) old.links.keys (Some place) → new.links.keys ≡ old.links.keys → new.known.items ≡ set old.known.items place (Some number) → ListsGrow blocks blocks old new
kept blocks old new place number h within rows e k = record {
  lists = lists;
  count = omega (arith, ap length e);
  stay = λ other b. ap (λ ks. list_rows (rows_of blocks.blocks.items) ks other) e;
}
  where
    all : AreKnownLists (rows_of blocks.blocks.items) (length blocks.blocks.items) old.links.keys (set old.known.items place (Some number))
    all other found s = elim (set_cases old.known.items place (Some number) other (Some found) s) [
      | inl before ↦ h.known other found before
      | inr new ↦
          let same : found ≡ number = some_known found number new.1 in
          subst (λ n. (n < length blocks.blocks.items) × (rows_of blocks.blocks.items n ≡ list_rows (rows_of blocks.blocks.items) old.links.keys (Some other))) (sym same)
          (within, rows ∙ ap (λ p. list_rows (rows_of blocks.blocks.items) old.links.keys (Some p)) (sym new.0))
    ]

    lists : AreLists blocks new
    lists = record {
      links = subst (AreLinks (length blocks.blocks.items)) (sym e) h.links;
      count = ap length k ∙ length-set old.known.items place (Some number) ∙ h.count ∙ sym (ap length e);
      known = subst (λ ks. AreKnownLists (rows_of blocks.blocks.items) (length blocks.blocks.items) ks new.known.items) (sym e)
          (subst (AreKnownLists (rows_of blocks.blocks.items) (length blocks.blocks.items) old.links.keys) (sym k) all);
    }

-- other blocks change no rows
pub rows_agree : (most : ℕ) (rows others : ℕ → List Row) (links : List Link) → AreLinks most links → AgreeTo most rows others → (list : Option ℕ) → IsBefore (length links) list →
    list_rows others links list ≡ list_rows rows links list
rows_agree most rows others links leads agree list l = subst (λ ks. list_rows others ks list ≡ list_rows rows links list) (append-nil links) (rows_stay most rows others links [] leads agree list l)
