-- Covers by halves.
use Rattle.std.proofs.Common.{◌≡◌, ◌∷◌, ◌++◌, ◌∙◌, ℕ, ◌+◌, ◌-◌, ◌/◌, ◌%◌, ◌^◌, ◌<◌, ◌≤◌, List, [], Bool, true, IsTrue, Option, Some, None, MatchOption, min, ap, arith, bit_and, bit_or, bit_xor, inl, inr, refl, slice_get, subst, sym}
use Rattle.std.specs.Int.{bit_at}
use Rattle.std.specs.List.{position_or_len}
use Rattle.std.specs.Option.{option_map_or}
use Rattle.std.proofs.lemmas.Bool.{cases_lt}
use Rattle.std.proofs.lemmas.List.{append_assoc}
use Rattle.std.proofs.lemmas.Nat.{and_le_l, and_le_r}
use Rattle.std.proofs.lemmas.Nat.Bits.{bit_at_and, bit_at-lt, bit_at_ones, same_from_bits_below}
use Rattle.field_boxes.specs.Boxes.{LiesIn}
use Rattle.field_boxes.specs.declared.rule.Rule.{Rule}
use Rattle.ternary_words.specs.Word.{field_part, key_of}
use Rattle.ternary_words.specs.declared.entry.Entry.{Entry}
use Rattle.ternary_words.specs.declared.word.Word.{Word}
use Rattle.partition_check.specs.Claims.{entry_matches, rule_matches}
use Rattle.agreement_check.specs.declared.step.Step.{Step}
use Rattle.agreement_check.specs.declared.step.Step.TheVariants.{InRule, InEntry, Missed, Late, Halved}
use Rattle.agreement_check.specs.Covers.{AreCovered, Claim, IsCover, MeetsRuleAt, Shows, Sides}
use Rattle.word_cover.specs.Cubes.{Cube, HasBitsOf, IsOpen, all_headers, cube_of, one_half, zero_half}
use Rattle.agreement_check.specs.Cubes.{LiesInRule, MeetsRule, box}
use Rattle.agreement_check.proofs.First.{first-passes, none-before}
use Rattle.word_cover.proofs.Members.{IsMasked, masked-word, word-has}
use Rattle.agreement_check.proofs.Members.{has-box}
use Rattle.table_equiv.specs.Claimed.{Adds, IsAsked, HoldsOf, Serves}
use Rattle.table_equiv.specs.Cubes.{IsIn}
use Rattle.table_equiv.specs.Places.{SomeBefore, has_at}
use Rattle.table_equiv.proofs.Bits.{closed-bit, in-cube, one-inside, wider, zero-inside}
use Rattle.table_equiv.proofs.Keys.{same_five}

-- Steps.

-- a step that shows, whatever is claimed
pub shown-serves : (s : Sides) (c : Claim) (cube : Cube) (step : Step) → Shows s c cube step → Serves s c cube step
shown-serves s c cube (InRule k) h = λ holds. h
shown-serves s c cube (InEntry k) h = λ holds. h
shown-serves s c cube Missed h = λ holds. h
shown-serves s c cube Late h = λ holds. h
shown-serves s c cube (Halved bit) h = absurd h

shown_one : (s : Sides) (c : Claim) (cube : Cube) (step : Step) → ((bit : ℕ) → step ≡ Halved bit → ⊥) → Serves s c cube step → HoldsOf s c cube → Shows s c cube step
shown_one s c cube (InRule k) other h holds = h holds
shown_one s c cube (InEntry k) other h holds = h holds
shown_one s c cube Missed other h holds = h holds
shown_one s c cube Late other h holds = h holds
shown_one s c cube (Halved bit) other h holds = absurd (other bit refl)

shown_first : (s : Sides) (c : Claim) (cube : Cube) (step : Step) → Shows s c cube step → (cubes : List Cube) (more : List Step) → AreCovered s c cubes more → AreCovered s c (cube ∷ cubes) (step ∷ more)
shown_first s c cube (InRule k) h cubes more t = (h, t)
shown_first s c cube (InEntry k) h cubes more t = (h, t)
shown_first s c cube Missed h cubes more t = (h, t)
shown_first s c cube Late h cubes more t = (h, t)
shown_first s c cube (Halved bit) h cubes more t = absurd h

-- one that isn't halved
pub adds-one : (s : Sides) (c : Claim) (cube : Cube) (step : Step) (old new : List Step) → ((bit : ℕ) → step ≡ Halved bit → ⊥) → Serves s c cube step → new ≡ old ++ step ∷ [] → Adds s c cube old new
adds-one s c cube step old new other h e = record {
  steps = step ∷ [];
  put = e;
  cover = λ holds cubes more t. shown_first s c cube step (shown_one s c cube step other h holds) cubes more t;
}

joined : (old a b mid new : List Step) (step : Step) → mid ≡ (old ++ step ∷ []) ++ a → new ≡ mid ++ b → new ≡ old ++ (step ∷ (a ++ b))
joined old a b mid new step e f =
    f ∙ ap (λ xs. xs ++ b) (e ∙ append_assoc old (step ∷ []) a) ∙ append_assoc old (step ∷ a) b

-- one half after the other
adds-halves : (s : Sides) (c : Claim) (cube : Cube) (bit : ℕ) (old first mid new : List Step) → IsOpen cube bit → first ≡ old ++ Halved bit ∷ [] → Adds s c (zero_half cube bit) first mid →
    Adds s c (one_half cube bit) mid new → Adds s c cube old new
adds-halves s c cube bit old first mid new opened e a b = record {
  steps = Halved bit ∷ (a.steps ++ b.steps);
  put = joined old a.steps b.steps mid new (Halved bit) (a.put ∙ ap (λ xs. xs ++ a.steps) e) b.put;
  cover = λ holds cubes more t.
      let one = b.cover (λ h asked has. holds h asked (one-inside cube bit h opened.1 has)) cubes more t in
      let zero = a.cover (λ h asked has. holds h asked (zero-inside cube bit h has)) (one_half cube bit ∷ cubes) (b.steps ++ more) one in
      (opened, subst (AreCovered s c (zero_half cube bit ∷ one_half cube bit ∷ cubes)) (sym (append_assoc a.steps b.steps more)) zero);
}

-- the same, as the code knows it
pub adds-parts : (s : Sides) (c : Claim) (w zero one : Word) (step : Step) (bit : ℕ) (old first mid new : List Step) → step ≡ Halved bit → Serves s c (cube_of w) step → first ≡ old ++ step ∷ [] →
    cube_of zero ≡ zero_half (cube_of w) bit → cube_of one ≡ one_half (cube_of w) bit → Adds s c (cube_of zero) first mid → Adds s c (cube_of one) mid new → Adds s c (cube_of w) old new
adds-parts s c w zero one step bit old first mid new is served put ze oe a b =
    adds-halves s c (cube_of w) bit old first mid new (subst (Serves s c (cube_of w)) is served) (put ∙ ap (λ (x : Step). old ++ x ∷ []) is)
    (subst (λ (x : Cube). Adds s c x first mid) ze a) (subst (λ (x : Cube). Adds s c x mid new) oe b)

-- a half asks for more
pub served-wider : (s : Sides) (c : Claim) (cube : Cube) (step : Step) (bit mask : ℕ) → step ≡ Halved bit → Serves s c cube step → mask ≡ bit_or cube.mask (2 ^ bit) → cube.mask < mask
served-wider s c cube step bit mask is served e = let halved = subst (Serves s c cube) is served in rw e (wider cube.mask bit halved.1)

no_more : (steps : List Step) → steps ++ [] ≡ steps
no_more [] = refl
no_more (step ∷ steps) = ap (λ xs. step ∷ xs) (no_more steps)

-- of the whole
pub adds-cover : (s : Sides) (c : Claim) (steps : List Step) → Adds s c c.cube [] steps → HoldsOf s c c.cube → IsCover s c steps
adds-cover s c steps a holds = subst (IsCover s c) (no_more a.steps ∙ sym a.put) (a.cover holds [] [] tt)

-- Cubes of one header.

abbrev pub IsClosed : Cube → Type 0
IsClosed cube = (bit : ℕ) → IsOpen cube bit → ⊥

full_mask : (cube : Cube) → IsMasked cube → IsClosed cube → cube.mask ≡ 2 ^ 104 - 1
full_mask cube m closed =
    same_from_bits_below 104 cube.mask (2 ^ 104 - 1) m.narrow (omega arith) (λ i less. closed-bit cube closed i less ∙ sym (bit_at_ones 104 i less))

-- between the least value and the greatest one where these are the same
alone : (y g n x : ℕ) → n ≡ g → y ≤ x → x ≤ y + (g - n) → x ≡ y
alone y g n x e a b = omega (arith, e, a, b)

full_part : (l w m g : ℕ) → m ≡ 2 ^ 104 - 1 → (2 ^ 104 - 1) / 2 ^ l % 2 ^ w ≡ g → m / 2 ^ l % 2 ^ w ≡ g
full_part l w m g e f = ap (λ x. x / 2 ^ l % 2 ^ w) e ∙ f

abbrev parts_of : ℕ → List ℕ
parts_of key = field_part 0 key ∷ field_part 1 key ∷ field_part 2 key ∷ field_part 3 key ∷ field_part 4 key ∷ []

box_alone : (cube : Cube) → cube.mask ≡ 2 ^ 104 - 1 → (h : List ℕ) → LiesIn (box cube) h → h ≡ parts_of cube.value
box_alone cube full (a ∷ b ∷ c ∷ d ∷ e ∷ []) l =
    let k = cube.value in
    same_five a b c d e (field_part 0 k) (field_part 1 k) (field_part 2 k) (field_part 3 k) (field_part 4 k)
    (alone (field_part 0 k) (2 ^ 32 - 1) (field_part 0 cube.mask) a (full_part 72 32 cube.mask (2 ^ 32 - 1) full refl) l.0 l.1)
    (alone (field_part 1 k) (2 ^ 32 - 1) (field_part 1 cube.mask) b (full_part 40 32 cube.mask (2 ^ 32 - 1) full refl) l.2.0 l.2.1)
    (alone (field_part 2 k) (2 ^ 16 - 1) (field_part 2 cube.mask) c (full_part 24 16 cube.mask (2 ^ 16 - 1) full refl) l.2.2.0 l.2.2.1)
    (alone (field_part 3 k) (2 ^ 16 - 1) (field_part 3 cube.mask) d (full_part 8 16 cube.mask (2 ^ 16 - 1) full refl) l.2.2.2.0 l.2.2.2.1)
    (alone (field_part 4 k) (2 ^ 8 - 1) (field_part 4 cube.mask) e (full_part 0 8 cube.mask (2 ^ 8 - 1) full refl) l.2.2.2.2.0 l.2.2.2.2.1)
box_alone cube full h l = absurd assumption

-- so all that lies in its box is its header
one_header : (w : Word) (h : List ℕ) → IsClosed (cube_of w) → IsIn w h → (other : List ℕ) → LiesIn (box (cube_of w)) other → other ≡ h
one_header w h closed at other lies =
    let full = full_mask (cube_of w) (masked-word w) closed in
    box_alone (cube_of w) full other lies ∙ sym (box_alone (cube_of w) full h (has-box (cube_of w) h (masked-word w) at.is (in-cube w h at)))

abbrev pub IsAlone : Cube → List ℕ → Type 0
IsAlone cube h = (other : List ℕ) → LiesIn (box cube) other → other ≡ h

lies_at : (o : Option Rule) (cube : Cube) (h : List ℕ) → IsAlone cube h → option_map_or (rule_matches h) o true ≡ true → MatchOption o (Unit {0}) (λ r. LiesInRule r cube)
lies_at None cube h one t = tt
lies_at (Some r) cube h one t = λ other lies. subst (λ x. IsTrue (rule_matches x r)) (sym (one other lies)) t

meets_at : (o : Option Rule) (cube : Cube) (h : List ℕ) → IsAlone cube h → MatchOption o (Unit {0}) (λ r. MeetsRule r cube) → option_map_or (rule_matches h) o true ≡ true
meets_at None cube h one m = refl
meets_at (Some r) cube h one m = subst (λ x. rule_matches x r ≡ true) (one m.0 m.1) m.2

all_of : (x m : ℕ) → x < 2 → m ≡ 1 → min x m ≡ x
all_of x m a e = grind arith

full_and : (b m : ℕ) → b < 2 ^ 104 → ((i : ℕ) → i < 104 → bit_at m i ≡ 1) → bit_and b m ≡ b
full_and b m narrow full =
    let less = and_le_l b m in
    same_from_bits_below 104 (bit_and b m) b (omega (arith, less, narrow)) narrow (λ i within. bit_at_and b m i ∙ all_of (bit_at b i) (bit_at m i) (bit_at-lt b i) (full i within))

has_bits : (o : Option Entry) (w : Word) (h : List ℕ) → IsClosed (cube_of w) → IsIn w h → key_of h ≡ w.value → option_map_or (entry_matches h) o true ≡ true →
    HasBitsOf (cube_of w) (option_map_or (λ (e : Entry). cube_of e.word) o all_headers)
has_bits None w h closed at e t =
    let a = and_le_l 0 w.mask in
    let b = and_le_r (bit_xor w.value 0) 0 in (omega (arith, a), omega (arith, b))
has_bits (Some x) w h closed at e t = (
  full_and x.word.mask w.mask x.word.narrow (closed-bit (cube_of w) closed),
  subst (λ k. bit_and (bit_xor k x.word.value) x.word.mask ≡ 0) e (word-has h x.word at.is t),
)

-- no item before the first has it
not_later : {A : Type 0} (p : A → Bool) (xs : List A) (n : ℕ) → SomeBefore p xs n → position_or_len p xs < n
not_later p xs n some = elim (cases_lt some.place (position_or_len p xs)) [
  | inl less ↦ absurd (none-before p xs some.place less some.has)
  | inr more ↦ omega (arith, more, some.before)
]

-- the first rule of the header, if it may be named
pub last-rule : (s : Sides) (c : Claim) (w : Word) (h : List ℕ) (k : ℕ) → IsClosed (cube_of w) → IsIn w h → k ≡ position_or_len (rule_matches h) s.list.rules.items → k < c.rules →
    Shows s c (cube_of w) (InRule k)
last-rule s c w h k closed at e less =
    let t = subst (λ n. has_at (rule_matches h) s.list.rules.items n ≡ true) (sym e) (first-passes (rule_matches h) s.list.rules.items) in
    (less, lies_at (slice_get s.list.rules.items k) (cube_of w) h (one_header w h closed at) t)

-- else its first entry
pub last-entry : (s : Sides) (c : Claim) (w : Word) (h : List ℕ) (i j : ℕ) → IsClosed (cube_of w) → IsIn w h → key_of h ≡ w.value → w.value < s.bound → MeetsRuleAt s.list.rules.items c.of (cube_of w) →
    i ≡ position_or_len (rule_matches h) s.list.rules.items → c.rules ≤ i → j ≡ position_or_len (entry_matches h) s.table.entries.items → HoldsOf s c (cube_of w) →
    Shows s c (cube_of w) (InEntry j)
last-entry s c w h i j closed at key early meets ei late ej holds =
    let one = one_header w h closed at in
    let asked : IsAsked s c h = record { is = at.is; before = omega (arith, key, early); of = meets_at (slice_get s.list.rules.items c.of) (cube_of w) h one meets } in
    elim (holds h asked (in-cube w h at)) [
      | inl rule ↦ (let less = not_later (rule_matches h) s.list.rules.items c.rules rule in absurd (omega (arith, ei, late, less)))
      | inr entry ↦
          let less = not_later (entry_matches h) s.table.entries.items c.entries entry in
          let t = subst (λ n. has_at (entry_matches h) s.table.entries.items n ≡ true) (sym ej) (first-passes (entry_matches h) s.table.entries.items) in
          (omega (arith, ej, less), has_bits (slice_get s.table.entries.items j) w h closed at key t)
    ]
