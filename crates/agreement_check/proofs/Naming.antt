-- A cover that holds names a rule or an entry that has the header.
use Rattle.std.proofs.Common.{◌≡◌, ◌⊎◌, ◌∷◌, ℕ, suc, ◌<◌, ◌≤◌, List, [], true, Option, Some, None, MatchOption, arith, inl, inr, refl, slice_get, sym, ◌∙◌}
use Rattle.std.proofs.Math.Nat.{le-max_left, le-max_right}
use Rattle.std.specs.Option.{option_map_or}
use Rattle.std.proofs.lemmas.Bool.{false≢true}
use Rattle.field_boxes.specs.declared.rule.Rule.{Rule}
use Rattle.field_boxes.specs.Boxes.{LiesIn}
use Rattle.field_boxes.specs.Headline.Fields.{IsHeader}
use Rattle.ternary_words.specs.declared.entry.Entry.{Entry}
use Rattle.ternary_words.specs.Word.{key_of}
use Rattle.partition_check.specs.Claims.{entry_matches, rule_matches}
use Rattle.agreement_check.specs.declared.step.Step.{Step}
use Rattle.agreement_check.specs.declared.step.Step.TheVariants.{InRule, InEntry, Missed, Late, Halved}
use Rattle.agreement_check.specs.Covers.{Sides, Claim, AreCovered, IsCover, entries_named, rules_named}
use Rattle.word_cover.specs.Cubes.{Cube, HasBitsOf, all_headers, cube_of, one_half, zero_half}
use Rattle.agreement_check.specs.Cubes.{LiesInRule, MissesRule, box}
use Rattle.agreement_check.proofs.First.{passes_at}
use Rattle.word_cover.proofs.Members.{Has, IsMasked, has-bits, has-halves, has-word, masked-one, masked-zero}
use Rattle.agreement_check.proofs.Members.{has-box, least-key}

-- a rule before this place has the header, and an entry
pub record HasRule (s : Sides) (h : List ℕ) (n : ℕ) : Type 0 where
  pub place : ℕ
  pub before : place < n
  pub has : passes_at (rule_matches h) s.list.rules.items place ≡ true

pub record HasEntry (s : Sides) (h : List ℕ) (n : ℕ) : Type 0 where
  pub place : ℕ
  pub before : place < n
  pub has : passes_at (entry_matches h) s.table.entries.items place ≡ true

-- one of the rules that the steps name, and that may be, or one of the entries
pub record NamesRule (s : Sides) (c : Claim) (steps : List Step) (h : List ℕ) : Type 0 where
  pub named : HasRule s h (rules_named steps)
  pub may : named.place < c.rules

pub record NamesEntry (s : Sides) (c : Claim) (steps : List Step) (h : List ℕ) : Type 0 where
  pub named : HasEntry s h (entries_named steps)
  pub may : named.place < c.entries

abbrev pub Names : Sides → Claim → List Step → List ℕ → Type 0
Names s c steps h = NamesRule s c steps h ⊎ NamesEntry s c steps h

more_rules : (s : Sides) (c : Claim) (steps more : List Step) (h : List ℕ) → rules_named steps ≤ rules_named more → NamesRule s c steps h → NamesRule s c more h
more_rules s c steps more h le n =
    let at = n.named in
    record { named = record { place = at.place; before = omega (arith, at.before, le); has = at.has }; may = n.may }

more_entries : (s : Sides) (c : Claim) (steps more : List Step) (h : List ℕ) → entries_named steps ≤ entries_named more → NamesEntry s c steps h → NamesEntry s c more h
more_entries s c steps more h le n =
    let at = n.named in
    record { named = record { place = at.place; before = omega (arith, at.before, le); has = at.has }; may = n.may }

more : (s : Sides) (c : Claim) (steps more : List Step) (h : List ℕ) → rules_named steps ≤ rules_named more → entries_named steps ≤ entries_named more → Names s c steps h → Names s c more h
more s c steps longer h r e (inl n) = inl (more_rules s c steps longer h r n)
more s c steps longer h r e (inr n) = inr (more_entries s c steps longer h e n)

-- The cubes.

abbrev SomeHas : List Cube → List ℕ → Type 0
SomeHas [] h = ⊥
SomeHas (cube ∷ cubes) h = Has cube h ⊎ SomeHas cubes h

abbrev AreMasked : List Cube → Type 0
AreMasked [] = Unit {0}
AreMasked (cube ∷ cubes) = IsMasked cube × AreMasked cubes

in_rule : (o : Option Rule) (cube : Cube) (h : List ℕ) → MatchOption o (Unit {0}) (λ r. LiesInRule r cube) → LiesIn (box cube) h → option_map_or (rule_matches h) o true ≡ true
in_rule None cube h lies in_box = refl
in_rule (Some r) cube h lies in_box = lies h in_box

in_entry : (o : Option Entry) (cube : Cube) (h : List ℕ) → IsHeader h → Has cube h → HasBitsOf cube (option_map_or (λ (e : Entry). cube_of e.word) o all_headers) → option_map_or (entry_matches h) o true ≡ true
in_entry None cube h is has bits = refl
in_entry (Some e) cube h is has bits = has-word h e.word is (has-bits cube (cube_of e.word) h bits has)

misses : (o : Option Rule) (cube : Cube) (h : List ℕ) → MatchOption o ⊥ (λ r. MissesRule r cube) → LiesIn (box cube) h → option_map_or (rule_matches h) o true ≡ true → ⊥
misses None cube h missed in_box t = missed
misses (Some r) cube h missed in_box t = false≢true (sym (missed h in_box) ∙ t)

halves : (cube : Cube) (cubes : List Cube) (bit : ℕ) (h : List ℕ) → IsMasked cube → SomeHas (cube ∷ cubes) h → SomeHas (zero_half cube bit ∷ one_half cube bit ∷ cubes) h
halves cube cubes bit h m (inl has) = elim (has-halves cube bit h m has) [ inl zero ↦ inl zero | inr one ↦ inr (inl one) ]
halves cube cubes bit h m (inr has) = inr (inr has)

-- A header below the bound, which the rule has that is covered.

pub record IsAsked (s : Sides) (c : Claim) (h : List ℕ) : Type 0 where
  pub is : IsHeader h
  pub before : key_of h < s.bound
  pub of : passes_at (rule_matches h) s.list.rules.items c.of ≡ true

shown : (s : Sides) (c : Claim) (h : List ℕ) → IsAsked s c h → (steps : List Step) (cubes : List Cube) → AreMasked cubes → SomeHas cubes h → AreCovered s c cubes steps → Names s c steps h
shown s c h a [] [] m has t = absurd has
shown s c h a [] (cube ∷ cubes) m has t = absurd t
shown s c h a (step ∷ steps) [] m has t = absurd has
shown s c h a (InRule k ∷ steps) (cube ∷ cubes) m (inl has) t =
    inl (record {
      named = record {
        place = k;
        before = omega (arith, le-max_left (suc k) (rules_named steps));
        has = in_rule (slice_get s.list.rules.items k) cube h t.0.1 (has-box cube h m.0 a.is has);
      };
      may = t.0.0;
    })
shown s c h a (InRule k ∷ steps) (cube ∷ cubes) m (inr has) t =
    more s c steps (InRule k ∷ steps) h (le-max_right (suc k) (rules_named steps)) (omega arith) (shown s c h a steps cubes m.1 has t.1)
shown s c h a (InEntry k ∷ steps) (cube ∷ cubes) m (inl has) t =
    inr (record {
      named = record {
        place = k;
        before = omega (arith, le-max_left (suc k) (entries_named steps));
        has = in_entry (slice_get s.table.entries.items k) cube h a.is has t.0.1;
      };
      may = t.0.0;
    })
shown s c h a (InEntry k ∷ steps) (cube ∷ cubes) m (inr has) t =
    more s c steps (InEntry k ∷ steps) h (omega arith) (le-max_right (suc k) (entries_named steps)) (shown s c h a steps cubes m.1 has t.1)
shown s c h a (Missed ∷ steps) (cube ∷ cubes) m (inl has) t =
    absurd (misses (slice_get s.list.rules.items c.of) cube h t.0 (has-box cube h m.0 a.is has) a.of)
shown s c h a (Missed ∷ steps) (cube ∷ cubes) m (inr has) t = more s c steps (Missed ∷ steps) h (omega arith) (omega arith) (shown s c h a steps cubes m.1 has t.1)
shown s c h a (Late ∷ steps) (cube ∷ cubes) m (inl has) t = absurd (omega (arith, t.0, least-key cube h m.0 has, a.before))
shown s c h a (Late ∷ steps) (cube ∷ cubes) m (inr has) t = more s c steps (Late ∷ steps) h (omega arith) (omega arith) (shown s c h a steps cubes m.1 has t.1)
shown s c h a (Halved bit ∷ steps) (cube ∷ cubes) m has t =
    more s c steps (Halved bit ∷ steps) h (omega arith) (omega arith)
    (shown s c h a steps (zero_half cube bit ∷ one_half cube bit ∷ cubes) (masked-zero cube bit t.0.0 m.0, (masked-one cube bit t.0.0 m.0, m.1)) (halves cube cubes bit h m.0 has) t.1)

pub cover-names : (s : Sides) (c : Claim) (steps : List Step) (h : List ℕ) → IsAsked s c h → IsMasked c.cube → Has c.cube h → IsCover s c steps → Names s c steps h
cover-names s c steps h a m has t = shown s c h a steps (c.cube ∷ []) (m, tt) (inl has) t
