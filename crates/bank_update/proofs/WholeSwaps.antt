-- A whole swap is a good plan.
use Rattle.std.proofs.Common.{◌≡◌, ◌≢◌, ◌⊎◌, ℕ, zero, suc, ◌+◌, ◌-◌, ◌≤◌, ◌<◌, Bool, true, false, cond, nat_lt, List, Option, Some, None, option_map, length, map, set, slice_get, if◌then◌else◌, inl, inr, refl, ap, sym, ◌∙◌, arith, subst, ltb-true, ltb-false}
use Rattle.std.specs.Prelude.{option_and_then}
use Rattle.std.proofs.lemmas.Bool.{le-ltb, lt-ltb}
use Rattle.std.proofs.lemmas.List.{length-set, map-set}
use Rattle.std.proofs.lemmas.List.FromFn.{get_or-map-range_with_len, length-map-range_with_len}
use Rattle.std.proofs.lemmas.Option.{slice_get-get_or, slice_get_past, slice_get_within}
use Rattle.field_boxes.specs.Names.{name_at}
use Rattle.ternary_words.specs.Headline.Table as words
use Rattle.ternary_words.specs.Limits.{AreNumbered}
use Rattle.ternary_words.specs.Views.{entry_of}
use Rattle.ternary_words.specs.declared.entry.Entry.{Entry}
use Rattle.tcam_sim.specs.Slots.{look_up, stored}
use Rattle.bank_update.specs.Banks.{first_from, least_match}
use Rattle.bank_update.specs.Plans.{FindsNames, IsGood, Plan, SayWhatStood, after, answer_after, bank_after_writes, names_between, written}
use Rattle.bank_update.specs.Sound.{MayBegin}
use Rattle.bank_update.specs.Standing.{Standing, answer, bank_of, entries_in, is_taken}
use Rattle.bank_update.specs.Whole.{IsRoomAt, IsTogether, is_below, layout, whole, write_at, writes_of}
use Rattle.bank_update.specs.Writes as blocks
use Rattle.bank_update.specs.Writes.{IsBeside, Layout, bank_after, erased, target, turned, write_count}
use Rattle.bank_update.specs.declared.write.Write.{Write}
use Rattle.bank_update.proofs.Found.{first-within}
use Rattle.bank_update.proofs.Names.{first_named, named_case}
use Rattle.bank_update.proofs.OldOrNew.{found_of, then_map}
use Rattle.bank_update.proofs.Stages.{last, undone}
use Rattle.bank_update.proofs.Standings.{answers-of, entries-alone, get-mapped, look-entries, matching, numbered, numbered-at, set-got, taken-in, taken-out}
use Rattle.bank_update.proofs.Turns.{old-or-new, turned-stays}

pub count-writes : (old : Standing) (start : ℕ) (entries : List Entry) → length (writes_of (layout old start entries)) ≡ length (entries_in old.slots) + length entries
count-writes old start entries = length-map-range_with_len (write_at (layout old start entries)) 0 (write_count (layout old start entries))

-- the write with a number
pub get-write : (l : Layout Entry) (d : ℕ) → d < write_count l → slice_get (writes_of l) d ≡ Some (write_at l d)
get-write l d small =
    let many = length-map-range_with_len (write_at l) 0 (write_count l) in
    slice_get-get_or (writes_of l) d (write_at l 0) (omega (arith, small, many))
    ∙ ap (λ (w : Write). Some w) (get_or-map-range_with_len (write_at l) 0 (write_count l) d d (write_at l 0) small (omega arith))

module _ (old : Standing) (start : ℕ) (entries : List Entry) (names : List (List ℕ)) (together : IsTogether old.slots) where
  abbrev l : Layout Entry
  l = layout old start entries

  abbrev plan : Plan
  plan = whole old start entries names

  -- what the slots hold
  pub held : (d : ℕ) → d ≤ write_count l → bank_after_writes old plan d ≡ bank_of (bank_after l d)
  held zero small = ap bank_of together
  held (suc d) small =
      ap (written (after (bank_of old.slots) (writes_of l) d)) (get-write l d (omega (arith, small)))
      ∙ ap (λ bank. set bank (target l d) (option_map stored (blocks.written l d))) (held d (omega (arith, small)))
      ∙ sym (map-set (option_map stored) (bank_after l d) (target l d) (blocks.written l d))

  long : (d : ℕ) → length (bank_after l d) ≡ length old.slots
  long zero = ap length (sym together)
  long (suc d) = length-set (bank_after l d) (target l d) (blocks.written l d) ∙ long d

  module _ (room : IsRoomAt old start entries) where
    abbrev below : Bool
    below = is_below l

    within_case : (t : Bool) (d : ℕ) → nat_lt d (length entries) ≡ t → (b : Bool) → IsBeside b l → d < write_count l → cond t (start + d) (l.a + (write_count l - suc d)) < length old.slots
    within_case true d is true h small = let less = ltb-true d (length entries) is in omega (arith, h.1, less)
    within_case true d is false h small = let less = ltb-true d (length entries) is in omega (arith, h.0, h.1, less)
    within_case false d is true h small = let most = ltb-false d (length entries) is in omega (arith, h.0, h.1, most, small)
    within_case false d is false h small = let most = ltb-false d (length entries) is in omega (arith, h.1, most, small)

    target_within : (d : ℕ) → d < write_count l → target l d < length old.slots
    target_within d small = within_case (nat_lt d (length entries)) d refl below room small

    stood_at : (d : ℕ) → d < write_count l → slice_get (bank_after l d) (target l d) ≡ Some (erased l d)
    stood_at d small =
        let is_long = long (suc d) in
        let less = target_within d small in
        ap (λ bank. slice_get bank (target l d)) (sym (undone below l d room small))
        ∙ set-got (bank_after l (suc d)) (target l d) (erased l d) (omega (arith, is_long, less))

    stood : SayWhatStood (bank_of old.slots) (writes_of l)
    stood = λ d w at.
        let within = slice_get_within (writes_of l) d w at in
        let many = count-writes old start entries in
        let small : d < write_count l = omega (arith, within, many) in
        let is : write_at l d ≡ w = (let both = sym (get-write l d small) ∙ at in cc) in
        ap (λ (v : Write). slice_get (bank_after_writes old plan d) v.slot) (sym is)
        ∙ ap (λ bank. slice_get bank (target l d)) (held d (omega (arith, small)))
        ∙ get-mapped (option_map stored) (bank_after l d) (target l d) (erased l d) (stood_at d small)
        ∙ ap (λ (v : Write). Some (option_map stored v.before)) is

    ends : bank_after_writes old plan (length (writes_of l)) ≡ bank_of plan.new.slots
    ends =
        ap (bank_after_writes old plan) (count-writes old start entries)
        ∙ held (write_count l) (omega arith)
        ∙ ap bank_of (last below l room)

    -- which names

    new_taken : (k : ℕ) → start ≤ k → k < start + length entries → is_taken plan.new.slots k ≡ true
    new_taken k low high = taken-in (length old.slots) start k entries low high

    apart : (b : Bool) (k : ℕ) → IsBeside b l → l.a ≤ k → k < l.a + length l.old → (k < start) ⊎ (start + length entries ≤ k)
    apart true k h low high = inl (omega (arith, h.0, high))
    apart false k h low high = inr (omega (arith, h.0, low))

    old_free : (k : ℕ) → l.a ≤ k → k < l.a + length l.old → is_taken plan.new.slots k ≡ false
    old_free k low high = taken-out (length old.slots) start k entries (apart below k room low high)

    abbrev name_found : ℕ × Entry → Option (List ℕ)
    name_found r = name_at (names_between old plan.new r.0) r.1.decision

    from_old : (values : List ℕ) → option_and_then name_found (first_from (matching values) l.old l.a) ≡ answer old values
    from_old values =
        first_named name_found (λ (e : Entry). name_at old.names e.decision) (matching values) l.old l.a (l.a + length l.old) refl
        (λ k e low high. ap (λ t. name_at (if t then names else old.names) e.decision) (old_free k low high))
        ∙ answers-of old.names values l.old

    from_new : (values : List ℕ) → option_and_then name_found (first_from (matching values) entries start) ≡ answer plan.new values
    from_new values =
        first_named name_found (λ (e : Entry). name_at names e.decision) (matching values) entries start (start + length entries) refl
        (λ k e low high. ap (λ t. name_at (if t then names else old.names) e.decision) (new_taken k low high))
        ∙ answers-of names values entries
        ∙ ap (λ es. words.answer (map (entry_of names) es) values) (sym (entries-alone (length old.slots) start entries))

    -- the answer at a stage
    pub answered : (d : ℕ) (values : List ℕ) → d ≤ write_count l → answer_after old plan d values ≡ cond (turned below (matching values) l d) (answer plan.new values) (answer old values)
    answered d values small =
        let name = λ (f : ℕ × ℕ). name_at (names_between old plan.new f.0) f.1 in
        ap (λ bank. option_and_then name (look_up bank values)) (held d small)
        ∙ ap (option_and_then name) (look-entries (bank_after l d) values)
        ∙ then_map numbered name (least_match (matching values) (bank_after l d) 0)
        ∙ ap (option_and_then name_found) (old-or-new below l (matching values) d room small)
        ∙ named_case (option_and_then name_found) (turned below (matching values) l d) (first_from (matching values) entries start) (first_from (matching values) l.old l.a)
        (answer plan.new values) (answer old values) (from_new values) (from_old values)

    two : (t : Bool) (x a b : Option (List ℕ)) → x ≡ cond t b a → (x ≡ a) ⊎ (x ≡ b)
    two true x a b h = inr h
    two false x a b h = inl h

    turned_of : (t : Bool) (x a b : Option (List ℕ)) → b ≢ a → x ≡ cond t b a → x ≡ b → t ≡ true
    turned_of true x a b apart h is = refl
    turned_of false x a b apart h is = absurd (apart (sym is ∙ h))

    few : (d : ℕ) → d ≤ length (writes_of l) → d ≤ write_count l
    few d h = let many = count-writes old start entries in omega (arith, h, many)

    pub good : IsGood old plan
    good = record {
      old_or_new = λ d values small. two (turned below (matching values) l d) (answer_after old plan d values) (answer old values) (answer plan.new values) (answered d values (few d small));
      stays = λ d e values le small other h.
          answered e values (few e small)
          ∙ ap (λ t. cond t (answer plan.new values) (answer old values))
          (turned-stays below l (matching values) d e le
          (turned_of (turned below (matching values) l d) (answer_after old plan d values) (answer old values) (answer plan.new values) other (answered d values (few d (omega (arith, le, small)))) h));
      stood = stood;
      ends = ends;
    }

    -- what is found has a name

    module _ (old_numbered : AreNumbered (length old.names) (entries_in old.slots)) (new_numbered : AreNumbered (length names) entries) where
      named : (t : Bool) (values : List ℕ) (r : ℕ × Entry) → cond t (first_from (matching values) entries start) (first_from (matching values) l.old l.a) ≡ Some r →
          r.1.decision ≤ length (names_between old plan.new r.0)
      named true values r h =
          let w = first-within (matching values) entries start r h in
          subst (λ (t : Bool). r.1.decision ≤ length (if t then names else old.names)) (sym (new_taken r.0 w.0 w.1)) (numbered-at (length names) entries (r.0 - start) r.1 new_numbered w.2)
      named false values r h =
          let w = first-within (matching values) l.old l.a r h in
          subst (λ (t : Bool). r.1.decision ≤ length (if t then names else old.names)) (sym (old_free r.0 w.0 w.1)) (numbered-at (length old.names) l.old (r.0 - l.a) r.1 old_numbered w.2)

      finds : FindsNames old plan
      finds = λ d values slot decision small h.
          let all = few d small in
          let f = found_of numbered (least_match (matching values) (bank_after l d) 0) (slot, decision)
          (sym (look-entries (bank_after l d) values) ∙ ap (λ bank. look_up bank values) (sym (held d all)) ∙ h) in
          subst (λ (v : ℕ × ℕ). v.1 ≤ length (names_between old plan.new v.0)) f.2
          (named (turned below (matching values) l d) values f.0 (sym (old-or-new below l (matching values) d room all) ∙ f.1))

      pub may : MayBegin old plan
      may = record {
        good = good;
        finds = finds;
        numbered = subst (λ (es : List Entry). AreNumbered (length names) es) (sym (entries-alone (length old.slots) start entries)) new_numbered;
      }

pub held-whole : (old : Standing) (start : ℕ) (entries : List Entry) (names : List (List ℕ)) (d : ℕ) → IsTogether old.slots → d ≤ write_count (layout old start entries) →
    bank_after_writes old (whole old start entries names) d ≡ bank_of (bank_after (layout old start entries) d)
held-whole old start entries names d together small = held old start entries names together d small

pub may-begin : (old : Standing) (start : ℕ) (entries : List Entry) (names : List (List ℕ)) → IsTogether old.slots → IsRoomAt old start entries →
    AreNumbered (length old.names) (entries_in old.slots) → AreNumbered (length names) entries → MayBegin old (whole old start entries names)
may-begin old start entries names together room old_numbered new_numbered = may old start entries names together room old_numbered new_numbered

-- a write as the code makes it

write_by : (l : Layout Entry) (d : ℕ) (t : Bool) → nat_lt d (length l.new) ≡ t → write_at l d ≡ (let w : Write = record { slot = cond t (l.b + d) (l.a + (write_count l - suc d)); before = cond t None (slice_get l.old (write_count l - suc d)); entry = slice_get l.new d } in w)
write_by l d t is = ap (λ (u : Bool). let w : Write = record { slot = cond u (l.b + d) (l.a + (write_count l - suc d)); before = cond u None (slice_get l.old (write_count l - suc d)); entry = slice_get l.new d } in w) is

made : (slot slot' : ℕ) (before before' entry entry' : Option Entry) → slot' ≡ slot → before' ≡ before → entry' ≡ entry →
    (let w : Write = record { slot = slot; before = before; entry = entry } in w) ≡ (let w : Write = record { slot = slot'; before = before'; entry = entry' } in w)
made slot slot' before before' entry entry' s b e =
    sym (ap (λ n. let w : Write = record { slot = n; before = before'; entry = entry' } in w) s
    ∙ ap (λ o. let w : Write = record { slot = slot; before = o; entry = entry' } in w) b
    ∙ ap (λ o. let w : Write = record { slot = slot; before = before; entry = o } in w) e)

pub get-put : (l : Layout Entry) (d slot : ℕ) (entry : Option Entry) → d < length l.new → slot ≡ l.b + d → entry ≡ slice_get l.new d →
    slice_get (writes_of l) d ≡ Some (record { slot = slot; before = None; entry = entry })
get-put l d slot entry small at is =
    get-write l d (omega (arith, small))
    ∙ ap (λ (w : Write). Some w) (write_by l d true (lt-ltb d (length l.new) small) ∙ made (l.b + d) slot None None (slice_get l.new d) entry at refl is)

pub get-clear : (l : Layout Entry) (d slot : ℕ) (before : Option Entry) → length l.new ≤ d → d < write_count l → slot ≡ l.a + (write_count l - suc d) →
    before ≡ slice_get l.old (write_count l - suc d) → slice_get (writes_of l) d ≡ Some (record { slot = slot; before = before; entry = None })
get-clear l d slot before most small at is =
    get-write l d small
    ∙ ap (λ (w : Write). Some w)
    (write_by l d false (le-ltb d (length l.new) most)
    ∙ made (l.a + (write_count l - suc d)) slot (slice_get l.old (write_count l - suc d)) before (slice_get l.new d) None at is (sym (slice_get_past l.new d most)))
