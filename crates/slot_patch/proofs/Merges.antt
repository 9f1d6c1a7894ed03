-- Layouts that grow by one slot.
use Rattle.std.proofs.Common.{◌≡◌, ◌<◌, ◌+◌, ◌∷◌, ◌++◌, ℕ, zero, suc, List, [], Option, Some, None, option_map, length, take, drop, slice_get, get_or, refl, ap, sym, ◌∙◌, subst, arith, append-nil, drop-cons}
use Rattle.std.specs.Option.{option_to_list}
use Rattle.std.proofs.lemmas.Option.{get_or_from_slice_get, none-some, slice_get-map, slice_get_within}
use Rattle.std.proofs.Math.Seq.{take-length, take-suc}
use Rattle.std.proofs.lemmas.List.{length-map, length-take-le, map-append}
use Rattle.ternary_words.specs.declared.entry.Entry.{Entry}
use Rattle.tcam_sim.specs.Slots.{stored}
use Rattle.slot_patch.specs.Banks.{HaveOneWord, ShareWords}
use Rattle.bank_update.specs.Standing.{bank_of, entries_in}
use Rattle.slot_patch.specs.Layouts.{IsLayout}
use Rattle.slot_patch.specs.Merging.{IsLayoutOf, IsMerged, IsSpread, entries_at, entry_at}
use Rattle.slot_patch.specs.Ordered.{placed, places}
use Rattle.slot_patch.specs.Sharing.{AreShared, HaveOneWordAt, IsPairFrom}
use Rattle.slot_patch.specs.declared.layout.Layout.{Layout}
use Rattle.slot_patch.specs.declared.pair.Pair.{Pair}
use Rattle.slot_patch.specs.declared.spreading.Spread.{Spread}
use Rattle.slot_patch.proofs.Builders.{length-more, some-at}
use Rattle.slot_patch.proofs.Telling.{words-alike}

abbrev Slots : Type 0
Slots = List (Option Entry)

pub entries-more : (xs : Slots) (x : Option Entry) → entries_in (xs ++ x ∷ []) ≡ entries_in xs ++ option_to_list x
entries-more [] None = refl
entries-more [] (Some e) = refl
entries-more (None ∷ xs) x = entries-more xs x
entries-more (Some e ∷ xs) x = ap (λ (es : List Entry). e ∷ es) (entries-more xs x)

pub words-more : (xs ys : Slots) (x y : Option Entry) → ShareWords (bank_of xs) (bank_of ys) → HaveOneWord (option_map stored x) (option_map stored y) →
    ShareWords (bank_of (xs ++ x ∷ [])) (bank_of (ys ++ y ∷ []))
words-more [] [] x y h w = (w, tt)
words-more (a ∷ xs) (b ∷ ys) x y h w = (h.0, words-more xs ys x y h.1 w)
words-more xs ys x y h w = absurd assumption

pub places-more : (k : ℕ) (xs : Slots) (x : Option Entry) → places k (xs ++ x ∷ []) ≡ places k xs ++ placed x (k + length xs)
places-more k [] None = refl
places-more k [] (Some e) = ap (λ n. let ns : List ℕ = n ∷ [] in ns) (let e : k ≡ k + 0 = omega arith in e)
places-more k (None ∷ xs) x = places-more (suc k) xs x ∙ ap (λ n. places (suc k) xs ++ placed x n) (let e : suc k + length xs ≡ k + suc (length xs) = omega arith in e)
places-more k (Some e ∷ xs) x =
    ap (λ (ns : List ℕ). k ∷ ns) (places-more (suc k) xs x ∙ ap (λ n. places (suc k) xs ++ placed x n) (let e : suc k + length xs ≡ k + suc (length xs) = omega arith in e))

pub take-more : {X : Type 0} (xs : List X) (i : ℕ) (x : X) → slice_get xs i ≡ Some x → take (suc i) xs ≡ take i xs ++ x ∷ []
take-more xs i x h = take-suc xs i x (slice_get_within xs i x h) ∙ ap (λ y. take i xs ++ y ∷ []) (get_or_from_slice_get xs i x x h)

-- a slot more, in front of which so many entries stood
abbrev pub AreNext : List Entry → ℕ → ℕ → Option Entry → Type 0
AreNext xs i next x = take next xs ≡ take i xs ++ option_to_list x

pub none-next : (xs : List Entry) (i : ℕ) → AreNext xs i i None
none-next xs i = sym (append-nil (take i xs))

-- one place more
seen-more : (es : List Entry) (before now : List (Option ℕ)) (p : Option ℕ) (x : Option Entry) → now ≡ before ++ p ∷ [] → entry_at es p ≡ x → entries_at es now ≡ entries_at es before ++ x ∷ []
seen-more es before now p x more is =
    ap (entries_at es) more ∙ map-append (entry_at es) before (p ∷ []) ∙ ap (λ (y : Option Entry). entries_at es before ++ y ∷ []) is

pub merged-more : (old new : List Entry) (i j shared m n many : ℕ) (before now : Layout) (p q : Option ℕ) (x y : Option Entry) → IsMerged old new i j shared before →
    now.start.items ≡ before.start.items ++ p ∷ [] → now.next.items ≡ before.next.items ++ q ∷ [] → entry_at old p ≡ x → entry_at new q ≡ y →
    HaveOneWord (option_map stored x) (option_map stored y) → AreNext old i m x → AreNext new j n y → i + j + suc many ≡ m + n + shared → IsMerged old new m n many now
merged-more old new i j shared m n many before now p q x y h start next is_x is_y word olds news counts =
    let more_start = ap length start ∙ length-more before.start.items p in
    let more_next = ap length next ∙ length-more before.next.items q in
    let start_seen = seen-more old before.start.items now.start.items p x start is_x in
    let next_seen = seen-more new before.next.items now.next.items q y next is_y in
    let s = entries_at old before.start.items in
    let t = entries_at new before.next.items in
    let long = h.long in
    let count = h.count in
    record {
      long = omega (arith, more_start, more_next, long);
      old_entries = ap entries_in start_seen ∙ entries-more s x ∙ ap (λ (es : List Entry). es ++ option_to_list x) h.old_entries ∙ sym olds;
      new_entries = ap entries_in next_seen ∙ entries-more t y ∙ ap (λ (es : List Entry). es ++ option_to_list y) h.new_entries ∙ sym news;
      words = subst (λ (z : Slots). ShareWords (bank_of z) (bank_of (entries_at new now.next.items))) (sym start_seen)
          (subst (λ (z : Slots). ShareWords (bank_of (s ++ x ∷ [])) (bank_of z)) (sym next_seen) (words-more s t x y h.words word));
      count = omega (arith, more_start, count, counts);
    }

pub merged-new : (old new : List Entry) (i j shared : ℕ) (before now : Layout) → IsMerged old new i j shared before →
    now.start.items ≡ before.start.items ++ None ∷ [] → now.next.items ≡ before.next.items ++ Some j ∷ [] → j < length new → IsMerged old new i (suc j) shared now
merged-new old new i j shared before now h start next small =
    let b = some-at new j small in
    merged-more old new i j shared i (suc j) shared before now None (Some j) None (Some b.0) h start next refl b.1 tt (none-next old i) (take-more new j b.0 b.1) (omega arith)

pub merged-old : (old new : List Entry) (i j shared : ℕ) (before now : Layout) → IsMerged old new i j shared before →
    now.start.items ≡ before.start.items ++ Some i ∷ [] → now.next.items ≡ before.next.items ++ None ∷ [] → i < length old → IsMerged old new (suc i) j shared now
merged-old old new i j shared before now h start next small =
    let a = some-at old i small in
    merged-more old new i j shared (suc i) j shared before now (Some i) None (Some a.0) None h start next a.1 refl tt (take-more old i a.0 a.1) (none-next new j) (omega arith)

pub merged-both : (old new : List Entry) (i j shared : ℕ) (before now : Layout) → IsMerged old new i j shared before →
    now.start.items ≡ before.start.items ++ Some i ∷ [] → now.next.items ≡ before.next.items ++ Some j ∷ [] →
    HaveOneWordAt old new i j → IsMerged old new (suc i) (suc j) (suc shared) now
merged-both old new i j shared before now h start next word =
    merged-more old new i j shared (suc i) (suc j) (suc shared) before now (Some i) (Some j) (Some word.a) (Some word.b) h start next word.old_at word.new_at
    (words-alike word.a word.b word.same) (take-more old i word.a word.old_at) (take-more new j word.b word.new_at) (omega arith)

-- the whole of both tables
pub merged-all : (old new : List Entry) (shared : ℕ) (l : Layout) → IsMerged old new (length old) (length new) shared l → IsLayoutOf old new l
merged-all old new shared l h = record {
  start_slots = length-map l.start.items (entry_at old);
  next_slots = length-map l.next.items (entry_at new) ∙ h.long;
  old_entries = h.old_entries ∙ take-length old;
  new_entries = h.new_entries ∙ take-length new;
  words = h.words;
}

-- the next of the pairs
pub next-shared : (old new : List Entry) (i j k : ℕ) (pairs : List Pair) (d : Pair) → k < length pairs → AreShared old new i j (drop k pairs) →
    IsPairFrom old new i j (get_or pairs k d) × AreShared old new (suc (get_or pairs k d).old) (suc (get_or pairs k d).new) (drop (suc k) pairs)
next-shared old new i j k pairs d small h = subst (λ (ps : List Pair). AreShared old new i j ps) (drop-cons pairs k d small) h

-- slots with empty ones

pub spread-more : (old new : List Entry) (before now : Spread) (x y : Option Entry) → IsSpread old new before → now.next.items ≡ before.next.items ++ y ∷ [] →
    HaveOneWord (option_map stored x) (option_map stored y) → now.slots.items ≡ before.slots.items ++ placed x (length before.next.items) →
    IsSpread (old ++ option_to_list x) (new ++ option_to_list y) now
spread-more old new before now x y h next word slots =
    let s = h.start in
    let n = before.next.items in
    let more_start = length-more s x in
    let more_next = ap length next ∙ length-more n y in
    let long = h.long in
    record {
      start = s ++ x ∷ [];
      long = omega (arith, more_start, more_next, long);
      old_entries = entries-more s x ∙ ap (λ (es : List Entry). es ++ option_to_list x) h.old_entries;
      new_entries = ap entries_in next ∙ entries-more n y ∙ ap (λ (es : List Entry). es ++ option_to_list y) h.new_entries;
      words = subst (λ (z : Slots). ShareWords (bank_of (s ++ x ∷ [])) (bank_of z)) (sym next) (words-more s n x y h.words word);
      slots = places-more 0 s x ∙ ap (λ (ns : List ℕ). ns ++ placed x (0 + length s)) h.slots
          ∙ ap (λ m. before.slots.items ++ placed x m) (let e : 0 + length s ≡ length n = omega (arith, long) in e) ∙ sym slots;
    }

pub spread-empty : (old new : List Entry) (before now : Spread) → IsSpread old new before → now.next.items ≡ before.next.items ++ None ∷ [] →
    now.slots.items ≡ before.slots.items → IsSpread old new now
spread-empty old new before now h next slots =
    let more = spread-more old new before now None None h next tt (slots ∙ sym (append-nil before.slots.items)) in
    subst (λ (es : List Entry). IsSpread es new now) (append-nil old) (subst (λ (es : List Entry). IsSpread (old ++ []) es now) (append-nil new) more)

pub spread-new : (s : Spread) → s.next.items ≡ [] → s.slots.items ≡ [] → IsSpread [] [] s
spread-new s next slots = record {
  start = [];
  long = ap length next;
  old_entries = refl;
  new_entries = ap entries_in next;
  words = subst (λ (z : Slots). ShareWords (bank_of []) (bank_of z)) (sym next) tt;
  slots = sym slots;
}

-- the entries of one slot have one word
pub word-at : (start next : Slots) (k : ℕ) (x y : Option Entry) → ShareWords (bank_of start) (bank_of next) → slice_get start k ≡ Some x → slice_get next k ≡ Some y →
    HaveOneWord (option_map stored x) (option_map stored y)
word-at (a ∷ start) (b ∷ next) zero x y w h g =
    let one : a ≡ x = cc in
    let two : b ≡ y = cc in
    subst (λ (z : Option Entry). HaveOneWord (option_map stored z) (option_map stored y)) one (subst (λ (z : Option Entry). HaveOneWord (option_map stored a) (option_map stored z)) two w.0)
word-at (a ∷ start) (b ∷ next) (suc k) x y w h g = word-at start next k x y w.1 h g
word-at start next k x y w h g = absurd (grind arith)

-- what stands at a place
pub seen-at : (es : List Entry) (places : List (Option ℕ)) (k : ℕ) (p : Option ℕ) (x : Option Entry) → slice_get places k ≡ Some p → x ≡ entry_at es p → slice_get (entries_at es places) k ≡ Some x
seen-at es places k p x at is =
    slice_get-map (entry_at es) places k ∙ ap (option_map (entry_at es)) at ∙ ap (λ (y : Option Entry). Some y) (sym is)

-- the first slots of a layout are spread
abbrev pub AreSpread : ℕ → Slots → Slots → Spread → Type 0
AreSpread k start next now = IsSpread (entries_in (take k start)) (entries_in (take k next)) now

pub spread-next : (start next : Slots) (k : ℕ) (x y : Option Entry) (now : Spread) → slice_get start k ≡ Some x → slice_get next k ≡ Some y →
    IsSpread (entries_in (take k start) ++ option_to_list x) (entries_in (take k next) ++ option_to_list y) now → AreSpread (suc k) start next now
spread-next start next k x y now h g s =
    let olds = ap entries_in (take-more start k x h) ∙ entries-more (take k start) x in
    let news = ap entries_in (take-more next k y g) ∙ entries-more (take k next) y in
    subst (λ (es : List Entry). IsSpread es (entries_in (take (suc k) next)) now) (sym olds)
    (subst (λ (es : List Entry). IsSpread (entries_in (take k start) ++ option_to_list x) es now) (sym news) s)

pub spread-layout : (old new : List Entry) (compact : Layout) (now : Spread) (slots : ℕ) → IsLayoutOf old new compact →
    AreSpread (length compact.start.items) (entries_at old compact.start.items) (entries_at new compact.next.items) now → length now.next.items ≡ slots →
    (start : Slots) × IsLayout slots old new start now.next.items × (places 0 start ≡ now.slots.items)
spread-layout old new compact now slots l s long =
    let start = entries_at old compact.start.items in
    let next = entries_at new compact.next.items in
    let layout : IsLayout slots old new s.start now.next.items = record {
      start_slots = sym s.long ∙ long;
      next_slots = long;
      old_entries = s.old_entries ∙ ap entries_in (ap (λ (m : ℕ). take m start) (sym l.start_slots) ∙ take-length start) ∙ l.old_entries;
      new_entries = s.new_entries ∙ ap entries_in (ap (λ (m : ℕ). take m next) (sym l.next_slots) ∙ take-length next) ∙ l.new_entries;
      words = s.words;
    } in
    (s.start, layout, s.slots)

-- what one slot more holds
pub standing-more : (held : Slots) (k : ℕ) (x : Option Entry) → slice_get held k ≡ Some x →
    (places 0 (take (suc k) held) ≡ places 0 (take k held) ++ placed x k) × (entries_in (take (suc k) held) ≡ entries_in (take k held) ++ option_to_list x)
standing-more held k x at =
    let small = slice_get_within held k x at in
    let long : 0 + length (take k held) ≡ k = (let e = length-take-le k held (omega (arith, small)) in omega (arith, e)) in (
      ap (places 0) (take-more held k x at) ∙ places-more 0 (take k held) x ∙ ap (λ n. places 0 (take k held) ++ placed x n) long,
      ap entries_in (take-more held k x at) ∙ entries-more (take k held) x,
    )
