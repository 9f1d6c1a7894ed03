use Rattle.std.proofs.Common.{◌≡◌, ◌<◌, ℕ, length, take, refl, sym, subst, add-one, arith}
use Rattle.std.proofs.lemmas.List.{length-map}
use Rattle.std.proofs.lemmas.Option.{slice_get_read}
use Rattle.bank_update.specs.Standing.{entries_in}
use Rattle.slot_patch.specs.Merging.{entries_at, entry_at}
use Rattle.slot_patch.proofs.Merges.{AreSpread, seen-at, spread-layout, spread-next, word-at}
use Rattle.slot_patch.proofs.spreading.spread_out.Goals as goal

pub loop-place-init : goal.loop-place-init
loop-place-init c =
    let none = c.in_ok-spread.ensures.length in
    record {
      room = omega (arith, none, c.requires.room);
      spread = c.in_ok-spread.ensures.none;
    }

pub put-requires : goal.put-requires
put-requires c =
    let l = c.loop-place in
    let room = l.invariant.room in
    let small : l.place < length c.args.compact.now.start.items = omega (arith, c.loop-place-test.true, c.len-count.ensures) in
    let count : c.len-count.result ≡ length c.args.compact.now.start.items = omega (arith, c.len-count.ensures) in
    record {
      few = omega (arith, c.wished-slot.ensures.most, c.requires.few, room, small, count);
      behind = omega (arith, c.wished-slot.ensures.least, c.len-least.ensures);
    }

pub loop-place-preserved : goal.loop-place-preserved
loop-place-preserved c =
    let l = c.loop-place in
    let compact = c.args.compact.now in
    let start = entries_at c.args.old.now compact.start.items in
    let next = entries_at c.args.new.now compact.next.items in
    let k = l.place in
    let x = c.entry_at-before.result in
    let y = c.entry_at-behind.result in
    let room = l.invariant.room in
    let long = c.requires.layout.next_slots in
    let many = length-map compact.next.items (entry_at c.args.new.now) in
    let count : c.len-count.result ≡ length compact.start.items = omega (arith, c.len-count.ensures) in
    let small : k < length compact.start.items = omega (arith, c.loop-place-test.true, count) in
    let small_next : k < length compact.next.items = omega (arith, small, long, many) in
    let at_x = seen-at c.args.old.now compact.start.items k c.index.result.now x (slice_get_read compact.start.items (length compact.start.items) k c.index.result.now refl small c.index.ensures) c.entry_at-before.ensures in
    let at_y = seen-at c.args.new.now compact.next.items k c.index-in-loop-place.result.now y (slice_get_read compact.next.items (length compact.next.items) k c.index-in-loop-place.result.now refl small_next c.index-in-loop-place.ensures) c.entry_at-behind.ensures in
    let word = word-at start next k x y c.requires.layout.words at_x at_y in
    let put = c.in_ok-put.ensures.spread (entries_in (take k start)) (entries_in (take k next)) word l.invariant.spread in
    record {
      room = omega (arith, c.in_ok-put.ensures.length, c.wished-slot.ensures.most, room, small, count);
      spread = subst (λ (n : ℕ). AreSpread n start next c.put.new.self) (sym (add-one k)) (spread-next start next k x y c.put.new.self at_x at_y put);
    }

pub pad-requires : goal.pad-requires
pad-requires c = let room = c.loop-place.invariant.room in omega (arith, room)

pub returns : goal.returns
returns c =
    let l = c.loop-place in
    let compact = c.args.compact.now in
    let start = entries_at c.args.old.now compact.start.items in
    let next = entries_at c.args.new.now compact.next.items in
    let all : l.place ≡ length compact.start.items = omega (arith, c.loop-place-test.false, l.auto.place-end, c.len-count.ensures) in
    let spread = c.in_ok-pad.ensures.spread (entries_in (take l.place start)) (entries_in (take l.place next)) l.invariant.spread in
    spread-layout c.args.old.now c.args.new.now compact c.pad.new.self c.args.slots c.requires.layout
    (subst (λ (n : ℕ). AreSpread n start next c.pad.new.self) all spread) c.in_ok-pad.ensures.length
