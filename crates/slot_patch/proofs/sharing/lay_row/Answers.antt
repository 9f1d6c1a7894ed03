use Rattle.std.proofs.Common.{◌≡◌, ◌<◌, ◌-◌, ℕ, suc, Option, length, refl, sym, subst, arith}
use Rattle.std.proofs.lemmas.Option.{get_or_from_slice_get, slice_get_read}
use Rattle.ternary_words.specs.declared.entry.Entry.{Entry}
use Rattle.slot_patch.specs.Finding.{IsNext}
use Rattle.slot_patch.specs.Piles.{AreLaid, IsTaken}
use Rattle.slot_patch.proofs.Chains.{laid-stacked}
use Rattle.slot_patch.proofs.Rows.{AreRowTaken, left-less, next-pair, place-within, places_left, row-begins, row-goes-on, row-so-far, row-taken}
use Rattle.slot_patch.proofs.sharing.lay_row.Goals as goal

pub loop-at-init : goal.loop-at-init
loop-at-init c = λ a at.
    let old = c.args.old.now in
    let new = c.args.new.now in
    let is = get_or_from_slice_get old c.args.row a c.index-old-row.result at in
    row-begins old new c.args.row a c.args.piles.now c.first-at.result
    (subst (λ (x : Entry). IsNext new 0 x.word.mask x.word.value c.first-at.result) is (c.first-at.ensures new c.requires.places))
    (laid-stacked old new c.args.row (length new) c.args.piles.now c.requires.stacked)

pub overflow_sub-new : goal.overflow_sub-new
overflow_sub-new c =
    let h = row-so-far c.args.old.now c.args.new.now c.args.row c.index-old-row.result c.args.piles.now c.loop-at.piles c.loop-at.at c.in-Some.place c.in-Some.is
    c.requires.within c.index-old-row.is c.loop-at.invariant in
    omega (arith, place-within h)

pub overflow_sub-new-in-Some : goal.overflow_sub-new-in-Some
overflow_sub-new-in-Some c =
    let h = row-so-far c.args.old.now c.args.new.now c.args.row c.index-old-row.result c.args.piles.now c.loop-at.piles c.loop-at.at c.in-Some.place c.in-Some.is
    c.requires.within c.index-old-row.is c.loop-at.invariant in
    omega (arith, place-within h)

pub lay-requires : goal.lay-requires
lay-requires c =
    let at = slice_get_read c.args.old.now (length c.args.old.now) c.args.row c.index-old-row.result refl c.requires.within c.index-old-row.is in
    (c.loop-at.invariant c.index-old-row.result at).laid.stacked.long

pub next-at-requires : goal.next-at-requires
next-at-requires c =
    let h = row-so-far c.args.old.now c.args.new.now c.args.row c.index-old-row.result c.args.piles.now c.loop-at.piles c.loop-at.at c.in-Some.place c.in-Some.is
    c.requires.within c.index-old-row.is c.loop-at.invariant in
    omega (arith, place-within h, c.requires.places.count)

pub loop-at-smaller : goal.loop-at-smaller
loop-at-smaller c =
    let new = c.args.new.now in
    let place = c.in-Some.place in
    let h = row-so-far c.args.old.now c.args.new.now c.args.row c.index-old-row.result c.args.piles.now c.loop-at.piles c.loop-at.at c.in-Some.place c.in-Some.is
    c.requires.within c.index-old-row.is c.loop-at.invariant in
    let e = h.found.entry in
    let next = subst (λ (o : Option ℕ). IsNext new (suc place) e.word.mask e.word.value o) (sym c.next-at.ensures) (c.requires.places.links place e (omega arith) h.found.at) in
    subst (λ (o : Option ℕ). places_left (length new) c.next-at.result < places_left (length new) o) (sym c.in-Some.is)
    (left-less new place e.word.mask e.word.value c.next-at.result (place-within h) next)

pub loop-at-preserved : goal.loop-at-preserved
loop-at-preserved c = λ a at.
    let old = c.args.old.now in
    let new = c.args.new.now in
    let row = c.args.row in
    let place = c.in-Some.place in
    let before = c.args.piles.now in
    let middle = c.loop-at.piles in
    let now = c.lay.new.self in
    let h = subst (λ (o : Option ℕ). AreRowTaken old new row a before middle o) c.in-Some.is (c.loop-at.invariant a at) in
    let same : length new - 1 - place ≡ length new - suc place = omega arith in
    let word = next-pair old new row a before middle place at h in
    row-goes-on old new row a before middle now place c.next-at.result c.args.places.now c.requires.places h c.in_ok-lay.ensures.lowered
    (subst (λ (n : ℕ). IsTaken n middle.places.items now.places.items) same c.in_ok-lay.ensures.taken)
    (λ limit laid less. subst (λ (n : ℕ). AreLaid old new row n now) same (c.in_ok-lay.ensures.laid old new limit laid (omega (arith, less, same)) word same))
    c.next-at.ensures

pub returns : goal.returns
returns c =
    let old = c.args.old.now in
    let h = c.loop-at.invariant c.index-old-row.result (slice_get_read old (length old) c.args.row c.index-old-row.result refl c.requires.within c.index-old-row.is) in
    record {
      stacked = h.laid.stacked;
      lowered = h.lowered;
      taken = λ a at. row-taken old c.args.new.now c.args.row a c.args.piles.now c.loop-at.piles
          (subst (λ (o : Option ℕ). AreRowTaken old c.args.new.now c.args.row a c.args.piles.now c.loop-at.piles o) c.in_default.is (c.loop-at.invariant a at));
    }
