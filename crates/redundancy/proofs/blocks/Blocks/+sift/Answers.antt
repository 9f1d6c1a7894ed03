use Rattle.std.proofs.Common.{◌≡◌, ◌<◌, ◌∷◌, ◌++◌, [], ap, arith, refl, sym, ◌∙◌, subst, take, length}
use Rattle.std.specs.HashMap.{get}
use Rattle.std.specs.Prelude.{All, Some, map, IfSome, OnOk, Result, Ok, Err}
use Rattle.std.proofs.lemmas.Option.{slice_get-get_or}
use Rattle.std.proofs.lemmas.Result.{on_ok_weaker}
use Rattle.node_store.specs.Diagram.{level_of}
use Rattle.node_store.specs.Levels.{HasField, IsLevel}
use Rattle.node_store.proofs.Canonical.{is_level}
use Rattle.node_store.proofs.Growth.{stays, twice}
use Rattle.redundancy_laws.specs.Rows.{last_row}
use Rattle.redundancy_laws.specs.Layers.{rows_of_runs, end_of}
use Rattle.redundancy_laws.specs.Sifted.{AreContexts, IsSifted, node_at}
use Rattle.redundancy_laws.proofs.Kept.{pairs-stay}
use Rattle.redundancy.specs.declared.blocks.Block.TheVariants.{Last, Layer, Two}
use Rattle.redundancy.specs.declared.blocks.Cover.{Cover}
use Rattle.redundancy.specs.Blocks.{FitsRun, RiseApart, rows_of, cover_at, run_by}
use Rattle.redundancy.specs.Remembered.{IsAnswered, same_asked}
use Rattle.redundancy.proofs.BlockRows.{last_rows, layer_rows, two_rows, blocks_stay, leads}
use Rattle.redundancy.proofs.Removals.{memo_stays}
use Rattle.redundancy.proofs.Ends.{moved, two_end, before_pairs}
use Rattle.redundancy.proofs.LayerDrafts.{draft_start, draft_next, draft_full, above_front, apart_front, end_inside, numbers_now, changes_now, layer_end, pairs_listed, run_clause, answers_room}
use Rattle.redundancy.proofs.blocks.Blocks.+sift.Goals as goal

-- a fact holds also where a result is Ok
on_ok : {T E P : Type 0} (r : Result T E) → P → OnOk r P
on_ok (Ok x) p = p
on_ok (Err e) p = tt

pub sift-last-requires : goal.sift-last-requires
sift-last-requires t c =
    subst (λ l. AreContexts c.args.sets.now l c.args.contexts.now) (c.requires.blocks.fits c.args.number (Last c.in-Last.decision) (c.block.ensures.found ∙ ap Some c.in-Last.is)) c.requires.contexts

pub sift-sift_layer-requires : goal.sift-sift_layer-requires
sift-sift_layer-requires t c =
    let e = sym c.cover.ensures in
    let s = sym c.as_slice.ensures.value in
    let f = c.requires.blocks.fits c.args.number (Layer c.in-Layer.runs) (c.block.ensures.found ∙ ap Some c.in-Layer.is) in
    let has = subst (λ (r : Cover). HasField r.level.now) e f.0 in
    let Fit = λ (r : Cover). All (FitsRun c.args.self.now.covers.items c.args.number r.level.now) in
    let fit = subst (Fit c.cover.result) s (subst (λ (r : Cover). Fit r c.in-Layer.runs.items) e f.1) in
    let contexts = subst (λ (r : Cover). AreContexts c.args.sets.now r.level.now c.args.contexts.now) e c.requires.contexts in
    (omega (arith, c.decreases), (c.requires.blocks, (c.requires.memo, (has, (c.requires.number, (fit, (subst RiseApart s f.2, contexts)))))))

pub sift-sift_two-requires : goal.sift-sift_two-requires
sift-sift_two-requires t c =
    let f = c.requires.blocks.fits c.args.number (Two c.in-Two.first c.in-Two.second) (c.block.ensures.found ∙ ap Some c.in-Two.is) in
    let first : c.in-Two.first < length c.args.self.now.blocks.items = omega (arith, f.0, c.requires.number) in
    let second : c.in-Two.second < length c.args.self.now.blocks.items = omega (arith, f.1, c.requires.number) in
    let contexts = subst (λ l. AreContexts c.args.sets.now l c.args.contexts.now) (sym f.2) c.requires.contexts in
    (omega (arith, c.decreases, f.0, f.1), (c.requires.blocks, (c.requires.memo, (first, (second, (f.3 ∙ sym f.2, contexts))))))

pub sift-returns-in_ok-sifted-in-Last-clause-sifted : goal.sift-returns-in_ok-sifted-in-Last-clause-sifted
sift-returns-in_ok-sifted-in-Last-clause-sifted t c =
    let blocks = c.args.self.now.blocks.items in
    let found = c.block.ensures.found ∙ ap Some c.in-Last.is in
    moved c.last.new.sets [] (cover_at c.args.self.now.covers.items c.args.number).level.now (last_row c.in-Last.decision ∷ []) (rows_of blocks c.args.number) c.args.contexts.now c.in_ok-sifted-in-Last.sifted
    (c.requires.blocks.fits c.args.number (Last c.in-Last.decision) found) (last_rows blocks c.args.number c.in-Last.decision found) c.in_ok-sifted-in-Last.ensures.sifted

pub sift-returns-in_ok-sifted-in-Last-clause-memo : goal.sift-returns-in_ok-sifted-in-Last-clause-memo
sift-returns-in_ok-sifted-in-Last-clause-memo t c =
    memo_stays c.args.sets.now c.last.new.sets c.args.self.now (λ q. get same_asked c.args.memo.now.done q) c.in_ok-sifted-in-Last.ensures.grows c.requires.memo

pub sift-returns-in_ok-sifted-in-Layer-clause-sifted : goal.sift-returns-in_ok-sifted-in-Layer-clause-sifted
sift-returns-in_ok-sifted-in-Layer-clause-sifted t c =
    let blocks = c.args.self.now.blocks.items in
    let found = c.block.ensures.found ∙ ap Some c.in-Layer.is in
    moved c.sift_layer.new.sets c.cover.result.level.now (cover_at c.args.self.now.covers.items c.args.number).level.now (rows_of_runs (map (run_by (rows_of blocks)) c.as_slice.result.now)) (rows_of blocks c.args.number)
    c.args.contexts.now c.in_ok-sifted-in-Layer.sifted (ap (λ (r : Cover). r.level.now) (sym c.cover.ensures))
    (layer_rows blocks c.args.number c.in-Layer.runs (leads c.args.sets.now blocks c.args.self.now.covers.items c.requires.blocks) found ∙ ap (λ rs. rows_of_runs (map (run_by (rows_of blocks)) rs)) (sym c.as_slice.ensures.value))
    c.in_ok-sifted-in-Layer.ensures.sifted

pub sift-returns-in_ok-sifted-in-Two-clause-sifted : goal.sift-returns-in_ok-sifted-in-Two-clause-sifted
sift-returns-in_ok-sifted-in-Two-clause-sifted t c =
    let blocks = c.args.self.now.blocks.items in
    let covers = c.args.self.now.covers.items in
    let found = c.block.ensures.found ∙ ap Some c.in-Two.is in
    let f = c.requires.blocks.fits c.args.number (Two c.in-Two.first c.in-Two.second) found in
    moved c.sift_two.new.sets (cover_at covers c.in-Two.first).level.now (cover_at covers c.args.number).level.now (rows_of blocks c.in-Two.first ++ rows_of blocks c.in-Two.second) (rows_of blocks c.args.number)
    c.args.contexts.now c.in_ok-sifted-in-Two.sifted (sym f.2) (two_rows blocks c.args.number c.in-Two.first c.in-Two.second (leads c.args.sets.now blocks covers c.requires.blocks) found) c.in_ok-sifted-in-Two.ensures.sifted

pub sift_layer-loop-run-init : goal.sift_layer-loop-run-init
sift_layer-loop-run-init t c = record {
  grows = stays c.args.sets.now;
  memo = c.requires.memo;
  draft = draft_start c.args.sets.now c.args.level.now c.args.contexts.now (record { kept = c.new.result; changes = c.new-2.result }) c.is_store.ensures c.requires.level c.requires.contexts c.new.ensures.items c.new-2.ensures.items;
}

pub sift_layer-sift_run-requires : goal.sift_layer-sift_run-requires
sift_layer-sift_run-requires t c =
    let i = c.loop-run.invariant in
    let covers = c.args.self.now.covers.items in
    let fit = subst (FitsRun covers c.args.number c.args.level.now) (sym c.run-item.is) (c.requires.fit c.loop-run.run-index c.run-item.result (omega (arith, c.loop-run-test.true))) in
    let older = fit.older in
    let blocks = blocks_stay c.args.sets.now c.loop-run.sets c.args.self.now.blocks.items covers i.grows c.requires.blocks in
    let contexts = pairs-stay c.args.sets.now c.loop-run.sets c.args.level.now c.args.contexts.now (is_level c.args.level.now c.requires.level) i.grows c.requires.contexts in
    (omega (arith, c.decreases, older), (blocks, (i.memo, (c.requires.level, (omega (arith, older, c.requires.number), (fit.level, (fit.inside, contexts)))))))

pub sift_layer-loop-run-preserved : goal.sift_layer-loop-run-preserved
sift_layer-loop-run-preserved t c =
    let i = c.loop-run.invariant in
    let rows = rows_of c.args.self.now.blocks.items in
    let runs = c.args.runs.now in
    let k = c.loop-run.run-index in
    let r = c.run-item.result in
    let found = slice_get-get_or runs k r (omega (arith, c.loop-run-test.true)) ∙ ap Some (sym c.run-item.is) in record {
      grows = twice c.args.sets.now c.loop-run.sets c.sift_run.new.sets i.grows c.in_ok-sift_run.ensures.grows;
      memo = c.in_ok-sift_run.ensures.memo;
      draft = draft_next rows runs k r c.args.sets.now c.sift_run.new.sets c.args.level.now c.args.contexts.now c.sift_run.new.draft c.requires.apart found
          (c.in_ok-sift_run.ensures.draft c.args.sets.now (rows_of_runs (take k (map (run_by rows) runs))) (end_of 0 (take k (map (run_by rows) runs))) (above_front rows runs k r c.requires.apart found)
          (apart_front rows runs k r c.requires.apart found) i.draft);
    }

pub sift_layer-finished-requires : goal.sift_layer-finished-requires
sift_layer-finished-requires t c =
    let rows = rows_of c.args.self.now.blocks.items in
    let runs = c.args.runs.now in
    let seen = sym c.as_slice.ensures.value in
    let full = draft_full rows runs c.loop-run.run-index c.args.sets.now c.loop-run.sets c.args.level.now c.args.contexts.now c.loop-run.draft (omega arith) c.loop-run.invariant.draft in record {
      level = c.requires.level;
      contexts = pairs-stay c.args.sets.now c.loop-run.sets c.args.level.now c.args.contexts.now (is_level c.args.level.now c.requires.level) c.loop-run.invariant.grows c.requires.contexts;
      changes = changes_now c.args.sets.now c.loop-run.sets c.args.level.now c.args.contexts.now c.as_slice.result.now (rows_of_runs (map (run_by rows) runs)) c.loop-run.draft (end_of 0 (map (run_by rows) runs))
          (end_inside c.args.self.now.covers.items c.args.number c.args.level.now 0 rows runs (omega arith) c.requires.fit) seen full;
      numbers = numbers_now c.args.sets.now c.loop-run.sets c.args.level.now c.args.contexts.now c.as_slice.result.now (rows_of_runs (map (run_by rows) runs)) c.loop-run.draft (end_of 0 (map (run_by rows) runs))
          c.requires.level c.loop-run.invariant.grows c.requires.contexts seen full;
    }

pub sift_layer-returns-clause-sifted : goal.sift_layer-returns-clause-sifted
sift_layer-returns-clause-sifted t c =
    let rows = rows_of c.args.self.now.blocks.items in
    let runs = c.args.runs.now in
    let full = draft_full rows runs c.loop-run.run-index c.args.sets.now c.loop-run.sets c.args.level.now c.args.contexts.now c.loop-run.draft (omega arith) c.loop-run.invariant.draft in
    layer_end c.args.sets.now c.loop-run.sets c.finished.new.sets c.args.level.now (end_of 0 (map (run_by rows) runs)) (rows_of_runs (map (run_by rows) runs)) c.args.contexts.now c.loop-run.draft c.as_slice.result.now
    (record { kept = c.loop-run.draft.kept; after = c.in_ok-after.after }) c.requires.level c.loop-run.invariant.grows c.in_ok-after.ensures.grows c.requires.contexts full (sym c.as_slice.ensures.value) refl
    c.in_ok-after.ensures.count c.in_ok-after.ensures.each

pub sift_layer-returns-clause-memo : goal.sift_layer-returns-clause-memo
sift_layer-returns-clause-memo t c =
    memo_stays c.loop-run.sets c.finished.new.sets c.args.self.now (λ q. get same_asked c.loop-run.memo.done q) c.in_ok-after.ensures.grows c.loop-run.invariant.memo

pub sift_run-sift-requires : goal.sift_run-sift-requires
sift_run-sift-requires t c =
    let contexts = pairs_listed c.args.sets.now c.args.level.now (cover_at c.args.self.now.covers.items c.args.run.block).level.now c.args.run.span c.args.contexts.now c.in_ok-below.below.pairs.items c.as_slice.result.now
    c.in_ok-below.below.stretches.items c.is_store.ensures c.requires.level c.requires.next c.requires.contexts c.requires.inside c.in_ok-below.ensures c.as_slice.ensures in
    (omega (arith, c.decreases), (c.requires.blocks, (c.requires.memo, (c.requires.block, contexts))))

pub sift_run-take_in-requires : goal.sift_run-take_in-requires
sift_run-take_in-requires t c =
    let found = subst (λ k. IfSome k (λ s. IsAnswered c.args.sets.now c.args.self.now c.args.run.block c.in_ok-below.below.pairs.items s.now)) c.in-Some.is (c.get.ensures c.args.sets.now c.args.self.now c.requires.memo) in
    answers_room c.args.sets.now c.args.sets.now (cover_at c.args.self.now.covers.items c.args.run.block).level.now (rows_of c.args.self.now.blocks.items c.args.run.block) c.args.run.span c.args.contexts.now
    c.in_ok-below.below.pairs.items c.in_ok-below.below.pairs.items c.in_ok-below.below.stretches.items c.as_slice-stretches.result.now c.in-Some.known.now refl c.as_slice-stretches.ensures c.in_ok-below.ensures found.sifted

pub sift_run-returns-in-Some-clause-draft : goal.sift_run-returns-in-Some-clause-draft
sift_run-returns-in-Some-clause-draft t c = λ base rows next above apart draft.
    let found = subst (λ k. IfSome k (λ s. IsAnswered c.args.sets.now c.args.self.now c.args.run.block c.in_ok-below.below.pairs.items s.now)) c.in-Some.is (c.get.ensures c.args.sets.now c.args.self.now c.requires.memo) in
    on_ok_weaker c.take_in.result
    (λ taken.
    run_clause base c.args.sets.now c.args.sets.now c.args.level.now (cover_at c.args.self.now.covers.items c.args.run.block).level.now rows (rows_of c.args.self.now.blocks.items c.args.run.block) c.args.contexts.now
    c.in_ok-below.below.pairs.items c.in_ok-below.below.pairs.items next c.args.run.span c.in_ok-below.below.stretches.items c.as_slice-stretches.result.now c.in-Some.known.now c.args.draft.now c.take_in.new.draft
    c.requires.next refl c.as_slice-stretches.ensures c.requires.level (stays c.args.sets.now) c.requires.contexts c.requires.inside c.in_ok-below.ensures found.sifted above apart draft taken)
    c.take_in.ensures

pub sift_run-take_in-requires-2 : goal.sift_run-take_in-requires-2
sift_run-take_in-requires-2 t c =
    answers_room c.args.sets.now c.sift.new.sets (cover_at c.args.self.now.covers.items c.args.run.block).level.now (rows_of c.args.self.now.blocks.items c.args.run.block) c.args.run.span c.args.contexts.now
    c.in_ok-below.below.pairs.items c.as_slice.result.now c.in_ok-below.below.stretches.items c.as_slice-stretches.result.now c.in_ok-inner.inner c.as_slice.ensures c.as_slice-stretches.ensures c.in_ok-below.ensures c.in_ok-inner.ensures.sifted

pub sift_run-returns-clause-draft : goal.sift_run-returns-clause-draft
sift_run-returns-clause-draft t c = λ base rows next above apart draft.
    on_ok c.keep.result
    (run_clause base c.args.sets.now c.sift.new.sets c.args.level.now (cover_at c.args.self.now.covers.items c.args.run.block).level.now rows (rows_of c.args.self.now.blocks.items c.args.run.block) c.args.contexts.now
    c.in_ok-below.below.pairs.items c.as_slice.result.now next c.args.run.span c.in_ok-below.below.stretches.items c.as_slice-stretches.result.now c.in_ok-inner.inner c.args.draft.now c.take_in-2.new.draft
    c.requires.next c.as_slice.ensures c.as_slice-stretches.ensures c.requires.level c.in_ok-inner.ensures.grows c.requires.contexts c.requires.inside c.in_ok-below.ensures c.in_ok-inner.ensures.sifted above apart draft c.in_ok-take_in.ensures)

pub sift_run-returns-clause-memo : goal.sift_run-returns-clause-memo
sift_run-returns-clause-memo t c =
    let covers = c.args.self.now.covers.items in
    let rows = rows_of c.args.self.now.blocks.items c.args.run.block in
    let level = (cover_at covers c.args.run.block).level.now in
    let within = (c.requires.blocks.covered c.args.run.block c.requires.block).within in
    let asked = pairs_listed c.args.sets.now c.args.level.now level c.args.run.span c.args.contexts.now c.in_ok-below.below.pairs.items c.in_ok-below.below.pairs.items
    c.in_ok-below.below.stretches.items c.is_store.ensures c.requires.level c.requires.next c.requires.contexts c.requires.inside c.in_ok-below.ensures refl in
    c.keep.ensures c.sift.new.sets c.args.self.now c.in_ok-inner.ensures.memo
    (record {
      there = c.requires.block;
      within = within;
      contexts = pairs-stay c.args.sets.now c.sift.new.sets level c.in_ok-below.below.pairs.items within c.in_ok-inner.ensures.grows asked;
      sifted = subst (λ ps. IsSifted c.sift.new.sets level rows ps c.in_ok-inner.inner) c.as_slice.ensures c.in_ok-inner.ensures.sifted;
    })

pub sift_two-behind_cover-requires : goal.sift_two-behind_cover-requires
sift_two-behind_cover-requires t c =
    let e = sym c.cover.ensures in
    let covered = c.requires.blocks.covered c.args.first c.requires.first in record {
      within = subst (λ (r : Cover). IsLevel r.level.now) e covered.within;
      cover = subst (λ (r : Cover). level_of c.args.sets.now r.set.0 ≡ r.level.now) e covered.level;
      contexts = subst (λ (r : Cover). AreContexts c.args.sets.now r.level.now c.args.contexts.now) e c.requires.contexts;
    }

pub sift_two-sift-requires : goal.sift_two-sift-requires
sift_two-sift-requires t c =
    let nodes = c.behind_cover.new.sets in
    let covers = c.args.self.now.covers.items in
    let behind = c.in_ok-behind.ensures in
    let blocks = blocks_stay c.args.sets.now nodes c.args.self.now.blocks.items covers behind.grows c.requires.blocks in
    let memo = memo_stays c.args.sets.now nodes c.args.self.now (λ q. get same_asked c.args.memo.now.done q) behind.grows c.requires.memo in
    let contexts = subst (λ l. AreContexts nodes l c.in_ok-behind.behind.items) (ap (λ (r : Cover). r.level.now) c.cover.ensures ∙ sym c.requires.level) behind.level in
    (omega (arith, c.decreases), (blocks, (memo, (c.requires.second, subst (AreContexts nodes (cover_at covers c.args.second).level.now) (sym c.as_slice.ensures) contexts))))

pub sift_two-before_answers-requires : goal.sift_two-before_answers-requires
sift_two-before_answers-requires t c =
    ap (λ ids. length ids) c.as_slice-2.ensures.value ∙ c.in_ok-later.ensures.sifted.count ∙ ap (λ ps. length ps) c.as_slice.ensures ∙ c.in_ok-behind.ensures.count

pub sift_two-sift-requires-2 : goal.sift_two-sift-requires-2
sift_two-sift-requires-2 t c =
    let nodes = c.sift.new.sets in
    let covers = c.args.self.now.covers.items in
    let later = c.in_ok-later.ensures in
    let before = c.in_ok-before.ensures in
    let g = twice c.args.sets.now c.behind_cover.new.sets nodes c.in_ok-behind.ensures.grows later.grows in
    let count = later.sifted.count ∙ ap (λ ps. length ps) c.as_slice.ensures ∙ c.in_ok-behind.ensures.count in
    let contexts = before_pairs c.args.sets.now nodes (cover_at covers c.args.first).level.now (cover_at covers c.args.second).level.now c.args.contexts.now c.in_ok-before.before.items c.as_slice-3.result.now c.as_slice-2.result.now
    c.in_ok-later.later (c.requires.blocks.covered c.args.first c.requires.first).within g c.requires.contexts c.requires.level later.sifted.numbers count c.as_slice-2.ensures.value before.count before.after before.met c.as_slice-3.ensures in
    (omega (arith, c.decreases), (blocks_stay c.args.sets.now nodes c.args.self.now.blocks.items covers g c.requires.blocks, (later.memo, (c.requires.first, contexts))))

pub sift_two-returns-clause-sifted : goal.sift_two-returns-clause-sifted
sift_two-returns-clause-sifted t c =
    let blocks = c.args.self.now.blocks.items in
    let nodes = c.sift-2.new.sets in
    let covers = c.args.self.now.covers.items in
    two_end c.args.sets.now c.behind_cover.new.sets c.sift.new.sets nodes (rows_of blocks c.args.first) (rows_of blocks c.args.second) c.args.contexts.now
    c.in_ok-behind.behind.items c.in_ok-before.before.items c.as_slice.result.now c.as_slice-3.result.now (cover_at covers c.args.first) c.cover.result (cover_at covers c.args.second).level.now
    c.in_ok-later.later c.in_ok-earlier.earlier _ c.in_ok-behind.ensures.grows c.in_ok-later.ensures.grows c.in_ok-earlier.ensures.grows c.requires.contexts (c.requires.blocks.covered c.args.first c.requires.first)
    c.cover.ensures c.requires.level c.as_slice.ensures c.as_slice-3.ensures c.in_ok-behind.ensures.count c.in_ok-before.ensures.count c.in_ok-behind.ensures.level c.in_ok-behind.ensures.each
    (λ k less. c.in_ok-before.ensures.after k less ∙ ap (λ ids. node_at ids k) c.as_slice-2.ensures.value) c.in_ok-before.ensures.met
    c.in_ok-later.ensures.sifted c.in_ok-earlier.ensures.sifted (c.in_ok-extend_from_slice.ensures.items ∙ ap (λ ks. c.in_ok-earlier.earlier.kept.items ++ ks) c.as_slice-4.ensures.value) refl

pub sift_layer-returns-in_err-sift_run-clause-grows : goal.sift_layer-returns-in_err-sift_run-clause-grows
sift_layer-returns-in_err-sift_run-clause-grows t c = twice c.args.sets.now c.loop-run.sets c.sift_run.new.sets c.loop-run.invariant.grows c.in_err-sift_run.ensures.grows

pub sift_layer-returns-in_err-after-clause-grows : goal.sift_layer-returns-in_err-after-clause-grows
sift_layer-returns-in_err-after-clause-grows t c = twice c.args.sets.now c.loop-run.sets c.finished.new.sets c.loop-run.invariant.grows c.in_err-after.ensures.grows

pub sift_layer-returns-clause-grows : goal.sift_layer-returns-clause-grows
sift_layer-returns-clause-grows t c = twice c.args.sets.now c.loop-run.sets c.finished.new.sets c.loop-run.invariant.grows c.in_ok-after.ensures.grows

pub sift_run-returns-in_err-below-clause-grows : goal.sift_run-returns-in_err-below-clause-grows
sift_run-returns-in_err-below-clause-grows t c = stays c.args.sets.now

pub sift_two-returns-in_err-later-clause-grows : goal.sift_two-returns-in_err-later-clause-grows
sift_two-returns-in_err-later-clause-grows t c = twice c.args.sets.now c.behind_cover.new.sets c.sift.new.sets c.in_ok-behind.ensures.grows c.in_err-later.ensures.grows

pub sift_two-returns-in_err-before-clause-grows : goal.sift_two-returns-in_err-before-clause-grows
sift_two-returns-in_err-before-clause-grows t c = twice c.args.sets.now c.behind_cover.new.sets c.sift.new.sets c.in_ok-behind.ensures.grows c.in_ok-later.ensures.grows

pub sift_two-returns-in_err-earlier-clause-grows : goal.sift_two-returns-in_err-earlier-clause-grows
sift_two-returns-in_err-earlier-clause-grows t c =
    twice c.args.sets.now c.sift.new.sets c.sift-2.new.sets (twice c.args.sets.now c.behind_cover.new.sets c.sift.new.sets c.in_ok-behind.ensures.grows c.in_ok-later.ensures.grows) c.in_err-earlier.ensures.grows

pub sift_two-returns-in_err-extend_from_slice-clause-grows : goal.sift_two-returns-in_err-extend_from_slice-clause-grows
sift_two-returns-in_err-extend_from_slice-clause-grows t c =
    twice c.args.sets.now c.sift.new.sets c.sift-2.new.sets (twice c.args.sets.now c.behind_cover.new.sets c.sift.new.sets c.in_ok-behind.ensures.grows c.in_ok-later.ensures.grows) c.in_ok-earlier.ensures.grows

pub sift_two-returns-clause-grows : goal.sift_two-returns-clause-grows
sift_two-returns-clause-grows t c =
    twice c.args.sets.now c.sift.new.sets c.sift-2.new.sets (twice c.args.sets.now c.behind_cover.new.sets c.sift.new.sets c.in_ok-behind.ensures.grows c.in_ok-later.ensures.grows) c.in_ok-earlier.ensures.grows
