use Rattle.std.proofs.Common.{rules, arith, ap, sym, ◌∙◌, ◌-◌, ◌++◌, ◌∷◌, [], ℕ}
use Rattle.prefix_min.specs.declared.row.PrefixRow.{PrefixRow}
use Rattle.prefix_min.proofs.Walking.{choice_at, here, here-below, here-inside, walk-end, walk-loud, walk-quiet}
use Rattle.prefix_min.proofs.plan.Plan.+write.Goals as goal

pub bounds-self-until : goal.bounds-self-until
bounds-self-until t c = here-inside c.loop-until.invariant c.loop-until-test.true

pub offset_bounds-self-until : goal.offset_bounds-self-until
offset_bounds-self-until t c =
    let inside = here-inside c.loop-until.invariant c.loop-until-test.true in
    search rules

pub is_silent-requires : goal.is_silent-requires
is_silent-requires t c =
    let placed = (here c.loop-until.invariant c.loop-until-test.true).placed in
    record { ends = placed.ends; within = placed.within }

pub loop-until-preserved-then-is_silent : goal.loop-until-preserved-then-is_silent
loop-until-preserved-then-is_silent t c = walk-quiet c.loop-until.invariant c.loop-until-test.true (sym c.is_silent.ensures ∙ c.if-is_silent.true)

pub write-requires : goal.write-requires
write-requires t c =
    let w = c.loop-until.invariant in
    let at = here w c.loop-until-test.true in
    let below = here-below w c.loop-until-test.true in
    (omega (arith, below.0, below.1, w.within, c.loop-until-test.true, c.decreases), (at.below, at.laid_below))

pub loop-until-smaller : goal.loop-until-smaller
loop-until-smaller t c =
    let below = here-below c.loop-until.invariant c.loop-until-test.true in
    omega (arith, below.0, below.1, c.loop-until-test.true)

pub loop-until-preserved : goal.loop-until-preserved
loop-until-preserved t c =
    let l = c.loop-until in
    let x = choice_at c.args.self.now.choices.now l.until in
    let row : ℕ → PrefixRow = λ n. record { prefix = record { value = x.value; len = n }; label = x.label } in
    let pushed = c.in_ok-push.ensures.items ∙ ap (λ n. l.rows.items ++ row n ∷ []) (c.saturating_sub.ensures ∙ ap (λ n. n - x.bits) c.from.ensures) in
    walk-loud l.invariant c.loop-until-test.true pushed c.in_ok-write.ensures (sym c.is_silent.ensures ∙ c.if-is_silent.false)

pub returns : goal.returns
returns t c = walk-end c.loop-until.invariant c.loop-until-test.false
