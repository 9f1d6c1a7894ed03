use Rattle.std.proofs.Common.{[], subst, map}
use Rattle.std.specs.List.{flat_map}
use Rattle.std.proofs.lemmas.Result.{IfOk-weaker}
use Rattle.redundancy_laws.specs.Built.{row_at}
use Rattle.redundancy.specs.Blocks.{IsBuilt, rows_of}
use Rattle.redundancy.proofs.BlockRows.{blocks_stay}
use Rattle.redundancy.proofs.Gathering.{grown_built, numbers_built}
use Rattle.redundancy.proofs.blocks.Blocks.lasts.Goals as goal

pub each_last-requires-clause-blocks : goal.each_last-requires-clause-blocks
each_last-requires-clause-blocks c = blocks_stay c.args.sets.now c.full.new.self c.args.self.now.blocks.items c.args.self.now.covers.items c.in_ok-full.ensures.grows c.requires.blocks

pub returns : goal.returns
returns c =
    IfOk-weaker c.sequence.result _ _
    (λ number k. grown_built c.args.sets.now c.full.new.self c.sequence.new.sets c.args.self.now c.sequence.new.self [] (map (row_at []) c.args.entries.now) number c.in_ok-full.ensures.grows
    (numbers_built c.full.new.self c.full.new.self c.sequence.new.sets c.args.self.now c.each_last.new.self c.sequence.new.self [] (map (row_at []) c.args.entries.now) c.in_ok-numbers.numbers.items number c.in_ok-numbers.ensures.built
    (subst (λ ns. IsBuilt c.full.new.self c.sequence.new.sets c.each_last.new.self c.sequence.new.self [] (flat_map (rows_of c.each_last.new.self.blocks.items) ns) number) c.as_slice.ensures.value k)))
    c.sequence.ensures
