use Rattle.std.proofs.Common.{subst}
use Rattle.std.proofs.lemmas.Result.{IfOk-weaker}
use Rattle.redundancy.specs.declared.blocks.Cover.{Cover}
use Rattle.redundancy_laws.specs.Sifted.{IsUnion}
use Rattle.redundancy.specs.Blocks.{cover_at}
use Rattle.redundancy.proofs.Builds.{two_built}
use Rattle.redundancy.proofs.blocks.Blocks.two.Goals as goal

pub returns : goal.returns
returns c =
    let covers = c.args.self.now.covers.items in
    let nodes = c.union.new.self in
    let set = c.in_ok-set.set in
    let level = c.args.level.now in
    let one = subst (λ (d : Cover). IsUnion nodes level d.set.0 c.cover-2.result.set.0 set.0) c.cover.ensures c.in_ok-set.ensures.union in
    let both = subst (λ (d : Cover). IsUnion nodes level (cover_at covers c.args.first).set.0 d.set.0 set.0) c.cover-2.ensures one in
    IfOk-weaker c.add.result _ _
    (λ number a. two_built c.args.sets.now nodes c.args.self.now c.add.new.self set c.args.level c.args.first c.args.second number c.in_ok-set.ensures.grows c.requires.blocks
    c.requires.level c.requires.first c.requires.second c.in_ok-set.ensures.level both a)
    c.add.ensures
