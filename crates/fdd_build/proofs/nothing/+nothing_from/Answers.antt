use Rattle.std.proofs.Common.{sym, subst}
use Rattle.node_store.proofs.Canonical.{not_empty}
use Rattle.node_store.proofs.Values.{rest_is}
use Rattle.fdd_build.specs.Nothing.{AreNothing}
use Rattle.fdd_build.proofs.Zeros.{made}
use Rattle.fdd_build.proofs.nothing.+nothing_from.Goals as goal

pub returns-clause-nothing : goal.returns-clause-nothing
returns-clause-nothing t c =
    let has = not_empty c.args.level.now c.requires (sym c.if-is_empty.ensures) in
    made c.nothing_from.new.store c.everywhere.new.self c.args.level.now c.in_ok-ids.ids.items c.as_slice.result.now c.insert.new.self.items c.in_ok-id.id has
    c.in_ok-id.ensures.grows (subst (λ k. AreNothing c.nothing_from.new.store k c.in_ok-ids.ids.items) (rest_is c.args.level.now) c.in_ok-ids.ensures.nothing) c.as_slice.ensures c.in_ok-id.ensures.level c.in_ok-id.ensures.answers c.in_ok-insert.ensures.ok
