use Rattle.std.proofs.Common.{◌+◌, arith}
use Rattle.table_compose.proofs.Padding.{plans_in_room, keeps_in_room}
use Rattle.table_compose.proofs.KeptPlans.{keeps_twice, less_room}
use Rattle.table_compose.proofs.diagram_plans.Plans.learn_all.Goals as goal

pub returns-in_err-make_room-clause-plans : goal.returns-in_err-make_room-clause-plans
returns-in_err-make_room-clause-plans c = plans_in_room c.args.store.now c.args.self.now c.make_room.new.self c.same_answers.ensures.store c.requires.plans c.make_room.ensures.more

pub returns-in_err-make_room-clause-earlier : goal.returns-in_err-make_room-clause-earlier
returns-in_err-make_room-clause-earlier c = keeps_in_room c.args.store.now c.args.self.now c.make_room.new.self c.same_answers.ensures.store c.requires.plans c.make_room.ensures.more

pub learn_node-requires-clause-room : goal.learn_node-requires-clause-room
learn_node-requires-clause-room c =
    let number = c.requires.root in
    let n = c.count.ensures in
    less_room c.make_room.new.self (c.args.root.0 + 1) c.count.result (omega (arith, number, n)) c.in_ok-make_room.ensures.room

pub learn_node-requires-clause-plans : goal.learn_node-requires-clause-plans
learn_node-requires-clause-plans c = plans_in_room c.args.store.now c.args.self.now c.make_room.new.self c.same_answers.ensures.store c.requires.plans c.make_room.ensures.more

pub returns-in_err-whole-clause-earlier : goal.returns-in_err-whole-clause-earlier
returns-in_err-whole-clause-earlier c =
    keeps_twice c.args.self.now c.make_room.new.self c.learn_node.new.self
    (keeps_in_room c.args.store.now c.args.self.now c.make_room.new.self c.same_answers.ensures.store c.requires.plans c.make_room.ensures.more) c.learn_node.ensures.learns.keeps

pub returns-clause-earlier : goal.returns-clause-earlier
returns-clause-earlier c =
    keeps_twice c.args.self.now c.make_room.new.self c.learn_node.new.self
    (keeps_in_room c.args.store.now c.args.self.now c.make_room.new.self c.same_answers.ensures.store c.requires.plans c.make_room.ensures.more) c.learn_node.ensures.learns.keeps
