use Rattle.razor_base.specs.Texts.{left_of}
use Rattle.std.proofs.Common.{[]}
use Rattle.razor_core.specs.Meaning.{at_the_end}
use Rattle.razor_core.proofs.Calls.{no_turns, over_calls}
use Rattle.razor_core.proofs.commands.run.Goals as goal

pub returns-in-Gen-clause-ends : goal.returns-in-Gen-clause-ends
returns-in-Gen-clause-ends g c = λ texts is. rw c.in-Gen.is (c.draw_list.ensures.ends (left_of g.D.Desk.reads texts c.args.desk.now) (g.D.Desk.faults c.args.desk.now))

pub returns-in-Selfrun-clause-ends : goal.returns-in-Selfrun-clause-ends
returns-in-Selfrun-clause-ends g c = λ texts is. rw c.in-Selfrun.is (c.run_load.ensures.ends (left_of g.D.Desk.reads texts c.args.desk.now) (g.D.Desk.faults c.args.desk.now))

pub returns-in-Make-clause-ends : goal.returns-in-Make-clause-ends
returns-in-Make-clause-ends g c = λ texts is. rw c.in-Make.is (c.make_table.ensures.ends texts is)

pub returns-in-Cert-clause-ends : goal.returns-in-Cert-clause-ends
returns-in-Cert-clause-ends g c = λ texts is. rw c.in-Cert.is (c.certify.ensures.ends texts is)

pub returns-in-Check-clause-ends : goal.returns-in-Check-clause-ends
returns-in-Check-clause-ends g c = λ texts is. rw c.in-Check.is (c.check_certificate.ensures.ends texts is)

pub returns-in-Trace-clause-ends : goal.returns-in-Trace-clause-ends
returns-in-Trace-clause-ends g c = λ texts is. rw c.in-Trace.is (c.answer_trace.ensures.ends texts is)

pub returns-in-Session-clause-ends : goal.returns-in-Session-clause-ends
returns-in-Session-clause-ends g c = λ texts is. rw c.in-Session.is (c.run_session.ensures.ends texts is)

pub returns-in-Patch-clause-ends : goal.returns-in-Patch-clause-ends
returns-in-Patch-clause-ends g c = λ texts is. rw c.in-Patch.is (c.plan_patch.ensures.ends texts is)

pub returns-in-Apply-clause-ends : goal.returns-in-Apply-clause-ends
returns-in-Apply-clause-ends g c = λ texts is. rw c.in-Apply.is (c.apply_plan.ensures.ends texts is)

pub returns-in-Verify-clause-ends : goal.returns-in-Verify-clause-ends
returns-in-Verify-clause-ends g c = λ texts is. rw c.in-Verify.is (c.verify_table.ensures.ends texts is)

pub returns-in-Prove-clause-ends : goal.returns-in-Prove-clause-ends
returns-in-Prove-clause-ends g c = λ texts is. rw c.in-Prove.is (c.prove_table.ensures.ends texts is)

-- the reads and the writes
pub returns-in-Make-clause-calls : goal.returns-in-Make-clause-calls
returns-in-Make-clause-calls g c = rw c.in-Make.is c.make_table.ensures.calls

pub returns-in-Equiv-clause-calls : goal.returns-in-Equiv-clause-calls
returns-in-Equiv-clause-calls g c = rw c.in-Equiv.is c.compare_lists.ensures.calls

pub returns-in-Cert-clause-calls : goal.returns-in-Cert-clause-calls
returns-in-Cert-clause-calls g c = rw c.in-Cert.is c.certify.ensures.calls

pub returns-in-Check-clause-calls : goal.returns-in-Check-clause-calls
returns-in-Check-clause-calls g c = rw c.in-Check.is c.check_certificate.ensures.calls

pub returns-in-Trace-clause-calls : goal.returns-in-Trace-clause-calls
returns-in-Trace-clause-calls g c = rw c.in-Trace.is c.answer_trace.ensures.calls

pub returns-in-Drive-clause-calls : goal.returns-in-Drive-clause-calls
returns-in-Drive-clause-calls g c = rw c.in-Drive.is c.run_script.ensures.calls

pub returns-in-Gen-clause-calls : goal.returns-in-Gen-clause-calls
returns-in-Gen-clause-calls g c = rw c.in-Gen.is (over_calls at_the_end [] c.draw_list.result (g.D.Desk.reads c.args.desk.now) (g.D.Desk.reads c.args.desk.now) (g.K.Sink.written c.args.out.now) (g.K.Sink.written c.draw_list.new.out) (no_turns (g.D.Desk.reads c.args.desk.now)) c.draw_list.ensures.writes)

pub returns-in-Selfrun-clause-calls : goal.returns-in-Selfrun-clause-calls
returns-in-Selfrun-clause-calls g c = rw c.in-Selfrun.is (over_calls at_the_end [] c.run_load.result (g.D.Desk.reads c.args.desk.now) (g.D.Desk.reads c.args.desk.now) (g.K.Sink.written c.args.out.now) (g.K.Sink.written c.run_load.new.out) (no_turns (g.D.Desk.reads c.args.desk.now)) c.run_load.ensures.writes)

pub returns-in-Migrate-clause-calls : goal.returns-in-Migrate-clause-calls
returns-in-Migrate-clause-calls g c = rw c.in-Migrate.is c.migrate_table.ensures.calls

pub returns-in-Merge-clause-calls : goal.returns-in-Merge-clause-calls
returns-in-Merge-clause-calls g c = rw c.in-Merge.is c.merge_table.ensures.calls

pub returns-in-Audit-clause-calls : goal.returns-in-Audit-clause-calls
returns-in-Audit-clause-calls g c = rw c.in-Audit.is c.audit_list.ensures.calls

pub returns-in-Query-clause-calls : goal.returns-in-Query-clause-calls
returns-in-Query-clause-calls g c = rw c.in-Query.is c.query_list.ensures.calls

pub returns-in-Session-clause-calls : goal.returns-in-Session-clause-calls
returns-in-Session-clause-calls g c = rw c.in-Session.is c.run_session.ensures.calls

pub returns-in-Trim-clause-calls : goal.returns-in-Trim-clause-calls
returns-in-Trim-clause-calls g c = rw c.in-Trim.is c.trim_table.ensures.calls

pub returns-in-Place-clause-calls : goal.returns-in-Place-clause-calls
returns-in-Place-clause-calls g c = rw c.in-Place.is c.place_table.ensures.calls

pub returns-in-Patch-clause-calls : goal.returns-in-Patch-clause-calls
returns-in-Patch-clause-calls g c = rw c.in-Patch.is c.plan_patch.ensures.calls

pub returns-in-Apply-clause-calls : goal.returns-in-Apply-clause-calls
returns-in-Apply-clause-calls g c = rw c.in-Apply.is c.apply_plan.ensures.calls

pub returns-in-Dump-clause-calls : goal.returns-in-Dump-clause-calls
returns-in-Dump-clause-calls g c = rw c.in-Dump.is c.dump_memory.ensures.calls

pub returns-in-Verify-clause-calls : goal.returns-in-Verify-clause-calls
returns-in-Verify-clause-calls g c = rw c.in-Verify.is c.verify_table.ensures.calls

pub returns-in-Prove-clause-calls : goal.returns-in-Prove-clause-calls
returns-in-Prove-clause-calls g c = rw c.in-Prove.is c.prove_table.ensures.calls
