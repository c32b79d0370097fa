use Rattle.zero_steps.proofs.Contents.{appended, not_appended}
use Rattle.zero_steps.proofs.Placed.{still_there}
use Rattle.zero_steps.proofs.change.append_at.Goals as goal

pub returns-in-Ok-clause-changes : goal.returns-in-Ok-clause-changes
returns-in-Ok-clause-changes g c =
    appended (g.M.Memory.holds c.args.m.now) (g.M.Memory.holds c.text.new.self) (g.M.Memory.holds c.set_text.new.self) c.args.at c.args.operand.now
    c.in_ok-text.text c.text-2.result.now c.in_ok-text.ensures.text c.in_ok-text.ensures.kept c.text-2.ensures c.append.new.s c.as_slice.result.now
    c.in_ok-set_text-in-Ok.field-0 c.in-Ok.ensures.ok c.as_slice.ensures c.in_ok-set_text-in-Ok.ensures.puts
    (g.met.M.Memory.room c.set_text.new.self c.args.at.area)

pub returns-in-Err-Stop-clause-changes : goal.returns-in-Err-Stop-clause-changes
returns-in-Err-Stop-clause-changes g c =
    not_appended (g.M.Memory.holds c.args.m.now) (g.M.Memory.holds c.text.new.self) (g.M.Memory.holds c.text.new.self) c.args.at c.args.operand.now
    c.in_ok-text.text c.text-2.result.now c.in_ok-text.ensures.text c.in_ok-text.ensures.kept c.text-2.ensures _
    (rw c.in-Err-Stop.field-0-is (rw c.in-Err-Stop.field-0-is at c.in-Err-Stop.ensures.err))

pub returns-in-Ok-clause-follows : goal.returns-in-Ok-clause-follows
returns-in-Ok-clause-follows g c = g.met.M.Memory.transitive _ _ _ c.text.ensures.follows c.set_text.ensures.follows

pub returns-in_err-set_text-in-Ok-clause-follows : goal.returns-in_err-set_text-in-Ok-clause-follows
returns-in_err-set_text-in-Ok-clause-follows g c = g.met.M.Memory.transitive _ _ _ c.text.ensures.follows c.set_text.ensures.follows

pub set_text-requires-clause-there : goal.set_text-requires-clause-there
set_text-requires-clause-there g c =
    still_there _ _ c.args.at.area c.text.ensures.heads c.requires.there
