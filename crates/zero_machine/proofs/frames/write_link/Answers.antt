use Rattle.zero_machine.proofs.Written.{link_so}
use Rattle.zero_machine.proofs.frames.write_link.Goals as goal

pub returns-clause-written : goal.returns-clause-written
returns-clause-written g c =
    link_so c.write_number-2.result (g.M.Memory.holds c.args.m.now) (g.M.Memory.holds c.write_number.new.m) (g.M.Memory.holds c.write_number-2.new.m) c.args.at
    c.in_ok-write_number.ensures.written c.write_number-2.ensures.written
