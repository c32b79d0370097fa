use Rattle.zero_steps.proofs.Storing.{one_puts}
use Rattle.zero_steps.proofs.cells.put_operand.Goals as goal

pub returns-in-Value-clause-puts : goal.returns-in-Value-clause-puts
returns-in-Value-clause-puts g c =
    one_puts c.put.result (g.M.Memory.holds c.args.m.now) (g.M.Memory.holds c.put.new.m) c.args.at c.in-Value.value c.args.operand.now c.in-Value.is
    c.put.ensures.puts
