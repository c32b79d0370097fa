use Rattle.zero_steps.proofs.Contents.{text_puts}
use Rattle.zero_steps.proofs.reading.put.Goals as goal

pub returns-in-Text-clause-puts : goal.returns-in-Text-clause-puts
returns-in-Text-clause-puts g c =
    text_puts c.set_text.result (g.M.Memory.holds c.args.m.now) (g.M.Memory.holds c.set_text.new.self) c.args.at c.args.value.now c.in-Text.text
    c.as_slice.result.now c.in-Text.is c.as_slice.ensures c.set_text.ensures.puts (g.met.M.Memory.room c.set_text.new.self c.args.at.area)
