use Rattle.zero_steps.proofs.Receiving.{brought_so}
use Rattle.zero_steps.proofs.reply.brought.Goals as goal

pub returns-in-Given : goal.returns-in-Given
returns-in-Given c =
    brought_so c.message_values.result c.args.name c.args.waiting.now c.in-Given.reply c.args.made c.in-Given.is c.message_values.ensures
