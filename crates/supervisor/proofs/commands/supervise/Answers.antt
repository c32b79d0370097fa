use Rattle.supervisor.specs.Below.system_meaning.specs.Monitor.{words_of}
use Rattle.supervisor.proofs.Worded.{worded_so}
use Rattle.supervisor.proofs.commands.supervise.Goals as goal

pub returns : goal.returns
returns c = λ read reads m stands.
    worded_so read c.supervised.new.system (words_of c.args.line.now) c.in_ok-command.command c.args.channel m c.in_ok-command.ensures
    (c.in_ok-supervised.ensures read reads m stands)
