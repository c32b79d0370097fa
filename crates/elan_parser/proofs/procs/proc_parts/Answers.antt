use Rattle.std.proofs.Common.{arith}
use Rattle.elan_grammar.specs.Grammar as grammar
use Rattle.elan_parser.proofs.procs.proc_parts.Goals as goal

pub returns-in_err-at : goal.returns-in_err-at
unfolding grammar.proc_parts grammar.end_name
returns-in_err-at c = grind arith

pub returns : goal.returns
unfolding grammar.proc_parts grammar.end_name
returns c = grind arith
