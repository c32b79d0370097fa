use Rattle.elan_lexer.proofs.Laws as laws
use Rattle.elan_lexer.proofs.lexer.longest_match.Goals as goal

pub returns : goal.returns
returns c = laws.longest_match c.args.text.now
