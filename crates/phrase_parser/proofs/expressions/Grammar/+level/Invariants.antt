use Rattle.phrase_parser.proofs.expressions.Grammar.+level.Given as goal

abbrev pub decreases-level : goal.decreases-level
decreases-level g l = l.level
