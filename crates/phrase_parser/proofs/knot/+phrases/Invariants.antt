use Rattle.phrase_parser.proofs.knot.+phrases.Given as goal

abbrev pub decreases-expression : goal.decreases-expression
decreases-expression l = l.depth

abbrev pub decreases-units : goal.decreases-units
decreases-units l = l.depth
