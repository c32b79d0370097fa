use Rattle.phrase_parser.proofs.type_phrases.+types.Given as goal

abbrev pub decreases-types : goal.decreases-types
decreases-types l = l.depth
