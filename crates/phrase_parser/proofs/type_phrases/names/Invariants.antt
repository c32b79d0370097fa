use Rattle.std.proofs.Common.{◌≡◌, ◌-◌}
use Rattle.elan_tree.specs.declared.token.Sign.TheVariants as sign
use Rattle.elan_grammar.specs.Rule.{steps_run, further, seen}
use Rattle.elan_grammar.specs.Kinds.{goes_on}
use Rattle.elan_grammar.specs.Terminals.{mark, ident}
use Rattle.elan_grammar.specs.Types.{names}
use Rattle.phrase_parser.proofs.type_phrases.names.Given as goal

abbrev pub invariant-loop-turn : goal.invariant-loop-turn
invariant-loop-turn l =
    names.run l.fn.cursor.rest.now ≡ steps_run (further (seen goes_on (mark sign.Comma)) ident) (l._turn-end - l._turn) l.names l.cursor.rest.now
