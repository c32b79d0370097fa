use Rattle.std.proofs.Common.{◌≡◌, ◌-◌}
use Rattle.elan_tree.specs.declared.token.Sign.TheVariants as sign
use Rattle.elan_grammar.specs.Rule.{steps_run, further}
use Rattle.elan_grammar.specs.Terminals.{mark}
use Rattle.elan_grammar.specs.Types.{label, labels}
use Rattle.phrase_parser.proofs.labels.labels.Given as goal

abbrev pub invariant-loop-turn : goal.invariant-loop-turn
invariant-loop-turn l =
    labels.run l.fn.cursor.rest.now
    ≡ steps_run (further (mark sign.Comma) label) (l._turn-end - l._turn) l.row l.cursor.rest.now
