use Rattle.std.proofs.Common.{◌≡◌, ◌-◌}
use Rattle.elan_tree.specs.declared.token.Sign.TheVariants as sign
use Rattle.elan_grammar.specs.Rule.{steps_run, further}
use Rattle.elan_grammar.specs.Terminals.{word, mark, export_of}
use Rattle.elan_grammar.specs.Grammar as grammar
use Rattle.elan_parser.proofs.texts.export_list.Given as goal

abbrev pub invariant-loop-turn : goal.invariant-loop-turn
invariant-loop-turn l =
    grammar.export_list.run l.fn.cursor.rest.now
    ≡ steps_run (further (mark sign.Comma) (word export_of)) (l._turn-end - l._turn) l.row l.cursor.rest.now
