use Rattle.std.proofs.Common.{◌≡◌, ◌≤◌, ◌-◌}
use Rattle.elan_tree.specs.declared.token.Sign.TheVariants as sign
use Rattle.elan_cursor.specs.Passing.{GoesOn}
use Rattle.elan_grammar.specs.Rule.{steps_run, further}
use Rattle.elan_grammar.specs.Terminals.{mark}
use Rattle.elan_grammar.specs.Grammar as grammar
use Rattle.elan_grammar.specs.Depth.{level_unit_depth, deepest_of}
use Rattle.elan_parser.proofs.texts.level_units.Given as goal

abbrev pub invariant-loop-turn : goal.invariant-loop-turn
invariant-loop-turn l =
    GoesOn ((grammar.level_units 400 399).run l.fn.cursor.rest.now)
    (λ row. ((grammar.level_units 400 399).run l.fn.cursor.rest.now
    ≡ steps_run (further (mark sign.Semicolon) (grammar.level_unit 400 399)) (l._turn-end - l._turn) row.tree l.cursor.rest.now)
    × (row.height ≡ deepest_of level_unit_depth row.tree) × (row.height ≤ 400))
    l.row
