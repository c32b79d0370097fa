use Rattle.std.proofs.Common.{◌≡◌, ◌≤◌, ◌-◌}
use Rattle.elan_tree.specs.declared.token.Sign.TheVariants as sign
use Rattle.elan_cursor.specs.Passing.{GoesOn}
use Rattle.elan_grammar.specs.Rule.{steps_run, further}
use Rattle.elan_grammar.specs.Terminals.{mark}
use Rattle.elan_grammar.specs.Types.{formal, formals}
use Rattle.elan_grammar.specs.Depth.{formal_depth, deepest_of}
use Rattle.phrase_parser.proofs.parts.formals.Given as goal

abbrev pub invariant-loop-turn : goal.invariant-loop-turn
invariant-loop-turn l =
    GoesOn ((formals l.depth).run l.fn.cursor.rest.now)
    (λ row. ((formals l.depth).run l.fn.cursor.rest.now
    ≡ steps_run (further (mark sign.Comma) (formal l.depth)) (l._turn-end - l._turn) row.tree l.cursor.rest.now)
    × (row.height ≡ deepest_of formal_depth row.tree) × (row.height ≤ l.depth))
    l.row
