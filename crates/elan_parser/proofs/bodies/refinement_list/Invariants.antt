use Rattle.std.proofs.Common.{◌≡◌, ◌≤◌, ◌-◌}
use Rattle.elan_tree.specs.declared.token.Sign.TheVariants as sign
use Rattle.elan_cursor.specs.Passing.{GoesOn}
use Rattle.elan_grammar.specs.Rule.{steps_run, further, seen}
use Rattle.elan_grammar.specs.Kinds.{leads}
use Rattle.elan_grammar.specs.Terminals.{mark}
use Rattle.elan_grammar.specs.Grammar as grammar
use Rattle.elan_grammar.specs.Depth.{refinement_depth, deepest_of}
use Rattle.elan_parser.proofs.bodies.refinement_list.Given as goal

abbrev pub invariant-loop-turn : goal.invariant-loop-turn
invariant-loop-turn l =
    GoesOn ((grammar.refinement_list l.depth).run l.fn.cursor.rest.now)
    (λ row. ((grammar.refinement_list l.depth).run l.fn.cursor.rest.now
    ≡ steps_run (further (seen leads (mark sign.Point)) (grammar.refinement l.depth)) (l._turn-end - l._turn) row.tree l.cursor.rest.now)
    × (row.height ≡ deepest_of refinement_depth row.tree) × (row.height ≤ l.depth))
    l.row
