use Rattle.std.proofs.Common.{◌≡◌, ◌<◌, ◌-◌}
use Rattle.elan_tree.specs.declared.token.Sign.TheVariants as sign
use Rattle.elan_cursor.specs.Passing.{GoesOn}
use Rattle.elan_grammar.specs.Rule.{steps_run, further}
use Rattle.elan_grammar.specs.Terminals.{mark}
use Rattle.elan_grammar.specs.Expressions as expressions
use Rattle.elan_grammar.specs.Units as units
use Rattle.elan_grammar.specs.Depth.{expr_depth, deepest_of}
use Rattle.phrase_parser.proofs.expressions.Grammar.actuals.Given as goal

abbrev pub invariant-loop-turn : goal.invariant-loop-turn
invariant-loop-turn g l =
    GoesOn ((expressions.actuals (units.phrases l.self.depth) l.self.depth).run l.fn.cursor.rest.now)
    (λ row. ((expressions.actuals (units.phrases l.self.depth) l.self.depth).run l.fn.cursor.rest.now
    ≡ steps_run (further (mark sign.Comma) (expressions.actual (units.phrases l.self.depth) l.self.depth)) (l._turn-end - l._turn) row.tree l.cursor.rest.now)
    × (row.height ≡ deepest_of expr_depth row.tree) × (row.height < l.self.depth))
    l.row
