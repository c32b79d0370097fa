use Rattle.std.proofs.Common.{◌≡◌, ◌≤◌, ◌-◌, length}
use Rattle.elan_grammar.specs.Rule.{steps_run}
use Rattle.elan_grammar.specs.Expressions as expressions
use Rattle.elan_grammar.specs.Units as units
use Rattle.elan_grammar.specs.Depth.{expr_depth}
use Rattle.phrase_parser.proofs.expressions.Grammar.more_dyadic.Given as goal

abbrev pub invariant-loop-turn : goal.invariant-loop-turn
invariant-loop-turn g l =
    (steps_run (expressions.dyadic (units.phrases l.self.depth) l.self.depth l.level) (length l.fn.cursor.rest.now) l.fn.left.tree
    l.fn.cursor.rest.now
    ≡ steps_run (expressions.dyadic (units.phrases l.self.depth) l.self.depth l.level) (l._turn-end - l._turn) l.left.tree
    l.cursor.rest.now)
    × (l.left.height ≡ expr_depth l.left.tree) × (l.left.height ≤ l.self.depth)
