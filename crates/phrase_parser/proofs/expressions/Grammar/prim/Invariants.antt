use Rattle.std.proofs.Common.{◌≡◌, ◌≤◌, ◌-◌}
use Rattle.elan_grammar.specs.Rule.{steps_run}
use Rattle.elan_grammar.specs.Expressions as expressions
use Rattle.elan_grammar.specs.Units as units
use Rattle.elan_grammar.specs.Depth.{expr_depth}
use Rattle.phrase_parser.proofs.expressions.Grammar.prim.Given as goal

abbrev pub invariant-loop-turn : goal.invariant-loop-turn
invariant-loop-turn g l =
    ((expressions.prim (units.phrases l.self.depth) l.self.depth).run l.fn.cursor.rest.now
    ≡ steps_run (expressions.longer (units.phrases l.self.depth) l.self.depth) (l._turn-end - l._turn) l.of.tree l.cursor.rest.now)
    × (l.of.height ≡ expr_depth l.of.tree) × (l.of.height ≤ l.self.depth)
