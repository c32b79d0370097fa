use Rattle.std.proofs.Common.{◌≡◌, ◌<◌, ◌-◌}
use Rattle.elan_tree.specs.declared.token.Key.TheVariants as key
use Rattle.elan_cursor.specs.Passing.{GoesOn}
use Rattle.elan_grammar.specs.Rule.{steps_run, further}
use Rattle.elan_grammar.specs.Terminals.{keyword}
use Rattle.elan_grammar.specs.Expressions as expressions
use Rattle.elan_grammar.specs.Units as units
use Rattle.elan_grammar.specs.Depth.{branch_depth, deepest_of}
use Rattle.phrase_parser.proofs.inner.Inner.branches.Given as goal

abbrev pub invariant-loop-turn : goal.invariant-loop-turn
invariant-loop-turn g l =
    GoesOn ((expressions.branches (units.phrases l.self.depth) l.self.depth).run l.fn.cursor.rest.now)
    (λ row. ((expressions.branches (units.phrases l.self.depth) l.self.depth).run l.fn.cursor.rest.now
    ≡ steps_run (further (keyword key.Elif) (expressions.branch (units.phrases l.self.depth) l.self.depth)) (l._turn-end - l._turn) row.tree l.cursor.rest.now)
    × (row.height ≡ deepest_of branch_depth row.tree) × (row.height < l.self.depth))
    l.row
