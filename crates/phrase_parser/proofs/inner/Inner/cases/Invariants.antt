use Rattle.std.proofs.Common.{◌≡◌, ◌<◌, ◌-◌}
use Rattle.elan_cursor.specs.Passing.{GoesOn}
use Rattle.elan_grammar.specs.Rule.{steps_run, one_more}
use Rattle.elan_grammar.specs.Expressions as expressions
use Rattle.elan_grammar.specs.Units as units
use Rattle.elan_grammar.specs.Depth.{case_depth, deepest_of}
use Rattle.phrase_parser.proofs.inner.Inner.cases.Given as goal

abbrev pub invariant-loop-turn : goal.invariant-loop-turn
invariant-loop-turn g l =
    GoesOn ((expressions.cases (units.phrases l.self.depth) l.self.depth).run l.fn.cursor.rest.now)
    (λ row. ((expressions.cases (units.phrases l.self.depth) l.self.depth).run l.fn.cursor.rest.now
    ≡ steps_run (one_more (expressions.a_case (units.phrases l.self.depth) l.self.depth)) (l._turn-end - l._turn) row.tree l.cursor.rest.now)
    × (row.height ≡ deepest_of case_depth row.tree) × (row.height < l.self.depth))
    l.row
