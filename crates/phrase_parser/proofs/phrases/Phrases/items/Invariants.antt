use Rattle.std.proofs.Common.{◌≡◌, ◌≤◌, ◌-◌}
use Rattle.elan_tree.specs.declared.token.Sign.TheVariants as sign
use Rattle.elan_cursor.specs.Passing.{GoesOn}
use Rattle.elan_grammar.specs.Rule.{steps_run, further}
use Rattle.elan_grammar.specs.Terminals.{mark}
use Rattle.elan_grammar.specs.Units as units
use Rattle.elan_grammar.specs.Depth.{item_depth, deepest_of}
use Rattle.phrase_parser.specs.VarOrConst as either
use Rattle.phrase_parser.proofs.phrases.Phrases.items.Given as goal

abbrev pub invariant-loop-turn : goal.invariant-loop-turn
invariant-loop-turn g l =
    GoesOn ((either.items l.access (units.phrases l.self.depth) l.self.depth).run l.fn.cursor.rest.now)
    (λ row. ((either.items l.access (units.phrases l.self.depth) l.self.depth).run l.fn.cursor.rest.now
    ≡ steps_run (further (mark sign.Comma) (either.item l.access (units.phrases l.self.depth) l.self.depth)) (l._turn-end - l._turn) row.tree l.cursor.rest.now)
    × (row.height ≡ deepest_of item_depth row.tree) × (row.height ≤ l.self.depth))
    l.row
