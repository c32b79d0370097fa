use Rattle.elan_grammar.proofs.Starts.{of_units}
use Rattle.std.proofs.Common.{◌≡◌, refl, sym, ◌∙◌, rules, arith}
use Rattle.elan_grammar.specs.Units as units
use Rattle.elan_grammar.proofs.Starts.{let_starts, bound_starts, leave_starts, counted_starts, guarded_starts, repeated_starts, statement_starts}
use Rattle.phrase_parser.proofs.Nothing.{nothing_starts, nothing_deep}
use Rattle.phrase_parser.proofs.phrases.Phrases.plain.Goals as goal

pub returns-else-sees_expression : goal.returns-else-sees_expression
returns-else-sees_expression g c =
    let n = c.args.self.now.depth in
    let inner = units.phrases n in
    let xs = c.args.cursor.now.rest.now in (
      nothing_starts inner n xs (let_starts inner n xs ∙ sym c.sees_key.ensures ∙ c.if-sees_key.false)
          (bound_starts inner n xs ∙ sym c.sees_key-else-sees_key.ensures ∙ c.if-sees_key-2.false)
          (leave_starts inner n xs ∙ sym c.sees_key-else-sees_key-2.ensures ∙ c.if-sees_key-3.false)
          (counted_starts inner n xs ∙ sym c.sees_key-else-sees_key-3.ensures ∙ c.if-sees_key-4.false)
          (guarded_starts inner n xs ∙ sym c.sees_key-else-sees_key-4.ensures ∙ c.if-sees_key-5.false)
          (repeated_starts inner n xs ∙ sym c.sees_rep.ensures ∙ c.if-sees_rep.false)
          (statement_starts inner n xs ∙ sym c.sees_expression.ensures ∙ c.if-sees_expression.false),
      (nothing_deep, omega arith),
    )

pub returns-then-sees_key : goal.returns-then-sees_key
unfolding units.plain
returns-then-sees_key g c = grind (arith, of_units)

pub returns-then-sees_key-2 : goal.returns-then-sees_key-2
unfolding units.plain
returns-then-sees_key-2 g c = grind (arith, of_units)

pub returns-then-sees_key-3 : goal.returns-then-sees_key-3
unfolding units.plain
returns-then-sees_key-3 g c = grind (arith, of_units)

pub returns-then-sees_key-4 : goal.returns-then-sees_key-4
unfolding units.plain
returns-then-sees_key-4 g c = grind (arith, of_units)

pub returns-then-sees_key-5 : goal.returns-then-sees_key-5
unfolding units.plain
returns-then-sees_key-5 g c = grind (arith, of_units)

pub returns-then-sees_rep : goal.returns-then-sees_rep
unfolding units.plain
returns-then-sees_rep g c = grind (arith, of_units)

pub returns-then-sees_expression : goal.returns-then-sees_expression
unfolding units.plain
returns-then-sees_expression g c = grind (arith, of_units)
