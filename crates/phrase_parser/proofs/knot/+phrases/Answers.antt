use Rattle.std.proofs.Common.{◌-◌, ap, sym, ◌∙◌, arith, Err}
use Rattle.elan_grammar.specs.declared.error.ParseError.{ParseError}
use Rattle.elan_grammar.proofs.Knots.{expr_zero, expr_parse, units_zero, units_parse}
use Rattle.phrase_parser.proofs.knot.+phrases.Goals as goal

pub expression-returns-then-depth-eq0 : goal.expression-returns-then-depth-eq0
expression-returns-then-depth-eq0 t c =
    λ _. expr_zero c.args.depth c.args.level c.args.cursor.now.rest.now (omega arith) ∙ ap (λ (e : ParseError). Err e) (sym c.refuse.ensures)

pub expression-returns : goal.expression-returns
expression-returns t c = expr_parse c.args.depth (c.args.depth - 1) c.args.level _ _ _ (omega arith) c.level.ensures

pub units-returns-then-depth-eq0 : goal.units-returns-then-depth-eq0
units-returns-then-depth-eq0 t c = λ _. units_zero c.args.depth c.args.cursor.now.rest.now (omega arith) ∙ ap (λ (e : ParseError). Err e) (sym c.refuse.ensures)

pub units-returns : goal.units-returns
units-returns t c = units_parse c.args.depth (c.args.depth - 1) _ _ _ (omega arith) c.units.ensures
