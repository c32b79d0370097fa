use Rattle.std.proofs.Common.{◌-◌, ap, sym, ◌∙◌, arith, Err}
use Rattle.elan_grammar.specs.declared.error.ParseError.{ParseError}
use Rattle.elan_grammar.proofs.Knots.{types_zero, types_parse}
use Rattle.phrase_parser.proofs.type_phrases.+types.Goals as goal

pub returns-then-depth-eq0 : goal.returns-then-depth-eq0
returns-then-depth-eq0 t c = λ _. types_zero c.args.depth c.args.cursor.now.rest.now (omega arith) ∙ ap (λ (e : ParseError). Err e) (sym c.refuse.ensures)

pub returns : goal.returns
returns t c = types_parse c.args.depth (c.args.depth - 1) _ _ _ (omega arith) c.a_type.ensures
