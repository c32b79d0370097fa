use Rattle.std.proofs.Common.{arith}
use Rattle.phrase_parser.proofs.VarOrConst.{of_declarations}
use Rattle.elan_grammar.specs.Units as units
use Rattle.phrase_parser.proofs.VarOrConst.{no_access}
use Rattle.phrase_parser.proofs.phrases.Phrases.declared.Goals as goal

pub returns-in_err-of : goal.returns-in_err-of
returns-in_err-of g c =
    let n = c.args.self.now.depth in
    no_access (units.phrases n) n c.args.of.tree c.in_err-of.field-0.0 c.declaring.result _ _ _ c.in_err-of.ensures.behind c.from_residual.ensures
    c.declaring.ensures

pub returns-in_err-of-2 : goal.returns-in_err-of-2
returns-in_err-of-2 g c = grind (arith, of_declarations)

pub returns : goal.returns
returns g c = grind (arith, of_declarations)
