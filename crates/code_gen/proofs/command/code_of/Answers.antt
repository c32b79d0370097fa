use Rattle.std.proofs.Common.{◌≡◌, List, subst}
use Rattle.std.specs.Prelude.{IfOk}
use Rattle.elan_types.specs.declared.core_phrase.Body.{Body}
use Rattle.code_gen.specs.Program.{program_of}
use Rattle.code_gen.specs.Reached.{with_bodies}
use Rattle.code_gen.proofs.Coding.{is_code}
use Rattle.code_gen.proofs.command.code_of.Goals as goal

pub returns-clause-code : goal.returns-clause-code
returns-clause-code c =
    is_code c.args.core.now c.in_ok-bodies.bodies c.generate-code.result c.requires c.in_ok-bodies.ensures.left
    (subst (λ (bodies : List Body). IfOk c.generate-code.result (λ p. p ≡ program_of (with_bodies c.args.core.now bodies))) c.replace-all.ensures.after
    c.generate-code.ensures.code)
