use Rattle.std.proofs.Common.{◌≡◌, rules, sym, subst}
use Rattle.code_form.specs.Program.{Program}
use Rattle.code_form.specs.Valid.{IsValid}
use Rattle.code_gen.specs.Program.{program_of}
use Rattle.code_gen.specs.Correct.{Behaves}
use Rattle.code_gen.proofs.Tables.{valid}
use Rattle.code_gen.proofs.Whole.{behaves}
use Rattle.code_gen.proofs.code.generate.Goals as goal

pub new-requires : goal.new-requires
new-requires c =
    let made : Program = record {
      packets = c.in_ok-packets.packets;
      inserted = c.in_ok-inserted.inserted;
      variables = c.in_ok-variables.variables;
      start = c.in_ok-start.start;
      bodies = c.in_ok-bodies.bodies;
      lines = c.emit_bodies.new.out.lines;
    } in
    let e : made ≡ program_of c.args.core.now = search rules in
    subst IsValid (sym e) (valid c.args.core.now c.requires)

pub returns-clause-behaves : goal.returns-clause-behaves
returns-clause-behaves c =
    let e : c.new.result ≡ program_of c.args.core.now = search rules in
    subst (λ p. Behaves c.args.core.now p) (sym e) (behaves c.args.core.now c.requires)
