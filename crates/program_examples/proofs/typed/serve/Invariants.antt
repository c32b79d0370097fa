use Rattle.code_form.specs.Valid.{Fits}
use Rattle.program_examples.proofs.typed.serve.Given as goal

-- the command can go on
abbrev pub invariant-loop : goal.invariant-loop
invariant-loop g l = Fits l.code l.command
