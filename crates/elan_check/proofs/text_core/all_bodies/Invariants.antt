use Rattle.std.proofs.Common.{◌≡◌, ◌++◌}
use Rattle.elan_check.proofs.text_core.all_bodies.Given as goal

abbrev pub invariant-loop-body : goal.invariant-loop-body
invariant-loop-body l = l.all ≡ l.env.bodies ++ l.yielded
