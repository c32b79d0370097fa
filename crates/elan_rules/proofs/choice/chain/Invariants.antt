use Rattle.std.proofs.Common.{◌≡◌, length}
use Rattle.elan_meant.specs.Verdict.{gives}
use Rattle.elan_rules.specs.Choices.{chain}
use Rattle.elan_rules.proofs.choice.chain.Given as goal

abbrev pub invariant-loop-branch : goal.invariant-loop-branch
invariant-loop-branch l = chain l.at l.branches (gives l.rest) ≡ chain l.at l.fn.branches (gives l.fn.otherwise)

abbrev pub decreases-loop-branch : goal.decreases-loop-branch
decreases-loop-branch l = length l.branches
