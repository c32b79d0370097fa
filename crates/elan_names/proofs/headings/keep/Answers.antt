use Rattle.std.proofs.Common.{List, ℕ, subst}
use Rattle.elan_names.specs.walks.Numbers.{KeepsOtherNames}
use Rattle.elan_names.proofs.Numbered.{other_names}
use Rattle.elan_names.proofs.headings.keep.Goals as goal

pub returns-clause-others : goal.returns-clause-others
returns-clause-others c =
    subst (λ (n : List ℕ). KeepsOtherNames c.args.numbers.now c.insert.new.self n) c.in_ok-name.ensures.items
    (other_names c.args.numbers.now c.insert.new.self c.in_ok-name.name.items _ c.in_ok-insert.ensures.updates)
