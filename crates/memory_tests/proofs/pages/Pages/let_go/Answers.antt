use Rattle.memory_tests.proofs.Homes.{drops_backed}
use Rattle.memory_tests.proofs.pages.Pages.let_go.Goals as goal

pub invariant_of-self : goal.invariant_of-self
invariant_of-self c = record { backed = drops_backed _ _ _ c.drop_ref.ensures.sound c.drop_ref.ensures.drops c.args.self.now.backed }
