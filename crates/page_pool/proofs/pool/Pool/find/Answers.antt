use Rattle.std.proofs.Common.{◌∙◌, sym, subst, ap, List, ℕ, Contains}
use Rattle.std.specs.Option.{option_copied}
use Rattle.page_pool.specs.Pool.{Pages}
use Rattle.page_pool.proofs.Kept.{moved, found}
use Rattle.page_pool.proofs.pool.Pool.find.Goals as goal

pub returns-then-not-promote-clause-clean : goal.returns-then-not-promote-clause-clean
returns-then-not-promote-clause-clean c = λ entry has.
    subst (λ (pages : Pages). Contains pages.clean entry) c.self.view_is (moved c.self.inside.clean _ c.args.block _ entry c.promote.ensures.entries has)

pub returns-in_default-clause-clean : goal.returns-in_default-clause-clean
returns-in_default-clause-clean c = λ entry has.
    subst (λ (pages : Pages). Contains pages.clean entry) c.self.view_is (moved c.self.inside.clean _ c.args.block _ entry c.promote.ensures.entries has)

pub returns-clause-clean : goal.returns-clause-clean
returns-clause-clean c = λ entry has.
    subst (λ (pages : Pages). Contains pages.clean entry) c.self.view_is (moved c.self.inside.clean _ c.args.block _ entry c.promote.ensures.entries has)

pub returns-clause-found : goal.returns-clause-found
returns-clause-found c = λ yes.
    let same = c.copy_from_slice.ensures.after in
    subst (λ (bytes : List ℕ). Contains c.args.self.now.clean (c.args.block, bytes)) (sym same)
    (returns-clause-clean c _ (found c.promote.new.self c.args.block _ (sym c.peek.ensures ∙ ap option_copied c.in-Some.is)))
