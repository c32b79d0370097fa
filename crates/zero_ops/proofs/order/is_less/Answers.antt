use Rattle.std.proofs.Common.{refl, arith}
use Rattle.std.proofs.lemmas.Bool.Decides.{nat_tests}
use Rattle.std.proofs.lemmas.Cmp.{same_from_slice_cmp_tested}
use Rattle.std.specs.Ordering.{nat_cmp, is_lt}
use Rattle.eu_base.specs.Texts.{is_less}
use Rattle.zero_ops.proofs.order.is_less.Goals as goal

pub returns : goal.returns
returns c =
    same_from_slice_cmp_tested nat_cmp is_lt is_less refl (λ _ _. refl) (λ _ _. refl) (λ x y xs ys o e. grind (arith, nat_tests)) c.args.s.now c.args.t.now
    c.lt.result c.lt.ensures
