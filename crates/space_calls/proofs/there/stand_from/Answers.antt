use Rattle.std.proofs.Common.{arith, sym, ◌∙◌, ap, refl, true, false, ◌≡◌, ℕ}
use Rattle.std.specs.Prelude.{Result}
use Rattle.eu_base.specs.declared.value.Kind.{Kind}
use Rattle.eu_base.specs.Shapes.{cell_kinds}
use Rattle.space_calls.specs.Kinds.{kind_is}
use Rattle.space_calls.proofs.Found.{kinds_go_on, kinds_end}
use Rattle.space_calls.proofs.there.stand_from.Goals as goal

pub returns-then-not-is_found : goal.returns-then-not-is_found
returns-then-not-is_found c =
    sym (c.loop-kind.invariant.1
    ∙ kinds_end c.args.kinds.now (cell_kinds c.args.shape.now) c.loop-kind.kind-index c.loop-kind.place _ _ c.loop-kind-test.true refl c.found.result
    c.is_found.result c.found.ensures c.is_found.ensures c.if-not-is_found.true)

pub loop-kind-preserved : goal.loop-kind-preserved
loop-kind-preserved c = (
  omega (arith, c.loop-kind.invariant.0),
  c.loop-kind.invariant.1
      ∙ kinds_go_on c.args.kinds.now (cell_kinds c.args.shape.now) c.loop-kind.kind-index c.loop-kind.place _ _ c.loop-kind-test.true refl c.found.result
      c.is_found.result c.found.ensures c.is_found.ensures c.if-not-is_found.false,
)
