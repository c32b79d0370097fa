use Rattle.std.proofs.Common.{arith, ap, ◌∙◌, List}
use Rattle.eu_base.specs.declared.value.Kind.{Kind}
use Rattle.eu_base.specs.Shapes.{cell_kinds}
use Rattle.state_spelling.proofs.Taken.{all_listed}
use Rattle.state_spelling.specs.Revived.{has_kinds}
use Rattle.state_spelling.proofs.kinds.is_of_shape.Goals as goal

pub returns : goal.returns
returns c =
    let all = all_listed 18446744073709551615 c.in_ok-kinds.kinds (cell_kinds c.args.shape.now) c.in_ok-kinds.ensures (omega (arith, c.len.ensures, c.if-len.false)) in
    c.has_kinds.ensures ∙ ap (λ (ks : List Kind). has_kinds c.args.operand.now ks) (c.as_slice.ensures ∙ all)
