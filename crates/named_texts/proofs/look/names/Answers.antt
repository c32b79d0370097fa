use Rattle.std.proofs.Common.{◌++◌, [], ◌∷◌, sym, ap, ◌∙◌}
use Rattle.named_texts.proofs.Looking.{name_next}
use Rattle.named_texts.proofs.look.names.Goals as goal

pub loop-k-preserved : goal.loop-k-preserved
loop-k-preserved c =
    name_next c.args.memory.now.names c.loop-k.k c.in-Some.name.now c.in-Some.field-0-1 (sym c.in-Some.ensures.pair) c.loop-k.names c.push.new.self
    c.loop-k.invariant (c.in_ok-push.ensures.ok ∙ ap (λ t. c.loop-k.names ++ t ∷ []) c.in_ok-from.ensures)
