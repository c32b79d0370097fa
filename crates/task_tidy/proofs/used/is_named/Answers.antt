use Rattle.std.proofs.Common.{sym, ◌∙◌}
use Rattle.std.specs.Prelude.{◌==◌}
use Rattle.task_tidy.proofs.Named.{found_there, none_more}
use Rattle.task_tidy.proofs.used.is_named.Goals as goal

pub returns-then-eq : goal.returns-then-eq
returns-then-eq c =
    sym (found_there (λ entry. entry.1.0 == c.args.space.0) c.args.memory.now.names c.loop-k.k (c.in-Some.field-0-0.now, c.in-Some.s) c.in-Some.ensures.pair
    (sym c.eq.ensures ∙ c.if-eq.true))

pub loop-k-preserved : goal.loop-k-preserved
loop-k-preserved c =
    none_more (λ entry. entry.1.0 == c.args.space.0) c.args.memory.now.names c.loop-k.k (c.in-Some.field-0-0.now, c.in-Some.s) c.in-Some.ensures.pair
    (sym c.eq.ensures ∙ c.if-eq.false) c.loop-k.invariant
