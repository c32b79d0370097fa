use Rattle.page_table.proofs.Common.{Shown, Writes, None, shown_of, subst}
use Rattle.page_table.proofs.Copies.{table_shown}
use Rattle.page_table.proofs.own.mark.Goals as goal

pub returns-clause-writes : goal.returns-clause-writes
returns-clause-writes c = subst (λ (s : Shown). Writes c.args.pool.now c.poke.new.self c.args.p s)
    (table_shown (shown_of c.args.pool.now c.args.p) c.requires.pinned (c.poke.ensures.long None)) (c.poke.ensures.writes None)
