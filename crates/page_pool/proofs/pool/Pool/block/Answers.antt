use Rattle.std.proofs.Common.{◌∙◌, inl, inr}
use Rattle.page_pool.proofs.Kept.{told_block}
use Rattle.page_pool.proofs.pool.Pool.block.Goals as goal

pub returns-then-find-clause-bytes : goal.returns-then-find-clause-bytes
returns-then-find-clause-bytes g c = λ told same. same c.find.new.into (c.find.ensures.found c.if-find.true)

pub returns-clause-clean : goal.returns-clause-clean
returns-clause-clean g c = λ entry has. elim (c.keep.ensures.clean entry has) [
  | inl was ↦ inl (c.find.ensures.clean entry was)
  | inr put ↦ inr (put.0, λ told. put.1 ∙ told_block (g.B.Backing.tells c.args.backing.now) c.args.block c.load.new.into told c.in_ok-load.ensures.bytes)
]
