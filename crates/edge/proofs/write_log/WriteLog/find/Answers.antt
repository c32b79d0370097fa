use Rattle.std.proofs.Common.{◌∙◌, ap, sym}
use Rattle.edge.specs.Disk.{Blocks}
use Rattle.edge.specs.Log.{blank, block_after, zeros}
use Rattle.edge.proofs.Kept.{block_now}
use Rattle.edge.proofs.write_log.WriteLog.find.Goals as goal

pub returns : goal.returns
returns c =
    let l = c.self.inside in
    rw (← c.self.view_is) (c.find.ensures ∙ ap (λ log. block_after log c.args.at zeros) c.deref.ensures.value
    ∙ sym (block_now blank l.kept.items c.args.at) ∙ ap (λ (blocks : Blocks). blocks c.args.at) c.self.invariant.content
    ∙ block_now blank l.trail.writes c.args.at)
