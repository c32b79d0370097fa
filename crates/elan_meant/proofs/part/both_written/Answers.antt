use Rattle.elan_meant.specs.Parts.{written}
use Rattle.elan_meant.proofs.Halves.{pair_is}
use Rattle.elan_meant.proofs.part.both_written.Goals as goal

pub returns : goal.returns
returns c =
    let first = written c.args.first in
    let second = written c.args.second in
    pair_is c.both.result first second (c.both.ensures first second c.written-first.ensures c.written.ensures)
