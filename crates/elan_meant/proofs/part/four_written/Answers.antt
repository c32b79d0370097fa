use Rattle.std.proofs.Common.{Option}
use Rattle.elan_types.specs.declared.core_phrase.ValuePhrase.{ValuePhrase}
use Rattle.elan_meant.specs.Parts.{written}
use Rattle.elan_meant.proofs.Halves.{pair_is}
use Rattle.elan_meant.proofs.part.four_written.Goals as goal

pub returns : goal.returns
returns c =
    let first : Option ValuePhrase × Option ValuePhrase = (written c.args.first.0, written c.args.first.1) in
    let second : Option ValuePhrase × Option ValuePhrase = (written c.args.second.0, written c.args.second.1) in
    pair_is c.both.result first second (c.both.ensures first second c.both_written-first.ensures c.both_written.ensures)
