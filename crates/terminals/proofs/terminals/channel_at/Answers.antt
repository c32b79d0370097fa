use Rattle.terminals.proofs.Rows.{row_has_room}
use Rattle.terminals.proofs.terminals.channel_at.Goals as goal

pub returns-in-Err-clause-refused : goal.returns-in-Err-clause-refused
returns-in-Err-clause-refused c = λ cause are.
    c.in-Err.ensures.refused cause (row_has_room c.args.rows.now c.args.place c.index-rows-place.result are c.requires c.index-rows-place.is)
