use Rattle.std.proofs.Common.{refl}
use Rattle.zero_steps.proofs.Storing.{few_values, tells_less, tells_rooms}
use Rattle.zero_steps.proofs.Placed.{still_there}
use Rattle.zero_steps.proofs.cells.has_room.Goals as goal

pub returns-then-needed-had-clause-fits : goal.returns-then-needed-had-clause-fits
returns-then-needed-had-clause-fits g c =
    tells_less c.args.values.now c.args.at c.requires.cell (few_values c.args.values.now c.requires.few) (g.M.Memory.holds c.args.m.now) c.args.needed
    c.in_ok-had.had (g.met.M.Memory.room c.args.m.now c.args.at.area) c.requires.needed c.in_ok-had.ensures.had c.if-needed-had.true

pub returns-clause-fits : goal.returns-clause-fits
returns-clause-fits g c =
    tells_rooms c.args.values.now c.args.at c.requires.cell (few_values c.args.values.now c.requires.few) (g.M.Memory.holds c.args.m.now) c.args.needed
    c.in_ok-had.had c.in_ok-rooms.rooms _ c.requires.needed c.requires.few c.in_ok-had.ensures.had
    (λ cells h. c.in_ok-rooms.ensures.rooms cells (c.in_ok-had.ensures.kept cells h)) c.if-needed-had.false refl

pub returns-clause-follows : goal.returns-clause-follows
returns-clause-follows g c = g.met.M.Memory.transitive _ _ _ c.blocks_at.ensures.follows c.rooms.ensures.follows

pub returns-in_err-rooms-clause-follows : goal.returns-in_err-rooms-clause-follows
returns-in_err-rooms-clause-follows g c = g.met.M.Memory.transitive _ _ _ c.blocks_at.ensures.follows c.rooms.ensures.follows

pub rooms-requires : goal.rooms-requires
rooms-requires g c = record { there = still_there (g.M.Memory.heads c.args.m.now) (g.M.Memory.heads c.blocks_at.new.m) c.args.at.area c.blocks_at.ensures.heads c.requires.there }
