use Rattle.std.proofs.Common.{sym, ◌∙◌}
use Rattle.zero_steps.proofs.Storing.{few_values, put_small, put_none, put_both}
use Rattle.zero_steps.proofs.cells.put_all.Goals as goal

pub returns-then-needed-eq0-clause-puts : goal.returns-then-needed-eq0-clause-puts
returns-then-needed-eq0-clause-puts g c =
    put_small c.args.values.now c.args.at c.requires.cell (few_values c.args.values.now c.requires.few) (g.M.Memory.holds c.args.m.now)
    (g.M.Memory.holds c.put_each.new.m) (g.met.M.Memory.room c.args.m.now c.args.at.area) (sym c.blocks_of-needed.ensures ∙ c.if-needed-eq0.true)
    c.in_ok-put_each.ensures.put

pub returns-then-not-branch-clause-puts : goal.returns-then-not-branch-clause-puts
returns-then-not-branch-clause-puts g c =
    put_none c.args.values.now c.args.at c.requires.cell (few_values c.args.values.now c.requires.few) (g.M.Memory.holds c.args.m.now)
    (g.M.Memory.holds c.has_room.new.m) c.in_ok-has_room.field-0 c.in_ok-has_room.ensures.fits c.if-not-branch.true
    (λ none. c.if-needed-eq0.false (c.blocks_of-needed.ensures ∙ none)) c.in_ok-has_room.ensures.kept

pub returns-clause-puts : goal.returns-clause-puts
returns-clause-puts g c =
    put_both c.args.values.now c.args.at c.requires.cell (few_values c.args.values.now c.requires.few) (g.M.Memory.holds c.args.m.now)
    (g.M.Memory.holds c.has_room.new.m) (g.M.Memory.holds c.put_each-2.new.m) (g.M.Memory.holds c.put_each-3.new.m) c.in_ok-has_room.field-0
    c.in_ok-has_room.ensures.fits c.if-not-branch.false c.in_ok-has_room.ensures.kept (g.met.M.Memory.room c.has_room.new.m c.args.at.area)
    c.in_ok-put_each-2.ensures.put c.in_ok-put_each-3.ensures.put

pub returns-in_err-put_each-2-clause-follows : goal.returns-in_err-put_each-2-clause-follows
returns-in_err-put_each-2-clause-follows g c = g.met.M.Memory.transitive _ _ _ c.has_room.ensures.follows c.put_each-2.ensures.follows

pub returns-in_err-put_each-3-clause-follows : goal.returns-in_err-put_each-3-clause-follows
returns-in_err-put_each-3-clause-follows g c =
    let two = g.met.M.Memory.transitive _ _ _ c.has_room.ensures.follows c.put_each-2.ensures.follows in
    g.met.M.Memory.transitive _ _ _ two c.put_each-3.ensures.follows

pub returns-clause-follows : goal.returns-clause-follows
returns-clause-follows g c =
    let two = g.met.M.Memory.transitive _ _ _ c.has_room.ensures.follows c.put_each-2.ensures.follows in
    g.met.M.Memory.transitive _ _ _ two c.put_each-3.ensures.follows
