use Rattle.text_heap.proofs.room.find_room.Goals as goal

pub returns-in_err-start-clause-follows : goal.returns-in_err-start-clause-follows
returns-in_err-start-clause-follows g c = g.met.S.Space.transitive _ _ _ c.read_hint.ensures.follows c.first_free.ensures.follows

pub returns-in_err-has_room-clause-follows : goal.returns-in_err-has_room-clause-follows
returns-in_err-has_room-clause-follows g c =
    let two = g.met.S.Space.transitive _ _ _ c.read_hint.ensures.follows c.first_free.ensures.follows in
    g.met.S.Space.transitive _ _ _ two c.has_free.ensures.follows

pub returns-then-not-has_room-clause-follows : goal.returns-then-not-has_room-clause-follows
returns-then-not-has_room-clause-follows g c =
    let two = g.met.S.Space.transitive _ _ _ c.read_hint.ensures.follows c.first_free.ensures.follows in
    g.met.S.Space.transitive _ _ _ two c.has_free.ensures.follows

pub returns-clause-follows : goal.returns-clause-follows
returns-clause-follows g c =
    let two = g.met.S.Space.transitive _ _ _ c.read_hint.ensures.follows c.first_free.ensures.follows in
    g.met.S.Space.transitive _ _ _ two c.has_free.ensures.follows
