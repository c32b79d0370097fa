use Rattle.system.proofs.Kept.{on_ok}
use Rattle.system.proofs.Turning.{first_turn, no_turn}
use Rattle.system.proofs.turns.first_turn.Goals as goal

pub returns-in-Some : goal.returns-in-Some
returns-in-Some c =
    on_ok c.slice.result c.slice.ensures
    (λ f read reads m h.
    first_turn read c.slice.new.system m c.next_ready.new.self c.in-Some.task c.most_evaluations.result c.turn_marks.result c.most_evaluations.ensures
    c.turn_marks.ensures (c.turn_begins.ensures m h.at h.orderly) (c.in-Some.ensures.first m h.at) (c.in-Some.ensures.others m h.at)
    (λ there turn stands. f read reads there turn stands))

pub returns-in-None : goal.returns-in-None
returns-in-None c = λ read reads m h.
    no_turn read c.next_ready.new.self m (c.in-None.ensures.first m h.at) (c.in-None.ensures.others m h.at)
