use Rattle.session_text.specs.declared.events.Event.TheVariants.{Line, Supervisor, Turns, Fixpoint, Shut}
use Rattle.system.proofs.Kept.{on_ok}
use Rattle.system.proofs.Happening.{happens_so, line_so}
use Rattle.system.proofs.events.happens.Goals as goal

pub returns-in-Line : goal.returns-in-Line
returns-in-Line c =
    on_ok c.line_at.result c.line_at.ensures
    (λ f read reads m short h. happens_so read c.line_at.new.system c.args.event.now (Line c.in-Line.channel c.in-Line.text) m c.in-Line.is
    (λ s. line_so read c.line_at.new.system c.in-Line.channel c.as_slice.result.now c.in-Line.text m c.as_slice.ensures (λ few. f read reads m s.0 s.1 few h.at) s.2) short)

pub returns-in-Supervisor : goal.returns-in-Supervisor
returns-in-Supervisor c =
    on_ok c.call_at.result c.call_at.ensures
    (λ f read reads m short h. happens_so read c.call_at.new.system c.args.event.now (Supervisor c.in-Supervisor.channel) m c.in-Supervisor.is (λ s. f m s.0 s.1 h.at) short)

pub returns-in-Turns : goal.returns-in-Turns
returns-in-Turns c =
    on_ok c.turns.result c.turns.ensures
    (λ f read reads m short h. happens_so read c.turns.new.system c.args.event.now (Turns c.in-Turns.number) m c.in-Turns.is (λ s. (f read reads m h).at) short)

pub returns-in-Fixpoint : goal.returns-in-Fixpoint
returns-in-Fixpoint c = λ read reads m short h. happens_so read c.args.system.now c.args.event.now Fixpoint m c.in-Fixpoint.is (λ s. h.at) short

pub returns-in-Shut : goal.returns-in-Shut
returns-in-Shut c = λ read reads m short h. happens_so read c.args.system.now c.args.event.now Shut m c.in-Shut.is (λ s. h.at) short
