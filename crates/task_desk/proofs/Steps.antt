-- Steps of a desk one behind the other.
use Rattle.std.proofs.Common.{◌≡◌, ℕ, Bool, true, false, List, [], ◌∷◌, ◌++◌, remove, Option, Some, refl, sym, ap, ◌∙◌, if◌then◌else◌}
use Rattle.task_numbers.specs.declared.number.TaskNo.{TaskNo}
use Rattle.task_numbers.specs.Numbers.{is_nil}
use Rattle.terminals.specs.Channels.{with_last}
use Rattle.task_desk.specs.Below.units.specs.Library.{Library}
use Rattle.system_meaning.specs.Tasks.{Doing, Own}
use Rattle.system_meaning.specs.Systems.{Moment, say, uncouple, supervisor_prompt, on_system, on_channels}
use Rattle.system_meaning.specs.Systems as machine
use Rattle.system_meaning.specs.Ends as ends
use Rattle.system_meaning.specs.Supervisor.{called}
use Rattle.task_desk.specs.Desks.{Desk, Makes, system, moment, begun, removed}

pub makes_both : (first second : Moment → Moment) (before between after : Desk) → Makes first before between → Makes second between after
    → Makes (λ m. second (first m)) before after
makes_both first second before between after one two = λ library owns. two library owns ∙ ap second (one library owns)

-- the supervisor is called, at a channel where there is a task or none
abbrev calls_where : Bool → TaskNo → ℕ → Moment → Moment
calls_where b t c m = if b then say c supervisor_prompt m else uncouple c (on_system (on_channels (with_last c t)) m)

pub called_nil : (t : TaskNo) (c : ℕ) (before after : Desk) → is_nil t ≡ true → Makes (say c supervisor_prompt) before after → Makes (called t c) before after
called_nil t c before after nil prompts = λ library owns.
    prompts library owns ∙ ap (λ (b : Bool). calls_where b t c (moment before library owns)) (sym nil)

pub called_there : (t : TaskNo) (c : ℕ) (before after : Desk) → is_nil t ≡ false
    → Makes (λ m. uncouple c (on_system (on_channels (with_last c t)) m)) before after → Makes (called t c) before after
called_there t c before after some leaves = λ library owns.
    leaves library owns ∙ ap (λ (b : Bool). calls_where b t c (moment before library owns)) (sym some)

-- ---- the desk with the other parts of the system

-- where a task ends, what it has for itself and the packets that it alone had are gone too
pub removed_is : (t : TaskNo) (k : ℕ) (d : Desk) (library : Library) (owns : List Own) → machine.place t (system d library owns) ≡ Some k
    → on_system (ends.removed t) (moment d library owns)
    ≡ moment (removed t d) (ends.without_packets (machine.packets t (system d library owns)) (remove owns k) library) (remove owns k)
removed_is t k d library owns here = ap (λ (at : Option ℕ). on_system (ends.removed_at at t) (moment d library owns)) here

-- where a task begins, it has the packets of its father
pub begun_is : (name : List ℕ) (father : TaskNo) (doing : Doing) (d : Desk) (library : Library) (owns : List Own)
    → on_system (ends.begun name father doing) (moment d library owns)
    ≡ moment (begun name father d) library (owns ++ record { packets = machine.packets father (system d library owns); doing = doing } ∷ [])
begun_is name father doing d library owns = refl
