-- What a program writes.
use Rattle.std.specs.Prelude.{◌≡◌, ℕ, zero, suc, ◌+◌, List, [], ◌∷◌, ◌++◌, Option, Some, None}
use Rattle.eu_base.specs.declared.stop.Stop.{Stop}
use Rattle.eu_base.specs.declared.stop.Stop.TheVariants.{OnlySession, LineMarks}
use Rattle.eu_base.specs.declared.request.Request.{Request}
use Rattle.eu_base.specs.declared.request.Request.TheVariants.{Out}
use Rattle.eu_base.specs.declared.request.Reply.{Reply}
use Rattle.eu_base.specs.declared.request.Reply.TheVariants.{Done}
use Rattle.eu_base.specs.declared.request.Reply.TheVariants as replies
use Rattle.eu_base.specs.Requests.{Answer, plain}
use Rattle.eu_base.specs.DataSpaces.{no_spaces}
use Rattle.elan_types.specs.declared.core_phrase.Core.{Core}
use Rattle.elan_types.specs.Command.{Ending, Ended, Stopped, OutOfMarks, Asks, evaluate}
use Rattle.line_command.specs.Screen.{Written, written_by, blank, put_all, final}

-- the marks that a line may spend
abbrev pub line_marks : ℕ
line_marks = 100000

-- what a program writes, and the stop that it ends with, if it does
pub record Output : Type 0 where
  pub written : List Written
  pub stop : Option Stop

-- nothing more is written
abbrev pub ends : Option Stop → Output
ends stop = record { written = []; stop = stop }

-- what a request asks to write, and then what is written after it
abbrev pub writes_before : Request → Output → Output
writes_before q after = record { written = written_by q ++ after.written; stop = after.stop }

-- what is replied: it was written; and all else that is asked for is there in a session alone
abbrev pub reply_to : Request → Reply
reply_to (Out bytes ends) = Done
reply_to _ = replies.Stopped OnlySession

abbrev pub answer_to : Request → Answer
answer_to q = plain (reply_to q)

-- what is written where the evaluation stands so; after a request, what is written once it is answered
abbrev pub output_at : Ending → (Answer → Output) → Output
output_at (Ended w) answered = ends None
output_at (Stopped stop w) answered = ends (Some stop)
output_at (OutOfMarks w) answered = ends (Some LineMarks)
output_at (Asks request w) answered = writes_before request (answered (answer_to request))

-- What a program writes after these answers, with so many marks from its start on, in at most so many evaluations. At a request the
-- program is evaluated again, with one answer more. Where no evaluation is left it is as if its marks were spent.
abbrev pub output_in : (evaluations : ℕ) → Core → (marks : ℕ) → List Answer → Output
output_in zero core marks replies = ends (Some LineMarks)
output_in (suc n) core marks replies = output_at (evaluate core [] no_spaces marks replies) (λ a. output_in n core marks (replies ++ a ∷ []))

-- a request is followed by more, and nothing else is
abbrev pub AsksOnly : Ending → (later : Answer → Type 0) → Type 0
AsksOnly (Ended w) later = Unit {0}
AsksOnly (Stopped stop w) later = Unit {0}
AsksOnly (OutOfMarks w) later = Unit {0}
AsksOnly (Asks request w) later = later (answer_to request)

-- so many evaluations are enough to tell all that a program writes: the last of them stands at no request
abbrev pub Suffices : (evaluations : ℕ) → Core → (marks : ℕ) → List Answer → Type 0
Suffices zero core marks replies = ⊥
Suffices (suc n) core marks replies = AsksOnly (evaluate core [] no_spaces marks replies) (λ a. Suffices n core marks (replies ++ a ∷ []))

-- what it writes from its start on, with the marks of a line. One evaluation more than there are marks is enough for each program
-- that is accepted, since each request costs a mark
abbrev pub output_of : Core → Output
output_of core = output_in (line_marks + 1) core line_marks []

-- what it shows
abbrev pub Shows : Core → List ℕ → Type 0
Shows core text = text ≡ final (put_all blank (output_of core).written) (output_of core).stop
