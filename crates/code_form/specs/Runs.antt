-- Runs of code: how they come to rest, go on, and end.
use Rattle.std.specs.Prelude.{◌≡◌, ℕ, ◌+◌, ◌-◌, ◌*◌, ◌⊎◌, cond, List, [], ◌∷◌, ◌++◌, length, Option, Some, None, slice_get}
use Rattle.eu_base.specs.declared.request.Request.{Request}
use Rattle.eu_base.specs.declared.request.Reply.{Reply}
use Rattle.eu_base.specs.Requests.{Answer}
use Rattle.code_form.specs.declared.halt.Halt.{Halt}
use Rattle.code_form.specs.declared.halt.Halt.TheVariants as halts
use Rattle.code_form.specs.declared.waits.Waits.{Waits}
use Rattle.code_form.specs.declared.waits.Waits.TheVariants.{Nothing, Asked, Given, Refused}
use Rattle.code_form.specs.declared.code.Line.{Line}
use Rattle.code_form.specs.Program.{Program, instr_of}
use Rattle.code_form.specs.Machine.{Position, Control, free, asking, To, Asks, Stops, Move, Goes, Spends, Halts, Refuses, Ends, Unknown, Unsaid, Stuck, Mem, Scene, Rest}
use Rattle.code_form.specs.Machine.{step, exec, takes_reply, answered, after_reply, given, refused}
use Rattle.code_form.specs.Valid.{IsValid, Fits, is_mark}

-- the machine comes to rest so
abbrev pub Rests : Program → Control → Scene → Rest → Type 0
Rests p c s r = (n : ℕ) × (exec p n c s ≡ Some r)

-- more marks and more answers
abbrev pub wider : Scene → ℕ → List Answer → Scene
wider s marks replies = record s { marks = s.marks + marks; replies = s.replies ++ replies }

-- for want of marks or replies
abbrev pub IsPaused : Halt → Type 0
IsPaused halts.Marked = Unit {0}
IsPaused (halts.Asks q) = Unit {0}
IsPaused halts.Ended = ⊥
IsPaused (halts.Stopped s) = ⊥

-- what has come to rest for want of marks or replies goes on as if it had had them from the start
abbrev pub Resumes : Type 0
Resumes =
    (p : Program) (c : Control) (s : Scene) (r last : Rest) (marks : ℕ) (replies : List Answer) → IsPaused r.how → Rests p c s r
    → Rests p r.control (wider r.scene marks replies) last → Rests p c (wider s marks replies) last

-- an answer given is the next of the answers
abbrev pub Replies : Type 0
Replies =
    (p : Program) (c : Position) (s : Scene) (q : Request) (a : Answer) (last : Rest)
    → Rests p (answered q a.reply c) (record s { mem = after_reply q a s.mem }) last
    → Rests p (asking c q) (record s { replies = a ∷ s.replies }) last

-- there is one way to come to rest
abbrev pub IsOne : Type 0
IsOne = (p : Program) (c : Control) (s : Scene) (r r' : Rest) → Rests p c s r → Rests p c s r' → r ≡ r'

-- an instruction can be done, and leads to a state that fits
abbrev pub IsSafe : Program → Move → Type 0
IsSafe p (Goes c m) = Fits p (free c)
IsSafe p (Spends (To c m)) = Fits p (free c)
IsSafe p (Spends (Asks c q m)) = Fits p (asking c q)
IsSafe p (Spends (Stops s)) = Unit {0}
IsSafe p (Spends Unsaid) = Unit {0}
IsSafe p (Halts s) = Unit {0}
IsSafe p (Refuses s c m) = Fits p (refused c s)
IsSafe p Ends = Unit {0}
IsSafe p Unknown = Unit {0}
IsSafe p Stuck = ⊥

-- each state that code reaches fits, and the machine is never stuck
pub record StaysFit : Type 0 where
  pub steps : (p : Program) (c : Position) (m : Mem) → IsValid p → Fits p (free c) → IsSafe p (step p c m)
  pub replies : (p : Program) (c : Position) (q : Request) (r : Reply) → Fits p (asking c q) → Fits p (answered q r c)
  pub takes : (p : Program) (c : Position) (r : Reply) (m : Mem) → IsValid p → Fits p (given c r)
      → IsSafe p (takes_reply (instr_of (slice_get p.lines c.pc)) r c m)

-- the request that is waited for
abbrev pub asked : Waits → Option Request
asked Nothing = None
asked (Asked q) = Some q
asked (Given r) = None
asked (Refused stop) = None

-- how far the next mark, or else the end, can be
abbrev pub ahead : List Line → ℕ → ℕ
ahead lines pc = cond (is_mark (instr_of (slice_get lines pc))) 0 (length lines - pc)

-- a bound on the steps that are left: a call costs a mark and gives a frame, a return costs a frame
abbrev pub steps_left : List Line → ℕ → ℕ → ℕ → ℕ
steps_left lines marks frames pc = marks * (length lines + 1) + marks * (length lines + 1) + frames * (length lines + 1) + ahead lines pc

-- A state stands so after a start: so many marks were spent and these answers were given, and with more of both the machine goes on
-- from it as from the start with all of them.
pub record Stands (p : Program) (first : Control) (was : Mem) (spent : ℕ) (replies : List Answer) (c : Control) (now : Mem) : Type 0 where
  pub goes : (marks : ℕ) (more : List Answer) (last : Rest) → Rests p c (record { mem = now; marks = marks; replies = more }) last
      → Rests p first (record { mem = was; marks = spent + marks; replies = replies ++ more }) last

-- a run from there for want of marks or replies, and one that had no marks however it came to rest, spends marks and leaves it so
abbrev pub StandsOn : Type 0
StandsOn =
    (p : Program) (first : Control) (was : Mem) (spent left : ℕ) (replies : List Answer) (c : Control) (now : Mem) (r : Rest) → IsPaused r.how ⊎ (left ≡ 0)
    → Stands p first was spent replies c now
    → Rests p c (record { mem = now; marks = left; replies = [] }) r → r.scene.replies ≡ []
    → Stands p first was (spent + (left - r.scene.marks)) replies r.control r.scene.mem
