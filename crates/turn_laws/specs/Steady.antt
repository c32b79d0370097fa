-- What marks and answers are to a command.
use Rattle.std.specs.Prelude.{◌≡◌, ◌≤◌, ◌+◌, ◌-◌, ℕ, List, [], ◌∷◌, ◌++◌, Some, None}
use Rattle.eu_base.specs.declared.request.Request.{Request}
use Rattle.eu_base.specs.declared.request.Request.TheVariants as requests
use Rattle.eu_base.specs.DataSpaces.{Spaces}
use Rattle.eu_base.specs.Requests.{Answer, then_asked}
use Rattle.elan_types.specs.declared.core_phrase.Core.{Core}
use Rattle.elan_types.specs.Eval.{Slot, World, after_answer}
use Rattle.elan_types.specs.Command.{Asks, evaluate}

-- A command that asks for something asks for it with more marks too, and with no more than it spent. With an answer that a request follows it asks for
-- that at once; with another it asks for the answer of no task, however many marks it has, and what it asks for then costs a mark. And it asks for no
-- answer before any came, and what it asks for first costs a mark. Where it asks for nothing, what it asks for with more marks costs one of those.
pub record IsSteady (core : Core) (packets : List Slot) (spaces : Spaces) : Type 0 where
  pub more : (n k : ℕ) (as' : List Answer) (q : Request) (w : World) → evaluate core packets spaces n as' ≡ Asks q w
      → evaluate core packets spaces (n + k) as' ≡ Asks q (record w { marks = w.marks + k })
  pub less : (n : ℕ) (as' : List Answer) (q : Request) (w : World) → evaluate core packets spaces n as' ≡ Asks q w
      → evaluate core packets spaces (n - w.marks) as' ≡ Asks q (record w { marks = 0 })
  pub next : (n : ℕ) (as' : List Answer) (q : Request) (w : World) (a : Answer) (r : Request) → evaluate core packets spaces n as' ≡ Asks q w
      → then_asked q a.reply ≡ Some r → evaluate core packets spaces n (as' ++ a ∷ []) ≡ Asks r (after_answer q a [] w)
  pub later : (n k : ℕ) (as' : List Answer) (q : Request) (w : World) (a : Answer) (of : ℕ) (v : World) → evaluate core packets spaces n as' ≡ Asks q w
      → then_asked q a.reply ≡ None → evaluate core packets spaces k (as' ++ a ∷ []) ≡ Asks (requests.Answer of) v → ⊥
  pub costs : (n k : ℕ) (as' : List Answer) (q r : Request) (w v : World) (a : Answer) → evaluate core packets spaces n as' ≡ Asks q w
      → then_asked q a.reply ≡ None → evaluate core packets spaces (n + k) (as' ++ a ∷ []) ≡ Asks r v → v.marks + 1 ≤ w.marks + k
  pub first : (n of : ℕ) (v : World) → evaluate core packets spaces n [] ≡ Asks (requests.Answer of) v → ⊥
  pub pays : (n : ℕ) (q : Request) (v : World) → evaluate core packets spaces n [] ≡ Asks q v → v.marks + 1 ≤ n
  pub late : (n k : ℕ) (as' : List Answer) (q : Request) (w : World) → ((r : Request) (v : World) → evaluate core packets spaces n as' ≡ Asks r v → ⊥)
      → evaluate core packets spaces (n + k) as' ≡ Asks q w → w.marks + 1 ≤ k

abbrev pub AreSteady : Type 0
AreSteady = (core : Core) (packets : List Slot) (spaces : Spaces) → IsSteady core packets spaces
