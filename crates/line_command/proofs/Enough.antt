-- A program has as many evaluations as it needs, since each of its requests costs a mark.
use Rattle.std.proofs.Common.{◌≡◌, ℕ, zero, suc, ◌+◌, ◌≤◌, Bool, true, false, cond, List, [], ◌∷◌, ◌++◌, length, Some, refl, ap, ◌∙◌, subst, length-append}
use Rattle.std.proofs.Common.{arith}
use Rattle.std.specs.Prelude.{slice_get, Option, None}
use Rattle.std.specs.List.{AllByRecursion}
use Rattle.eu_base.specs.declared.stop.Stop.{Stop}
use Rattle.eu_base.specs.declared.stop.Stop.TheVariants.{CellRoom, OnlySession}
use Rattle.eu_base.specs.declared.request.Request.{Request}
use Rattle.eu_base.specs.declared.request.Request.TheVariants.{Out, Call}
use Rattle.eu_base.specs.declared.request.Reply.{Reply}
use Rattle.eu_base.specs.declared.request.Reply.TheVariants as replies
use Rattle.eu_base.specs.Requests.{Answer, then_asked}
use Rattle.eu_base.specs.SoundSpaces.{AllCanCome}
use Rattle.eu_base.proofs.SoundSpaces.{no_space_comes, come_push}
use Rattle.eu_base.specs.DataSpaces.{no_spaces}
use Rattle.code_form.specs.declared.halt.Halt.TheVariants as halts
use Rattle.code_form.specs.declared.waits.Waits.{Waits}
use Rattle.code_form.specs.declared.waits.Waits.TheVariants.{Nothing, Asked, Given, Refused}
use Rattle.code_form.specs.Program.{Program, instr_of}
use Rattle.code_form.specs.Machine.{Position, Control, After, To, Stops, Unsaid, Move, Goes, Spends, Halts, Refuses, Ends, Unknown, Stuck, Mem, Scene, Rest, step}
use Rattle.code_form.specs.Machine.{free, given, answered, answered_by, takes_reply, Stage, On, Over, Lost}
use Rattle.code_form.specs.Machine.{after_stage, mark_stage, move_stage, reply_stage, stage_at, advance, carry_on, exec, have_room, start}
use Rattle.code_form.specs.Machine as machine
use Rattle.line_command.specs.Below.place_gen.specs.Correct.{Shows, Comes, scene_of}
use Rattle.line_command.specs.Below.code_gen.specs.Program.{program_of}
use Rattle.line_command.specs.Below.code_gen.proofs.Whole.{behaves}
use Rattle.elan_tree.specs.declared.tree.Tree.{Tree}
use Rattle.line_command.specs.Below.elan_scope.specs.declared.env.Env.{Env}
use Rattle.line_command.specs.Below.units.specs.Packets.{nothing}
use Rattle.line_command.specs.Below.elan_check.specs.Packets.{AreCompiled, none}
use Rattle.elan_types.specs.declared.core_phrase.Core.{Core}
use Rattle.elan_types.specs.Typing.{IsWellTyped}
use Rattle.elan_types.specs.Command.{Ending, Ended, Stopped, OutOfMarks, Asks, evaluate, at_start}
use Rattle.line_command.specs.Below.elan_check.specs.Text as tree
use Rattle.line_command.proofs.Begun.{begun, has_begun}
use Rattle.packet_store.specs.Meaning.{means}
use Rattle.line_command.specs.Meaning.{Means}
use Rattle.line_command.specs.Program.{line_marks, reply_to, answer_to, AsksOnly, Suffices}

-- a request that waits for its reply has cost a mark
abbrev owed : Waits → ℕ
owed Nothing = 0
owed (Asked q) = 1
owed (Given r) = 0
owed (Refused stop) = 0

-- no request follows an answer
abbrev AreFinal : List Answer → Type 0
AreFinal answers = AllByRecursion (λ (a : Answer). (q : Request) → then_asked q a.reply ≡ None) answers

final_push : (answers : List Answer) (a : Answer) → AreFinal answers → ((q : Request) → then_asked q a.reply ≡ None) → AreFinal (answers ++ a ∷ [])
final_push [] a all final = (final, tt)
final_push (x ∷ answers) a all final = (all.0, final_push answers a all.1 final)

-- so it is with what is replied to a program of a line
done_final : (q : Request) → then_asked q replies.Done ≡ None
done_final (Call to code space) = refl
done_final _ = refl

stop_final : (stop : Stop) (q : Request) → then_asked q (replies.Stopped stop) ≡ None
stop_final stop (Call to code space) = refl
stop_final stop _ = refl

to_final : (asked q : Request) → then_asked q (reply_to asked) ≡ None
to_final (Out bytes ends) q = done_final q
to_final _ q = stop_final OnlySession q

-- from so many marks and answers on, each answer that is taken costs a mark, and so does a request that has none
abbrev Pays : (marks replies : ℕ) → Stage → Type 0
Pays n k (On c s) = AreFinal s.replies × (s.marks + owed c.waits + k ≤ n + length s.replies)
Pays n k (Over r) = (q : Request) → r.how ≡ halts.Asks q → k + 1 ≤ n
Pays n k Lost = Unit {0}

after_pays : (n : ℕ) (a : After) (d : Control) (s : Scene) → AreFinal s.replies
    → Pays (suc n) (length s.replies) (after_stage a d (record s { marks = n }))
after_pays n (To c' m) d s final = (final, omega arith)
after_pays n (machine.Asks c' q m) d s final = (final, omega arith)
after_pays n (Stops stop) d s final = λ q is. absurd (cc is)
after_pays n Unsaid d s final = tt

move_pays : (m : Move) (d : Control) (s : Scene) → AreFinal s.replies → Pays (s.marks + 0) (length s.replies) (move_stage m d s)
move_pays (Goes c' m) d s final = (final, omega arith)
move_pays (Spends a) d s final = by s.marks
  where
    by : (n : ℕ) → Pays (n + 0) (length s.replies) (mark_stage n a d s)
    by zero = λ q is. absurd (cc is)
    by (suc n) =
        let e : suc n ≡ suc n + 0 = omega arith in
        subst (λ k. Pays k (length s.replies) (after_stage a d (record s { marks = n }))) e (after_pays n a d s final)
move_pays (Halts stop) d s final = λ q is. absurd (cc is)
move_pays (Refuses stop c' m) d s final = (final, omega arith)
move_pays Ends d s final = λ q is. absurd (cc is)
move_pays Unknown d s final = tt
move_pays Stuck d s final = tt

-- a reply that no request follows leads to a control that owes nothing
reply_owes : (r : Reply) (c : Position) → owed (answered_by None r c).waits ≡ 0
reply_owes (replies.Stopped stop) c = refl
reply_owes _ c = refl

answered_owes : (q : Request) (r : Reply) (c : Position) → then_asked q r ≡ None → owed (answered q r c).waits ≡ 0
answered_owes q r c final = ap (λ (o : Option Request). owed (answered_by o r c).waits) final ∙ reply_owes r c

stage_pays : (p : Program) (w : Waits) (c : Position) (s : Scene) → AreFinal s.replies → Pays (s.marks + owed w) (length s.replies) (stage_at w p c s)
stage_pays p Nothing c s final = move_pays (step p c s.mem) (free c) s final
stage_pays p (Given r) c s final = move_pays (takes_reply (instr_of (slice_get p.lines c.pc)) r c s.mem) (given c r) s final
stage_pays p (Asked q) c s final = by s.replies final
  where
    by : (rs : List Answer) → AreFinal rs → Pays (s.marks + 1) (length rs) (reply_stage rs q c s)
    by [] final = λ q' same. omega arith
    by (a ∷ rs) final = (final.1, omega (arith, answered_owes q a.reply c (final.0 q)))
stage_pays p (Refused stop) c s final = λ q is. absurd (cc is)

-- a run that rests at a request has spent more marks than it took replies
asks_pay : (p : Program) (n : ℕ) (c : Control) (s : Scene) (r : Rest) (q : Request) → AreFinal s.replies → exec p n c s ≡ Some r → r.how ≡ halts.Asks q
    → length s.replies + 1 ≤ s.marks + owed c.waits
asks_pay p zero c s r q final e is = absurd (cc e)
asks_pay p (suc n) c s r q final e is = by (advance p c s) (λ c s final e. asks_pay p n c s r q final e is) (stage_pays p c.waits c.position s final) e
  where
    by : (st : Stage) → ((c : Control) (s : Scene) → AreFinal s.replies → exec p n c s ≡ Some r → length s.replies + 1 ≤ s.marks + owed c.waits)
        → Pays (s.marks + owed c.waits) (length s.replies) st → carry_on st (exec p n) ≡ Some r → length s.replies + 1 ≤ s.marks + owed c.waits
    by (On c' s') ih f e = omega (arith, ih c' s' f.0 e, f.1)
    by (Over x) ih f e = let same : x ≡ r = cc e in f q (ap (λ (y : Rest). y.how) same ∙ is)
    by Lost ih f e = absurd (cc e)

start_owes : (p : Program) → owed (start p).waits ≡ 0
start_owes p = by (have_room p)
  where
    by : (t : Bool) → owed (cond t Nothing (Refused CellRoom)) ≡ 0
    by true = refl
    by false = refl

module _ (core : Core) (typed : IsWellTyped core) (alone : core.packets ≡ []) (marks : ℕ) where
  abbrev first : Mem
  first = begun (program_of core)

  -- where its evaluation stands at a request, it has spent more marks than it got replies
  fewer_replies : (replies : List Answer) → AreFinal replies → AllCanCome replies
      → AsksOnly (evaluate core [] no_spaces marks replies) (λ _. length replies + 1 ≤ marks)
  fewer_replies replies final can = by (evaluate core [] no_spaces marks replies) comes.shows
    where
      comes : Comes (program_of core) (start (program_of core)) (scene_of (at_start core [] no_spaces marks replies) first) (evaluate core [] no_spaces marks replies)
      comes = (behaves core typed).ends (at_start core [] no_spaces marks replies) first (has_begun core (program_of core) (behaves core typed) alone, can)

      by : (e : Ending) → Shows (program_of core) e comes.rest → AsksOnly e (λ _. length replies + 1 ≤ marks)
      by (Ended w) h = tt
      by (Stopped s w) h = tt
      by (OutOfMarks w) h = tt
      by (Asks q w) h =
          let p = program_of core in
          let paid = asks_pay p comes.steps (start p) (scene_of (at_start core [] no_spaces marks replies) first) comes.rest q final comes.comes h.how in
          omega (arith, paid, start_owes p)

  suffices : (n : ℕ) (replies : List Answer) → AreFinal replies → AllCanCome replies → marks + 1 ≤ n + length replies → length replies ≤ marks
      → Suffices n core marks replies
  suffices zero replies final can all few = absurd (omega (arith, all, few))
  suffices (suc n) replies final can all few = by (evaluate core [] no_spaces marks replies) (fewer_replies replies final can)
      (λ q more few. suffices n (replies ++ answer_to q ∷ []) (final_push replies (answer_to q) final (to_final q))
      (come_push replies (answer_to q) can no_space_comes) more few)
    where
      by : (e : Ending) → AsksOnly e (λ _. length replies + 1 ≤ marks)
          → ((q : Request) → marks + 1 ≤ n + length (replies ++ answer_to q ∷ []) → length (replies ++ answer_to q ∷ []) ≤ marks
          → Suffices n core marks (replies ++ answer_to q ∷ []))
          → AsksOnly e (λ r. Suffices n core marks (replies ++ r ∷ []))
      by (Ended w) paid later = tt
      by (Stopped s w) paid later = tt
      by (OutOfMarks w) paid later = tt
      by (Asks q w) paid later =
          let longer : length (replies ++ answer_to q ∷ []) ≡ length replies + 1 = length-append replies (answer_to q ∷ []) in
          later q (omega (arith, all, longer)) (omega (arith, longer, paid))

-- what a text means is well typed, and so has as many as it needs
pub enough : ((env : Env) → AreCompiled env → (t : Tree) (c : Core) → tree.Means env t c → IsWellTyped c) → (text : List ℕ) (core : Core) → Means text core
    → Suffices (line_marks + 1) core line_marks []
enough typed text core (means t has reads m) = suffices core (typed nothing none t core m) m.packets line_marks (line_marks + 1) [] tt tt (omega arith) (omega arith)
