-- A program that is served writes what its evaluation says.
use Rattle.std.proofs.Common.{◌≡◌, Bool, true, false, cond, ℕ, zero, suc, ◌+◌, ◌-◌, ◌<◌, List, [], ◌∷◌, ◌++◌, Option, Some, None, refl, sym, ap, ◌∙◌}
use Rattle.std.proofs.Common.{subst, append_assoc, append-nil, length, length-append, arith}
use Rattle.eu_base.specs.declared.stop.Stop.{Stop}
use Rattle.eu_base.specs.declared.stop.Stop.TheVariants.{CellRoom, LineMarks}
use Rattle.eu_base.specs.declared.request.Request.{Request}
use Rattle.eu_base.specs.declared.request.Request.TheVariants.{Out}
use Rattle.eu_base.specs.Requests.{Answer, reply_changes}
use Rattle.eu_base.specs.Cells.{Cells}
use Rattle.eu_base.specs.DataSpaces.{Heads, no_spaces, SpaceChange}
use Rattle.eu_base.proofs.SoundSpaces.{no_space_comes, come_push}
use Rattle.code_form.specs.declared.halt.Halt.{Halt}
use Rattle.code_form.specs.declared.halt.Halt.TheVariants as halts
use Rattle.code_form.specs.Program.{Program}
use Rattle.code_form.specs.Machine.{Mem, Position, Control, asking, Rest, have_room, start, answered, mem_after, after_reply}
use Rattle.code_form.specs.declared.waits.Waits.{Waits}
use Rattle.code_form.specs.declared.waits.Waits.TheVariants.{Nothing, Asked, Refused}
use Rattle.code_form.specs.Runs.{Rests, IsPaused, asked}
use Rattle.line_command.specs.Below.place_gen.specs.Correct.{HasSlots, Shows, Comes}
use Rattle.line_command.specs.Below.place_gen.specs.Correct as place
use Rattle.line_command.specs.Below.code_gen.specs.Correct.{Behaves}
use Rattle.line_command.specs.Below.zero_state.specs.Stepping.{mem_of, scene_of}
use Rattle.line_command.specs.Below.zero_machine.specs.Running.{RestsSo}
use Rattle.elan_types.specs.declared.core_phrase.Core.{Core}
use Rattle.elan_types.specs.Eval.{World}
use Rattle.elan_types.specs.Command.{Ending, Ended, Stopped, OutOfMarks, Asks, evaluate, at_start, blanks, start_kinds}
use Rattle.line_command.specs.Screen as screen
use Rattle.line_command.specs.Screen.{Screen, Written, written_by, blank, put, final}
use Rattle.line_command.specs.Program as text
use Rattle.line_command.specs.Program.{line_marks, Output, ends, reply_to, answer_to, output_at, output_in, output_of}
use Rattle.line_command.proofs.Passed.{longer, passed}
use Rattle.line_command.proofs.Served.{behind, IsServed}

-- how a run came to rest tells how the evaluation stands
shows_ended : (p : Program) (e : Ending) (r : Rest) → Shows p e r → r.how ≡ halts.Ended → (w : World) × (e ≡ Ended w)
shows_ended p (Ended w) r h how = (w, refl)
shows_ended p (Stopped s w) r h how = absurd (cc (h.how, how))
shows_ended p (OutOfMarks w) r h how = absurd (cc (h.how, how))
shows_ended p (Asks q w) r h how = absurd (cc (h.how, how))

shows_marked : (p : Program) (e : Ending) (r : Rest) → Shows p e r → r.how ≡ halts.Marked → (w : World) × (e ≡ OutOfMarks w)
shows_marked p (Ended w) r h how = absurd (cc (h.how, how))
shows_marked p (Stopped s w) r h how = absurd (cc (h.how, how))
shows_marked p (OutOfMarks w) r h how = (w, refl)
shows_marked p (Asks q w) r h how = absurd (cc (h.how, how))

shows_stopped : (p : Program) (s : Stop) (e : Ending) (r : Rest) → Shows p e r → r.how ≡ halts.Stopped s → (w : World) × (e ≡ Stopped s w)
shows_stopped p s (Ended w) r h how = absurd (cc (h.how, how))
shows_stopped p s (Stopped s' w) r h how = let same : s' ≡ s = cc (h.how, how) in (w, ap (λ t. Stopped t w) same)
shows_stopped p s (OutOfMarks w) r h how = absurd (cc (h.how, how))
shows_stopped p s (Asks q w) r h how = absurd (cc (h.how, how))

shows_asks : (p : Program) (q : Request) (e : Ending) (r : Rest) → Shows p e r → r.how ≡ halts.Asks q → (w : World) × (e ≡ Asks q w)
shows_asks p q (Ended w) r h how = absurd (cc (h.how, how))
shows_asks p q (Stopped s w) r h how = absurd (cc (h.how, how))
shows_asks p q (OutOfMarks w) r h how = absurd (cc (h.how, how))
shows_asks p q (Asks q' w) r h how = let same : q' ≡ q = cc (h.how, how) in (w, ap (λ t. Asks t w) same)

-- one after another
put_all-append : (s : Screen) (ws more : List Written) → screen.put_all s (ws ++ more) ≡ screen.put_all (screen.put_all s ws) more
put_all-append s [] more = refl
put_all-append s (w ∷ ws) more = put_all-append (put s w) ws more

-- a command at its start waits for no reply
pub start_free : (p : Program) → asked (start p).waits ≡ None
start_free p = by (have_room p)
  where
    by : (t : Bool) → asked (cond t Nothing (Refused CellRoom)) ≡ None
    by true = refl
    by false = refl

-- nor does one that was answered
pub answered_free : (q : Request) (c : Position) → asked (answered q (reply_to q) c).waits ≡ None
answered_free (Out bytes ends) c = refl
answered_free _ c = refl

-- to data spaces nothing is done
nothing_done : (q : Request) (heads : Heads) → reply_changes q (answer_to q) heads ≡ []
nothing_done (Out bytes ends) heads = refl
nothing_done _ heads = refl

same_after : (q : Request) (mem : Mem) → after_reply q (answer_to q) mem ≡ mem
same_after q mem = ap (λ (cs : List SpaceChange). mem_after cs mem) (nothing_done q mem.heads)

-- at the start nothing was answered
pub served_first : (core : Core) (p : Program) (first : Mem) (control : Control) → control ≡ start p
    → IsServed core p first control first line_marks blank
served_first core p first control is = record {
  replies = [];
  contents = tt;
  written = [];
  on = λ more last h. subst (λ (c : Control). Rests p c (record { mem = first; marks = line_marks; replies = more }) last) (sym is) h;
  shown = refl;
  paid = omega arith;
  so_far = refl;
}

-- the answer that is given is taken
took : (p : Program) (w : Waits) (c : Position) (q : Request) (mem : Mem) (marks : ℕ) (more : List Answer) (last : Rest) → w ≡ Asked q
    → Rests p (record { position = c; waits = w }) (record { mem = mem; marks = marks; replies = answer_to q ∷ more }) last
    → Rests p (answered q (reply_to q) c) (record { mem = mem; marks = marks; replies = more }) last
took p w c q mem marks more last is h =
    subst (λ (m : Mem). Rests p (answered q (reply_to q) c) (record { mem = m; marks = marks; replies = more }) last) (same_after q mem)
    (by (subst (λ (w : Waits). Rests p (record { position = c; waits = w }) (record { mem = mem; marks = marks; replies = answer_to q ∷ more }) last) is h))
  where
    by : Rests p (asking c q) (record { mem = mem; marks = marks; replies = answer_to q ∷ more }) last
        → Rests p (answered q (reply_to q) c) (record { mem = after_reply q (answer_to q) mem; marks = marks; replies = more }) last
    by (zero, e) = absurd (cc e)
    by (suc n, e) = (n, e)

module _ (core : Core) (p : Program) (first : Mem) (control : Control) (now : Mem) (marks : ℕ) (s : Screen)
    (served : IsServed core p first control now marks s) (b : Behaves core p)
    (has : HasSlots p (blanks (start_kinds core)) (blanks core.inserted) no_spaces first) where
  -- the evaluation with the replies so far, and the rest to which the run comes next
  pub comes : Comes p (start p) (place.scene_of (at_start core [] no_spaces line_marks served.replies) first) (evaluate core [] no_spaces line_marks served.replies)
  comes = b.ends (at_start core [] no_spaces line_marks served.replies) first (has, served.contents)

  abbrev pub next : Rest
  next = comes.rest

  pub rests : Rests p control (scene_of now marks) next
  rests =
      served.on [] next
      (subst (λ rs. Rests p (start p) (record { mem = first; marks = line_marks; replies = rs }) next) (sym (append-nil served.replies))
      (comes.steps, comes.comes))

  module _ (holds : Cells → Type 0) (heads : Heads) (h : Halt) (control' : Control) (marks' : ℕ) (so : RestsSo holds heads h control' marks' next) where
    how : next.how ≡ h
    how = ap (λ (r : Rest). r.how) so.1

    -- what is left to write where the evaluation stands so; an evaluation is always left
    whole_output : (e : Ending) (stop : Option Stop) → evaluate core [] no_spaces line_marks served.replies ≡ e
        → ((more : Answer → Output) → output_at e more ≡ ends stop) → output_of core ≡ record { written = served.written; stop = stop }
    whole_output e stop is ended = by (line_marks + 1 - length served.replies) refl
      where
        by : (n : ℕ) → line_marks + 1 - length served.replies ≡ n → output_of core ≡ record { written = served.written; stop = stop }
        by zero all = absurd (omega (arith, all, served.paid))
        by (suc n) all =
            let more : Answer → Output = λ r. output_in n core line_marks (served.replies ++ r ∷ []) in
            let left : output_at (evaluate core [] no_spaces line_marks served.replies) more ≡ ends stop = ap (λ x. output_at x more) is ∙ ended more in
            served.so_far ∙ ap (λ k. behind served.written (output_in k core line_marks served.replies)) all
            ∙ ap (behind served.written) left
            ∙ ap (λ ws. record { written = ws; stop = stop }) (append-nil served.written)

    -- a rest that ends the program
    whole : (e : Ending) (stop : Option Stop) (out : List ℕ) → evaluate core [] no_spaces line_marks served.replies ≡ e
        → ((more : Answer → Output) → output_at e more ≡ ends stop) → out ≡ final s stop → text.Shows core out
    whole e stop out is ended out_is =
        out_is ∙ ap (λ x. final x stop) served.shown
        ∙ ap (λ (o : Output). final (screen.put_all blank o.written) o.stop) (sym (whole_output e stop is ended))

    pub served_ended : h ≡ halts.Ended → (out : List ℕ) → out ≡ final s None → text.Shows core out
    served_ended is out out_is =
        let e = shows_ended p (evaluate core [] no_spaces line_marks served.replies) next comes.shows (how ∙ is) in
        whole (Ended e.0) None out e.1 (λ more. refl) out_is

    pub served_stopped : (stop : Stop) → h ≡ halts.Stopped stop → (out : List ℕ) → out ≡ final s (Some stop) → text.Shows core out
    served_stopped stop is out out_is =
        let e = shows_stopped p stop (evaluate core [] no_spaces line_marks served.replies) next comes.shows (how ∙ is) in
        whole (Stopped stop e.0) (Some stop) out e.1 (λ more. refl) out_is

    pub served_marked : h ≡ halts.Marked → (out : List ℕ) → out ≡ final s (Some LineMarks) → text.Shows core out
    served_marked is out out_is =
        let e = shows_marked p (evaluate core [] no_spaces line_marks served.replies) next comes.shows (how ∙ is) in
        whole (OutOfMarks e.0) (Some LineMarks) out e.1 (λ more. refl) out_is

    -- and one at a request, which is answered
    pub served_on : (q : Request) (s' : Screen) (control'' : Control) → h ≡ halts.Asks q → s' ≡ screen.with_request s q → control'.waits ≡ Asked q
        → control'' ≡ answered q (reply_to q) control'.position → marks' < marks → IsServed core p first control'' (mem_of heads next.scene.mem.cells) marks' s'
    served_on q s' control'' is put_is waits answer less =
        let longer_by : length (served.replies ++ reply ∷ []) ≡ length served.replies + 1 = length-append served.replies (reply ∷ []) in
        record {
          replies = served.replies ++ reply ∷ [];
          contents = come_push served.replies reply served.contents no_space_comes;
          written = served.written ++ written_by q;
          on = λ more last h.
              let whole : Rests p (start p) (record { mem = first; marks = line_marks; replies = served.replies ++ reply ∷ more }) last =
              subst (λ rs. Rests p (start p) (record { mem = first; marks = line_marks; replies = rs }) last)
              (append_assoc served.replies (reply ∷ []) more) h in
              let there : Rests p next.control (longer (reply ∷ more) next.scene) last =
              passed p (reply ∷ more) rests.0 control (scene_of now marks) next last paused rests.1 (served.on (reply ∷ more) last whole) in
              subst (λ (c : Control). Rests p c (record { mem = mem_of heads next.scene.mem.cells; marks = marks'; replies = more }) last) (sym answer)
              (took p control'.waits control'.position q (mem_of heads next.scene.mem.cells) marks' more last waits
              (subst (λ (r : Rest). Rests p r.control (longer (reply ∷ more) r.scene) last) so.1 there));
          shown = put_is ∙ (ap (λ x. screen.put_all x (written_by q)) served.shown ∙ sym (put_all-append blank served.written (written_by q)));
          paid = omega (arith, longer_by, served.paid, less);
          so_far =
              let e = shows_asks p q (evaluate core [] no_spaces line_marks served.replies) next comes.shows (how ∙ is) in
              let n : ℕ = line_marks + 1 - length (served.replies ++ reply ∷ []) in
              let more : Answer → Output = λ r. output_in n core line_marks (served.replies ++ r ∷ []) in
              let one_more : line_marks + 1 - length served.replies ≡ suc n = omega (arith, longer_by, served.paid, less) in
              served.so_far ∙ ap (λ k. behind served.written (output_in k core line_marks served.replies)) one_more
              ∙ ap (λ x. behind served.written (output_at x more)) e.1
              ∙ ap (λ ws. record { written = ws; stop = (more reply).stop }) (sym (append_assoc served.written (written_by q) (more reply).written));
        }
      where
        reply : Answer
        reply = answer_to q

        paused : IsPaused next.how
        paused = subst (λ h. IsPaused h) (sym (how ∙ is)) tt
