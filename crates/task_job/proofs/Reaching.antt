-- A run that stands where a command stands shows what the command does, goes on as it does, and takes the reply that it gets.
use Rattle.std.proofs.Common.{◌≡◌, ℕ, zero, suc, ◌+◌, ◌-◌, ◌≤◌, ◌⊎◌, inl, inr, ⊎_elim, Bool, true, false, cond, List, [], ◌∷◌, ◌++◌, length, take, Some, refl, sym, ap, ◌∙◌, subst, arith}
use Rattle.std.proofs.Common.{append-nil, append_assoc}
use Rattle.std.specs.Prelude.{◌&&◌, slice_get}
use Rattle.eu_base.specs.declared.stop.Stop.TheVariants.{CellRoom}
use Rattle.eu_base.specs.declared.value.Kind.{Kind}
use Rattle.eu_base.specs.Values.{blank_of}
use Rattle.std.proofs.lemmas.List.{length-map, length-append}
use Rattle.eu_base.specs.declared.request.Request.{Request}
use Rattle.eu_base.specs.Requests.{Answer}
use Rattle.eu_base.specs.declared.address.Area.TheVariants.{Packets}
use Rattle.eu_base.specs.Room.{cells_fit}
use Rattle.eu_base.specs.Cells.{Free, packet_cell}
use Rattle.eu_base.specs.DataSpaces.{Spaces}
use Rattle.eu_base.specs.SoundSpaces.{CanCome}
use Rattle.eu_base.proofs.SoundSpaces.{come_push}
use Rattle.task_job.specs.Below.cell_kinds.specs.Kinds.{packet_kinds}
use Rattle.code_form.specs.declared.halt.Halt.{Halt}
use Rattle.code_form.specs.declared.halt.Halt.TheVariants as halts
use Rattle.code_form.specs.declared.waits.Waits.{Waits}
use Rattle.code_form.specs.declared.waits.Waits.TheVariants.{Nothing, Asked, Refused}
use Rattle.code_form.specs.Program.{Program, start_kinds, kinds_in_packets}
use Rattle.code_form.specs.Machine.{Position, Control, asking, answered, after_reply, refused, Mem, Scene, Rest, rest_at, stage_at, carry_on, exec, have_room, start}
use Rattle.code_form.specs.Runs.{IsPaused, Rests, Stands}
use Rattle.code_form.proofs.Spent.{falls, stands_run, stands_reply}
use Rattle.task_job.specs.Below.place_gen.specs.Correct.{Image, HasVariables, RestsAs, Shows}
use Rattle.task_job.specs.Below.code_gen.specs.Correct.{Behaves}
use Rattle.task_job.specs.Below.code_gen.proofs.Plays.{plays}
use Rattle.task_job.specs.Below.code_gen.proofs.Coding.{code_behaves}
use Rattle.elan_types.specs.declared.core_phrase.Core.{Core}
use Rattle.elan_types.specs.Typing.{all_packet_kinds}
use Rattle.elan_types.specs.Eval.{Slot, Holds, World}
use Rattle.elan_types.specs.Eval as outcomes
use Rattle.elan_types.specs.Command.{Ending, Ended, Stopped, OutOfMarks, Asks, ending, blanks, at_start, start_fits, run_from, evaluate}
use Rattle.elan_types.specs.Command as command
use Rattle.task_job.specs.Runs.{IsStill, Reaches}
use Rattle.task_job.proofs.Passing.{passes}
use Rattle.task_job.proofs.Staying.{still}

the_some : {A : Type 0} (a b : A) → Some a ≡ Some b → a ≡ b
the_some a b e = cc

-- the answer that is given is taken
took : (p : Program) (w : Waits) (c : Position) (q : Request) (a : Answer) (mem : Mem) (marks : ℕ) (more : List Answer) (last : Rest) → w ≡ Asked q
    → Rests p (record { position = c; waits = w }) (record { mem = mem; marks = marks; replies = a ∷ more }) last
    → Rests p (answered q a.reply c) (record { mem = after_reply q a mem; marks = marks; replies = more }) last
took p w c q a mem marks more last is h =
    by (subst (λ (w : Waits). Rests p (record { position = c; waits = w }) (record { mem = mem; marks = marks; replies = a ∷ more }) last) is h)
  where
    by : Rests p (asking c q) (record { mem = mem; marks = marks; replies = a ∷ more }) last
        → Rests p (answered q a.reply c) (record { mem = after_reply q a mem; marks = marks; replies = more }) last
    by (zero, e) = absurd (cc e)
    by (suc n, e) = (n, e)

-- where the cells have no room, the run stays at its start
unmoved : (p : Program) (s : Scene) (r : Rest) → have_room p ≡ false → Rests p (start p) s r → r.scene ≡ s
unmoved p s r full (zero, e) = absurd (cc e)
unmoved p s r full (suc n, e) =
    let there : Rest = rest_at (halts.Stopped CellRoom) (refused (start p).position CellRoom) s in
    let f : Some there ≡ Some r =
    ap (λ b. carry_on (stage_at (cond b Nothing (Refused CellRoom)) p (start p).position s) (exec p n)) (sym full) ∙ e in
    ap (λ (y : Rest). y.scene) (sym (the_some there r f))

room_is : (core : Core) (p : Program) → Behaves core p → have_room p ≡ start_fits core
room_is core p b =
    ap (λ ks. cells_fit (length ks) && cells_fit (length (packet_kinds p.packets ++ p.inserted))) b.first
    ∙ ap (λ ps. cells_fit (length (command.start_kinds core)) && cells_fit (length (packet_kinds ps ++ p.inserted))) b.packets
    ∙ ap (λ ks. cells_fit (length (command.start_kinds core)) && cells_fit (length (packet_kinds core.packets ++ ks))) b.inserted

-- the variables of packets where it stands so
abbrev pub packets_in : Ending → List Slot
packets_in (Ended w) = w.packets
packets_in (Stopped s w) = w.packets
packets_in (OutOfMarks w) = w.packets
packets_in (Asks q w) = w.packets

unfit : (core : Core) (variables : List Slot) (spaces : Spaces) (marks : ℕ) (replies : List Answer) → start_fits core ≡ false
    → packets_in (evaluate core variables spaces marks replies) ≡ variables ++ blanks core.inserted
unfit core variables spaces marks replies full =
    ap (λ b. packets_in (ending (outcomes.branch b (run_from core.start core marks) (outcomes.Stopped CellRoom) (at_start core variables spaces marks replies)))) full

second_false : (a b : Bool) → b ≡ false → (a && b) ≡ false
second_false true b e = e
second_false false b e = refl

second_true : (a b : Bool) → (a && b) ≡ true → b ≡ true
second_true true b e = e
second_true false b e = absurd (cc e)

front_slot : (n : ℕ) (slots : List Slot) (x : ℕ) (s : Slot) → slice_get (take n slots) x ≡ Some s → slice_get slots x ≡ Some s
front_slot zero slots x s e = absurd (cc e)
front_slot (suc n) [] x s e = absurd (cc e)
front_slot (suc n) (y ∷ slots) zero s e = e
front_slot (suc n) (y ∷ slots) (suc x) s e = front_slot n slots x s e

front_is : (xs ys : List Slot) → take (length xs) (xs ++ ys) ≡ xs
front_is [] ys = refl
front_is (x ∷ xs) ys = ap (λ l. x ∷ l) (front_is xs ys)

module _ (core : Core) (variables : List Slot) (spaces : Spaces) (spent : ℕ) (replies : List Answer) (code : Program) (c : Control) (now : Mem)
    (k : Reaches core variables spaces spent replies code c now) where
  does : Behaves core code
  does = code_behaves core code k.code_is

  abbrev with_marks : ℕ → Scene
  with_marks left = record { mem = now; marks = left; replies = [] }

  -- it comes to rest
  pub next : (left : ℕ) → (r : Rest) × Rests code c (record { mem = now; marks = left; replies = [] }) r
  next left =
      let e = does.ends (at_start core variables spaces (spent + left) replies) k.first (k.has, k.contents) in (
        e.rest,
        k.comes left [] e.rest
            (subst (λ rs. Rests code (start code) (record { mem = k.first; marks = spent + left; replies = rs }) e.rest) (sym (append-nil replies))
            (e.steps, e.comes)),
      )

  -- and shows what the evaluation gives
  pub shows : (left : ℕ) (r : Rest) → Rests code c (record { mem = now; marks = left; replies = [] }) r
      → Shows code (evaluate core variables spaces (spent + left) replies) r
  shows left r h = plays core code variables spaces k.first now spent left replies c r does (k.has, k.contents) k.stands h

  -- where there is no room its cells are those of the start
  still_first : (left : ℕ) (r : Rest) → Rests code c (record { mem = now; marks = left; replies = [] }) r → have_room code ≡ false
      → r.scene.mem ≡ k.first
  still_first left r h full =
      ap (λ (s : Scene). s.mem) (unmoved code (record { mem = k.first; marks = spent + left; replies = replies ++ [] }) r full (k.stands.goes left [] r h))

  -- the variables that the packets had stand in their cells
  pub front_there : (left : ℕ) (r : Rest) → Rests code c (record { mem = now; marks = left; replies = [] }) r
      → Image Packets (take (length variables) (packets_in (evaluate core variables spaces (spent + left) replies))) r.scene.mem.cells
  front_there left r h = by (evaluate core variables spaces (spent + left) replies) (shows left r h) (start_fits core) refl
      (unfit core variables spaces (spent + left) replies)
    where
      fits : (h : Halt) (w : World) → RestsAs code h w r → start_fits core ≡ true → Image Packets (take (length variables) w.packets) r.scene.mem.cells
      fits h w a room = λ fit x s e.
          let many : length w.packets ≡ length (all_packet_kinds core) =
          a.packets.as_many ∙ ap (λ ps. length (packet_kinds ps ++ code.inserted)) does.packets
          ∙ ap (λ ks. length (packet_kinds core.packets ++ ks)) does.inserted in
          a.packets.image (ap cells_fit many ∙ second_true (cells_fit (length (command.start_kinds core))) (cells_fit (length (all_packet_kinds core))) room) x s
          (front_slot (length variables) w.packets x s e)

      unmade : (e : Ending) → start_fits core ≡ false → packets_in e ≡ variables ++ blanks core.inserted
          → Image Packets (take (length variables) (packets_in e)) r.scene.mem.cells
      unmade e full is =
          let same : r.scene.mem ≡ k.first = still_first left r h (room_is core code does ∙ full) in
          let front : take (length variables) (packets_in e) ≡ variables = ap (take (length variables)) is ∙ front_is variables (blanks core.inserted) in
          subst (λ slots. Image Packets slots r.scene.mem.cells) (sym front) (subst (λ (m : Mem). Image Packets variables m.cells) (sym same) k.front)

      by : (e : Ending) → Shows code e r → (b : Bool) → start_fits core ≡ b → (start_fits core ≡ false → packets_in e ≡ variables ++ blanks core.inserted)
          → Image Packets (take (length variables) (packets_in e)) r.scene.mem.cells
      by e s false full is = unmade e full (is full)
      by (Ended w) s true room is = fits halts.Ended w s room
      by (Stopped stop w) s true room is = fits (halts.Stopped stop) w s room
      by (OutOfMarks w) s true room is = fits halts.Marked w s room
      by (Asks q w) s true room is = fits (halts.Asks q) w s room

  -- where it comes to rest it stands as the command does with the marks that it spent
  pub reaches_on : (left : ℕ) (r : Rest) → IsPaused r.how ⊎ (left ≡ 0) → Rests code c (record { mem = now; marks = left; replies = [] }) r
      → r.scene.replies ≡ [] → Reaches core variables spaces (spent + (left - r.scene.marks)) replies code r.control r.scene.mem
  reaches_on left r calm h none = record {
    code_is = k.code_is;
    first = k.first;
    has = k.has;
    front = k.front;
    bare = k.bare;
    contents = k.contents;
    stands = stands_run code (start code) k.first spent left replies c now r calm k.stands h none;
    comes = λ marks more last g.
        let e : (spent + (left - r.scene.marks)) + marks ≡ spent + ((left - r.scene.marks) + marks) = omega arith in
        let there = k.comes ((left - r.scene.marks) + marks) more last
        (subst (λ n. Rests code (start code) (record { mem = k.first; marks = n; replies = replies ++ more }) last) e g) in
        subst (λ rs. Rests code r.control (record { mem = r.scene.mem; marks = marks; replies = rs ++ more }) last) none
        ((passes code more h.0 c (with_marks left) r calm h.1).1 marks last there);
  }

  pub still_there : (left : ℕ) (r : Rest) → IsPaused r.how ⊎ (left ≡ 0) → Rests code c (record { mem = now; marks = left; replies = [] }) r
      → r.scene.replies ≡ [] → IsStill code r.control r.scene.mem
  still_there left r calm h none = still code h.0 c (with_marks left) r calm h.1 (⊎_elim (λ paused. inl paused) (λ none. inr (bare none)) calm)
    where
      bare : left ≡ 0 → r.scene ≡ record r.scene { marks = 0; replies = [] }
      bare spent_none =
          let less = falls code h.0 c (with_marks left) r h.1 in
          let gone : r.scene.marks ≡ 0 = omega (arith, less, spent_none) in
          ap (λ n. record r.scene { marks = n }) gone ∙ ap (λ rs. record r.scene { marks = 0; replies = rs }) none

  -- after an answer
  pub reaches_reply : (q : Request) (a : Answer) → CanCome a.content → c.waits ≡ Asked q
      → Reaches core variables spaces spent (replies ++ a ∷ []) code (answered q a.reply c.position) (after_reply q a now)
  reaches_reply q a can asks = record {
    code_is = k.code_is;
    first = k.first;
    has = k.has;
    front = k.front;
    bare = k.bare;
    contents = come_push replies a k.contents can;
    stands =
        stands_reply code (start code) k.first spent replies c.position now q a
        (subst (λ (w : Waits). Stands code (start code) k.first spent replies (record { position = c.position; waits = w }) now) asks k.stands);
    comes = λ marks more last g.
        took code c.waits c.position q a now marks more last asks
        (k.comes marks (a ∷ more) last
        (subst (λ rs. Rests code (start code) (record { mem = k.first; marks = spent + marks; replies = rs }) last)
        (append_assoc replies (a ∷ []) more) g));
  }

  -- and behind them nothing was made where all together have no room
  bare_there : (left : ℕ) (r : Rest) → Rests code c (record { mem = now; marks = left; replies = [] }) r
      → cells_fit (length (kinds_in_packets code)) ≡ false → (x : ℕ) → length variables ≤ x → r.scene.mem.cells (packet_cell x) ≡ Free
  bare_there left r h full x past =
      let none : have_room code ≡ false = second_false (cells_fit (length (start_kinds code))) (cells_fit (length (kinds_in_packets code))) full in
      ap (λ (m : Mem). m.cells (packet_cell x)) (still_first left r h none) ∙ k.bare full x past

  module _ (kinds : List Kind) (is : packet_kinds core.packets ≡ kinds) where
    all_kinds : kinds_in_packets code ≡ kinds ++ core.inserted
    all_kinds =
        ap (λ ps. packet_kinds ps ++ code.inserted) does.packets ∙ ap (λ ks. packet_kinds core.packets ++ ks) does.inserted
        ∙ ap (λ ks. ks ++ core.inserted) is

    pub many_variables : length variables ≡ length kinds
    many_variables =
        let a : length (variables ++ blanks core.inserted) ≡ length (kinds ++ core.inserted) = k.has.packets.as_many ∙ ap length all_kinds in
        let b : length (variables ++ blanks core.inserted) ≡ length variables + length (blanks core.inserted) =
        length-append variables (blanks core.inserted) in
        let d : length (kinds ++ core.inserted) ≡ length kinds + length core.inserted = length-append kinds core.inserted in
        let e : length (blanks core.inserted) ≡ length core.inserted = length-map core.inserted (λ x. Holds (blank_of x)) in
        omega (arith, a, b, d, e)

    -- the variables of packets stand in their cells, and behind them those of a packet that is inserted
    pub behind_there : (left : ℕ) (r : Rest) → Rests code c (record { mem = now; marks = left; replies = [] }) r
        → HasVariables Packets (kinds ++ core.inserted) (packets_in (evaluate core variables spaces (spent + left) replies)) r.scene.mem.cells
        × Image Packets (take (length kinds) (packets_in (evaluate core variables spaces (spent + left) replies))) r.scene.mem.cells
        × (cells_fit (length (kinds ++ core.inserted)) ≡ false → (x : ℕ) → length kinds ≤ x → r.scene.mem.cells (packet_cell x) ≡ Free)
    behind_there left r h =
        let slots = packets_in (evaluate core variables spaces (spent + left) replies) in (
          subst (λ ks. HasVariables Packets ks slots r.scene.mem.cells) all_kinds (by (evaluate core variables spaces (spent + left) replies) (shows left r h)),
          subst (λ n. Image Packets (take n slots) r.scene.mem.cells) many_variables (front_there left r h),
          λ full x past.
              let le : length variables ≤ x = omega (arith, many_variables, past) in
              bare_there left r h (ap (λ ks. cells_fit (length ks)) all_kinds ∙ full) x le,
        )
      where
        by : (e : Ending) → Shows code e r → HasVariables Packets (kinds_in_packets code) (packets_in e) r.scene.mem.cells
        by (Ended w) s = s.packets
        by (Stopped stop w) s = s.packets
        by (OutOfMarks w) s = s.packets
        by (Asks q w) s = s.packets
