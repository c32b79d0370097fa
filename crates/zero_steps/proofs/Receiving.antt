-- A request about a message goes on with its reply.
use Rattle.std.proofs.Common.{◌≡◌, ℕ, zero, suc, ◌+◌, ◌≤◌, Bool, true, false, cond, List, [], ◌∷◌, length, take, drop, Option, Some, None, refl, sym, ap, ◌∙◌, subst, inl, inr, ◌⊎◌}
use Rattle.std.specs.Prelude.{reverse, slice_get, ◌&&◌, Result, Ok, Err, IfOk}
use Rattle.std.specs.List.{AllByRecursion}
use Rattle.eu_base.specs.declared.address.Addr.{Addr}
use Rattle.eu_base.specs.declared.address.Area.{Area}
use Rattle.eu_base.specs.declared.address.Area.TheVariants as areas
use Rattle.eu_base.specs.declared.request.RequestName.{RequestName}
use Rattle.eu_base.specs.declared.request.RequestName.TheVariants as names
use Rattle.eu_base.specs.declared.request.Reply.{Reply}
use Rattle.eu_base.specs.declared.request.Reply.TheVariants as replies
use Rattle.eu_base.specs.declared.stop.Stop.TheVariants.{NoSpace}
use Rattle.eu_base.specs.declared.value.Kind.{Kind}
use Rattle.eu_base.specs.declared.value.Kind.TheVariants as kinds
use Rattle.eu_base.specs.declared.value.Value.{Value}
use Rattle.eu_base.specs.declared.value.Value.TheVariants as item
use Rattle.eu_base.specs.Values.{SpaceNo, kind_of, cell_of, space_of, number_in, truth_in, task_in, space_in}
use Rattle.eu_base.specs.Cells.{Cell, Word, Cells, held_of, written, same_cell}
use Rattle.eu_base.specs.DataSpaces.{Heads}
use Rattle.eu_base.specs.Room.{cells_fit}
use Rattle.eu_base.specs.SpacePlaces.{lies_in, is_in}
use Rattle.eu_base.specs.Requests.{request_places, request_size, request_result, is_message, message_values, Suits}
use Rattle.eu_base.proofs.Results.{message_suits}
use Rattle.code_form.specs.declared.operand.Operand.{Operand}
use Rattle.code_form.specs.declared.operand.Operand.TheVariants.{Place as At}
use Rattle.code_form.specs.declared.instr.Instr.TheVariants.{Ask}
use Rattle.code_form.specs.declared.waits.Waits.{Waits}
use Rattle.code_form.specs.declared.waits.Waits.TheVariants.{Given as Replied}
use Rattle.code_form.specs.Machine.{Mem, Position, Control, free, given, refused, at, On, Move, Refuses, Unknown, goes, on_cell, takes, takes_number, without_held, last_made, receives_at, receives}
use Rattle.code_form.specs.Machine.{puts_reply, settles, takes_reply, move_stage}
use Rattle.zero_state.specs.Finds.{behind_values, AreVariables}
use Rattle.zero_state.specs.declared.next.Next.TheVariants.{On as On'}
use Rattle.zero_state.specs.Stepping.{mem_of, scene_of, Does}
use Rattle.zero_state.proofs.Making.{done}
use Rattle.zero_state.proofs.Stacks.{taken_all}
use Rattle.zero_steps.specs.Received.{ReceivesAll}
use Rattle.zero_steps.proofs.ReceivedCells.{variable_there}
use Rattle.zero_steps.specs.Replying.{left_waiting, replied_by, Replies}

-- what the reply that is there brings suits the variables
pub brought_so : {E : Type 0} (result : Result (List (ℕ × Value)) E) (q : RequestName) (w : Waits) (reply : Reply) (s : SpaceNo) → w ≡ Replied reply
    → IfOk result (λ values. values ≡ message_values q reply s)
    → IfOk result (λ values. ((r : Reply) → w ≡ Replied r → values ≡ message_values q r s) × AllByRecursion (Suits (request_places q)) values)
brought_so (Ok values) q w reply s is h = (
  λ r e. let same : reply ≡ r = cc (sym is ∙ e) in h ∙ ap (λ (r : Reply). message_values q r s) same,
  subst (AllByRecursion (Suits (request_places q))) (sym h) (message_suits q reply s),
)
brought_so (Err e) q w reply s is h = tt

-- a reply that brings nothing
done_brings : (name : RequestName) (s : SpaceNo) → message_values name replies.Done s ≡ []
done_brings names.Send s = refl
done_brings names.Wait s = refl
done_brings names.Call s = refl
done_brings _ s = refl

-- a kind of numbers; a number in a cell is no text
no_text : (v : Value) → held_of v ≡ Word (cell_of v) → kind_of v ≡ kinds.Text → ⊥
no_text (item.Int z) e is = cc is
no_text (item.Truth b) e is = cc is
no_text (item.Text t) e is = cc e
no_text (item.Task n) e is = cc is
no_text (item.Space s) e is = cc is

read_word : (k : Kind) → (k ≡ kinds.Text → ⊥) → (n : ℕ) (f : Value → Move) → (w : Value) × (on_cell k (Word n) f ≡ f w)
read_word kinds.Int some n f = (item.Int (number_in n), refl)
read_word kinds.Truth some n f = (item.Truth (truth_in n), refl)
read_word kinds.Text some n f = absurd (some refl)
read_word kinds.Task some n f = (item.Task (task_in n), refl)
read_word kinds.Space some n f = (item.Space (space_in n), refl)

-- ---- a memory without data spaces, where one of the variables is not there

abbrev bare : ℕ → Heads
bare last = record { live = []; last = last; names = [] }

-- each cell holds a number
abbrev AreWords : Cells → Type 0
AreWords cells = (a : Addr) → (n : ℕ) × (cells a ≡ Word n)

words_then : (cells : Cells) (a : Addr) (n : ℕ) → AreWords cells → AreWords (written cells a (Word n))
words_then cells a n all b = by (same_cell b a)
  where
    by : (t : Bool) → (m : ℕ) × (cond t (Word n) (cells b) ≡ Word m)
    by true = (n, refl)
    by false = all b

nothing_held : (o : Option SpaceNo) (last : ℕ) (cells : Cells) → without_held o (mem_of (bare last) cells) ≡ mem_of (bare last) cells
nothing_held None last cells = refl
nothing_held (Some s) last cells = refl

-- what is not there with some data spaces is not there with none
still_gone : (ks : List Kind) (area : Area) (x : ℕ) (heads : Heads) (last : ℕ) → lies_in ks area x heads ≡ false → lies_in ks area x (bare last) ≡ true → ⊥
still_gone ks area x heads last gone here = apart (cells_fit (x + length ks)) gone here
  where
    by : (area : Area) → is_in ks area x heads ≡ false → is_in ks area x (bare last) ≡ true → ⊥
    by areas.Run gone here = cc gone
    by areas.Packets gone here = cc gone
    by (areas.Space s) gone here = cc here

    apart : (t : Bool) → (t && is_in ks area x heads) ≡ false → (t && is_in ks area x (bare last)) ≡ true → ⊥
    apart true gone here = by area gone here
    apart false gone here = cc here

module _ (c : Position) (ops os : List Operand) (ks : List Kind) (are : AreVariables ks os) (last : ℕ) where
  -- the command stops at it, or before it
  refuses : (es : List (ℕ × Value)) → AllByRecursion (Suits ks) es → (n : ℕ) (e : ℕ × Value) → slice_get es n ≡ Some e → (place : Addr)
      → slice_get os e.0 ≡ Some (At place) → (heads : Heads) → lies_in (kind_of e.1 ∷ []) place.area place.cell heads ≡ false → (cells : Cells) → AreWords cells
      → (m : Mem) × (receives c ops os es (mem_of (bare last) cells) ≡ Refuses NoSpace (at c (c.pc + 1) ops) m)
  refuses [] suits n e is place there heads gone cells all = let f : ⊥ = cc in absurd f
  refuses (x ∷ es) suits n e is place there heads gone cells all =
      let var = variable_there ks os x.0 suits.0.0 are suits.0.1 in
      by (λ k is cells all. refuses es suits.1 k e is place there heads gone cells all) var.0 var.1.0 (lies_in (kind_of x.1 ∷ []) var.0.area var.0.cell (bare last)) refl
    where
      opened : (a : Addr) → slice_get os x.0 ≡ Some (At a) → (t : Bool) → lies_in (kind_of x.1 ∷ []) a.area a.cell (bare last) ≡ t
          → receives c ops os (x ∷ es) (mem_of (bare last) cells)
          ≡ cond t (on_cell (kind_of x.1) (cells a) (λ held. cond (takes (held_of x.1) (cells a))
          (receives c ops os es (without_held (space_of held) (mem_of (bare last) (written cells a (held_of x.1))))) Unknown))
          (Refuses NoSpace (at c (c.pc + 1) ops) (mem_of (bare last) cells))
      opened a here t e =
          ap (λ (o : Option Operand). receives_at c ops o x.1 (mem_of (bare last) cells) (receives c ops os es)) here
          ∙ ap (λ (t : Bool). cond t (on_cell (kind_of x.1) (cells a) (λ held. cond (takes (held_of x.1) (cells a))
          (receives c ops os es (without_held (space_of held) (mem_of (bare last) (written cells a (held_of x.1))))) Unknown))
          (Refuses NoSpace (at c (c.pc + 1) ops) (mem_of (bare last) cells))) e

      -- it is the next one, or one behind it
      later : (a : Addr) → slice_get os x.0 ≡ Some (At a) → lies_in (kind_of x.1 ∷ []) a.area a.cell (bare last) ≡ true → (n : ℕ) → slice_get (x ∷ es) n ≡ Some e
          → (k : ℕ) × (slice_get es k ≡ Some e)
      later a here there' zero is' =
          let same : x ≡ e = cc is' in
          let place' : Some (At a) ≡ Some (At place) = sym here ∙ ap (λ (y : ℕ × Value). slice_get os y.0) same ∙ there in
          let at_place : a ≡ place = cc place' in
          let here' : lies_in (kind_of e.1 ∷ []) place.area place.cell (bare last) ≡ true =
          subst (λ (b : Addr). lies_in (kind_of e.1 ∷ []) b.area b.cell (bare last) ≡ true) at_place
          (subst (λ (y : ℕ × Value). lies_in (kind_of y.1 ∷ []) a.area a.cell (bare last) ≡ true) same there') in
          absurd (still_gone (kind_of e.1 ∷ []) place.area place.cell heads last gone here')
      later a here there' (suc n) is' = (n, is')

      by : ((k : ℕ) → slice_get es k ≡ Some e → (cells : Cells) → AreWords cells
          → (m : Mem) × (receives c ops os es (mem_of (bare last) cells) ≡ Refuses NoSpace (at c (c.pc + 1) ops) m))
          → (a : Addr) → slice_get os x.0 ≡ Some (At a) → (t : Bool) → lies_in (kind_of x.1 ∷ []) a.area a.cell (bare last) ≡ t
          → (m : Mem) × (receives c ops os (x ∷ es) (mem_of (bare last) cells) ≡ Refuses NoSpace (at c (c.pc + 1) ops) m)
      by more a here false t = (mem_of (bare last) cells, opened a here false t)
      by more a here true t =
          let number = suits.0.3 in
          let word = all a in
          let put = written cells a (held_of x.1) in
          let f = λ (held : Value). cond (takes (held_of x.1) (cells a)) (receives c ops os es (without_held (space_of held) (mem_of (bare last) put))) Unknown in
          let read = read_word (kind_of x.1) (no_text x.1 number) word.0 f in
          let taken : takes (held_of x.1) (cells a) ≡ true = ap (λ (y : Cell). takes y (cells a)) number ∙ ap takes_number word.1 in
          let words : AreWords put = subst (λ (y : Cell). AreWords (written cells a y)) (sym number) (words_then cells a (cell_of x.1) all) in
          let next = later a here t n is in
          let rest = more next.0 next.1 put words in (
            rest.0,
            opened a here true t ∙ ap (λ (y : Cell). on_cell (kind_of x.1) y f) word.1 ∙ read.1
                ∙ ap (λ (t : Bool). cond t (receives c ops os es (without_held (space_of read.0) (mem_of (bare last) put))) Unknown) taken
                ∙ ap (λ (m : Mem). receives c ops os es m) (nothing_held (space_of read.0) last put) ∙ rest.1,
          )

-- ---- the reply

module _ (before after : Cells → Type 0) (had has : Heads) (name : RequestName) (r : Reply) (c : Position) (le : request_size name ≤ length c.ops)
    (none : request_result name ≡ None) (message : is_message name ≡ true) (are : AreVariables (request_places name) (behind_values name c.ops)) where
  abbrev rest : List Operand
  rest = drop (request_size name) c.ops

  abbrev os : List Operand
  os = behind_values name c.ops

  -- it takes the operands on top
  settled : (r : Reply) (mem : Mem)
      → takes_reply (Some (Ask name)) r c mem ≡ receives c rest os (message_values name r (last_made mem)) mem
  settled r mem =
      taken_all (request_size name) c.ops _ le ∙ ap (λ o. settles name o r c (reverse (take (request_size name) c.ops)) rest mem) none
      ∙ ap (λ b. puts_reply b name r c os rest mem) message

  abbrev next : Control
  next = free (at c (c.pc + 1) rest)

  abbrev stopped : Control
  stopped = refused (at c (c.pc + 1) rest) NoSpace

  module _ (es : List (ℕ × Value)) (is : es ≡ message_values name r (record { 0 = had.last })) where
    brings : (cells : Cells) → takes_reply (Some (Ask name)) r c (mem_of had cells) ≡ receives c rest os es (mem_of had cells)
    brings cells = settled r (mem_of had cells) ∙ ap (λ (es : List (ℕ × Value)). receives c rest os es (mem_of had cells)) (sym is)

    -- all that memory is known to hold
    led : (c' : Control) (to : Mem → Move)
        → ((m : Mem) (marks : ℕ) (cells : Cells) → On c' (scene_of m marks) ≡ move_stage (to m) (given c r) (scene_of (mem_of had cells) marks))
        → ((cells : Cells) → before cells → (receives c rest os es (mem_of had cells) ≡ Unknown)
        ⊎ ((now : Cells) × (after now × (receives c rest os es (mem_of had cells) ≡ to (mem_of has now)))))
        → (marks : ℕ) (cells : Cells) → before cells → Does after has None c' marks (replied_by name r marks c (mem_of had cells))
    led c' to stage known marks cells h = by (known cells h)
      where
        by : (receives c rest os es (mem_of had cells) ≡ Unknown)
            ⊎ ((now : Cells) × (after now × (receives c rest os es (mem_of had cells) ≡ to (mem_of has now))))
            → Does after has None c' marks (replied_by name r marks c (mem_of had cells))
        by (inl lost) =
            subst (λ m. Does after has None c' marks (move_stage m (given c r) (scene_of (mem_of had cells) marks))) (sym (brings cells ∙ lost)) tt
        by (inr x) =
            subst (λ m. Does after has None c' marks (move_stage m (given c r) (scene_of (mem_of had cells) marks))) (sym (brings cells ∙ x.1.1))
            (done after has None c' marks (move_stage (to (mem_of has x.0)) (given c r) (scene_of (mem_of had cells) marks)) x.0 x.1.0 (stage (mem_of has x.0) marks cells))

    pub received_so : (all : Bool) → ReceivesAll before after had has os es all
        → Replies before after had has name r c (record { position = at c (c.pc + 1) rest; waits = left_waiting all }) On'
    received_so true got = record {
      does = led next (λ m. goes c rest m) (λ m marks cells. refl) (λ cells h. got c rest cells h);
      leads = inl (replies.Done, λ marks. (nothing, (nothing, so marks)));
    }
      where
        nothing : Mem
        nothing = mem_of (bare 0) (λ _. Word 0)

        so : (marks : ℕ) → On next (scene_of nothing marks) ≡ replied_by name replies.Done marks c nothing
        so marks =
            ap (λ m. move_stage m (given c replies.Done) (scene_of nothing marks))
            (sym (settled replies.Done nothing ∙ ap (λ (es : List (ℕ × Value)). receives c rest os es nothing) (done_brings name (last_made nothing))))
    received_so false got = record {
      does = led stopped (λ m. Refuses NoSpace (at c (c.pc + 1) rest) m) (λ m marks cells. refl) (λ cells h. got.known c rest cells h);
      leads =
          let none_there : Mem = mem_of (bare had.last) (λ _. Word 0) in
          let x = got.missed in
          let suits = subst (AllByRecursion (Suits (request_places name))) (sym is) (message_suits name r (record { 0 = had.last })) in
          let stops = refuses c rest os (request_places name) are had.last es suits x.number x.entry x.is x.place x.there x.heads x.gone (λ _. Word 0) (λ a. (0, refl)) in
          inl (
            r,
            λ marks. (
              none_there,
              (
                stops.0,
                ap (λ m. move_stage m (given c r) (scene_of none_there marks))
                    (sym (settled r none_there ∙ ap (λ (es : List (ℕ × Value)). receives c rest os es none_there) (sym is) ∙ stops.1)),
              ),
            ),
          );
    }
