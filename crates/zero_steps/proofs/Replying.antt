-- A request goes on with its reply.
use Rattle.std.proofs.Common.{◌≡◌, ℕ, ◌+◌, ◌≤◌, Bool, true, false, cond, List, [], ◌∷◌, length, take, drop, Some, refl, sym, ap, ◌∙◌, subst, inl, inr}
use Rattle.std.specs.Prelude.{reverse, Option, None, is_some, Ok, Err, MatchOption, pos}
use Rattle.eu_base.specs.declared.address.Addr.{Addr}
use Rattle.eu_base.specs.declared.value.Value.{Value}
use Rattle.eu_base.specs.declared.value.Value.TheVariants as item
use Rattle.eu_base.specs.declared.stop.Stop.{Stop}
use Rattle.eu_base.specs.declared.stop.Stop.TheVariants.{OperandRoom}
use Rattle.eu_base.specs.declared.set.Set.{Set}
use Rattle.eu_base.specs.declared.set.Set.TheVariants.{Done, HeapFull}
use Rattle.eu_base.specs.declared.request.RequestName.{RequestName}
use Rattle.eu_base.specs.declared.request.RequestName.TheVariants.{GetNumber, GetText, GetLine}
use Rattle.eu_base.specs.declared.request.RequestName.TheVariants as names
use Rattle.eu_base.specs.declared.request.Reply.{Reply}
use Rattle.eu_base.specs.declared.request.Reply.TheVariants as replies
use Rattle.eu_base.specs.declared.value.Kind.{Kind}
use Rattle.eu_base.specs.declared.value.Kind.TheVariants as kinds
use Rattle.eu_base.specs.Values.{kind_of}
use Rattle.eu_base.specs.DataSpaces.{Heads}
use Rattle.eu_base.specs.SpacePlaces.{lies_in}
use Rattle.eu_base.specs.SpaceCells.{IsThere}
use Rattle.zero_steps.proofs.Placed.{there_of}
use Rattle.eu_base.proofs.Results.{kind_is, read_gives}
use Rattle.eu_base.specs.Requests.{request_kinds, request_result, request_size, is_message, read_as, answer_of}
use Rattle.eu_base.specs.Cells.{Free, Cells, IsCell, held_of, written}
use Rattle.code_form.specs.declared.halt.Halt.TheVariants as halts
use Rattle.code_form.specs.declared.operand.Operand.{Operand}
use Rattle.code_form.specs.declared.operand.Operand.TheVariants.{Value as Of, Place as At}
use Rattle.code_form.specs.declared.instr.Instr.TheVariants.{Ask}
use Rattle.code_form.specs.Machine.{Mem, Position, Control, free, given, On, Halts, at, goes, or_halt, pushes, bytes_on, bytes_of, keeps, puts_reply, settles, takes_reply, move_stage}
use Rattle.zero_state.specs.Finds.{behind_values, IsVariable}
use Rattle.zero_state.specs.declared.next.Next.{Next}
use Rattle.zero_state.specs.declared.next.Next.TheVariants.{On as On', TextRoom, OperandRoom as NoRoom, NoSpace}
use Rattle.zero_state.specs.Stepping.{stage_of, mem_of, scene_of, halt_of, Does}
use Rattle.zero_state.specs.Emptied.{emptied}
use Rattle.zero_state.proofs.Making.{done}
use Rattle.zero_state.proofs.Stacks.{taken_all}
use Rattle.zero_steps.specs.Reading.{PutsTaken}
use Rattle.zero_steps.specs.Replying.{IsAt, PutsIn, replied_by, Replies, Answers}
use Rattle.zero_steps.proofs.Accessing.{Keeps, gone_is, puts_on, put_done, put_full}
use Rattle.eu_base.specs.Room.{bytes_fit}

-- what is taken out of a reply that brings nothing is "", a number or niltask
abbrev read_empty : (name : RequestName) → (v : Value) × (read_as name replies.Done ≡ Ok (emptied v))
read_empty GetNumber = (item.Int (pos 0), refl)
read_empty GetText = (item.Text [], refl)
read_empty GetLine = (item.Text [], refl)
read_empty (names.Begin start) = (item.Task 0, refl)
read_empty _ = (item.Int (pos 0), refl)

-- and of the kind of what is taken out of any reply
read_kind : (name : RequestName) (r : Reply) (v : Value) → read_as name r ≡ Ok v → kind_of v ≡ kind_of (read_empty name).0
read_kind GetNumber r v e = kind_is kinds.Int v (read_gives GetNumber kinds.Int [] r refl refl v e)
read_kind GetText r v e = kind_is kinds.Text v (read_gives GetText kinds.Text [] r refl refl v e)
read_kind GetLine r v e = kind_is kinds.Text v (read_gives GetLine kinds.Text [] r refl refl v e)
read_kind (names.Begin start) r v e = kind_is kinds.Task v (read_gives (names.Begin start) kinds.Task [] r refl refl v e)
read_kind _ r v e = let f : item.Int (pos 0) ≡ v = cc e in ap kind_of (sym f)

-- no data spaces
no_heads : Heads
no_heads = record { live = []; last = 0; names = [] }

module _ (before after : Cells → Type 0) (heads : Heads) (name : RequestName) (r : Reply) (c : Position) (le : request_size name ≤ length c.ops)
    (none : request_result name ≡ None) (plain : is_message name ≡ false) where
  abbrev rest : List Operand
  rest = drop (request_size name) c.ops

  abbrev next : Control
  next = free (at c (c.pc + 1) rest)

  -- it takes the operands on top
  settled : (r : Reply) (mem : Mem) → takes_reply (Some (Ask name)) r c mem
      ≡ or_halt (read_as name r) (λ v. keeps c (behind_values name c.ops) v rest mem)
  settled r mem =
      taken_all (request_size name) c.ops _ le ∙ ap (λ o. settles name o r c (reverse (take (request_size name) c.ops)) rest mem) none
      ∙ ap (λ b. puts_reply b name r c (behind_values name c.ops) rest mem) plain

  -- where this is read
  takes : (r : Reply) (mem : Mem) (v : Value) → read_as name r ≡ Ok v
      → takes_reply (Some (Ask name)) r c mem ≡ keeps c (behind_values name c.ops) v rest mem
  takes r mem v read =
      settled r mem ∙ ap (λ g. or_halt g (λ v. keeps c (behind_values name c.ops) v rest mem)) read

  -- what cannot be read stops it
  pub reply_stops : (after_is : Keeps before after) (stop : Stop) (how : Next) → read_as name r ≡ Err stop
      → halt_of how ≡ Some (halts.Stopped stop) → Replies before after heads heads name r c (given c r) how
  reply_stops kept stop how read is = record {
    does = λ marks cells h.
        done after heads (halt_of how) (given c r) marks (replied_by name r marks c (mem_of heads cells)) cells (kept cells h)
        (ap (λ o. stage_of o (given c r) (scene_of (mem_of heads cells) marks)) is
        ∙ ap (λ m. move_stage m (given c r) (scene_of (mem_of heads cells) marks))
        (sym (settled r (mem_of heads cells) ∙ ap (λ g. or_halt g (λ v. keeps c (behind_values name c.ops) v rest (mem_of heads cells))) read)));
    leads = inr (refl, (halts.Stopped stop, is));
  }

  -- a request without a variable goes on
  reply_goes : Keeps before after → (v : Value) → read_as name r ≡ Ok v → behind_values name c.ops ≡ []
      → Replies before after heads heads name r c next On'
  reply_goes kept v read empty = record {
    does = λ marks cells h.
        done after heads (halt_of On') next marks (replied_by name r marks c (mem_of heads cells)) cells (kept cells h) (so r v read marks (mem_of heads cells));
    leads = inl (
      replies.Done,
      λ marks. (
        mem_of heads (λ _. held_of v),
        (
          mem_of heads (λ _. held_of v),
          so replies.Done (emptied (read_empty name).0) (read_empty name).1 marks
              (mem_of heads (λ _. held_of v)),
        ),
      ),
    );
  }
    where
      so : (r : Reply) (v : Value) → read_as name r ≡ Ok v → (marks : ℕ) (mem : Mem)
          → On next (scene_of mem marks) ≡ replied_by name r marks c mem
      so r v read marks mem =
          ap (λ m. move_stage m (given c r) (scene_of mem marks)) (sym (takes r mem v read ∙ ap (λ os. keeps c os v rest mem) empty))

  module _ (v : Value) (read : read_as name r ≡ Ok v) (a : Addr) (os : List Operand) (is : behind_values name c.ops ≡ At a ∷ os) where
    keeps_it : (r : Reply) (v : Value) → read_as name r ≡ Ok v → (mem : Mem)
        → takes_reply (Some (Ask name)) r c mem ≡ keeps c (At a ∷ os) v rest mem
    keeps_it r v read mem = takes r mem v read ∙ ap (λ os. keeps c os v rest mem) is

    -- its variable got the value
    reply_kept : lies_in (kind_of v ∷ []) a.area a.cell heads ≡ true → PutsTaken before after a (held_of v) Done → Replies before after heads heads name r c next On'
    reply_kept here put = record {
      does = λ marks cells h.
          subst (λ m. Does after heads (halt_of On') next marks (move_stage m (given c r) (scene_of (mem_of heads cells) marks)))
          (sym (keeps_it r v read (mem_of heads cells))) (put_done before after heads marks c (given c r) a v rest here put cells h);
      leads =
          let w = read_empty name in
          let seen : Mem = mem_of heads (λ _. held_of (emptied w.0)) in
          let here' : lies_in (kind_of w.0 ∷ []) a.area a.cell heads ≡ true =
          ap (λ k. lies_in (k ∷ []) a.area a.cell heads) (sym (read_kind name r v read)) ∙ here in
          inl (
            replies.Done,
            λ marks. (
              seen,
              (
                mem_of heads (written (λ _. held_of (emptied w.0)) a (held_of (emptied w.0))),
                ap (λ m. move_stage m (given c replies.Done) (scene_of seen marks))
                    (sym (keeps_it replies.Done (emptied w.0) w.1 seen ∙ puts_on w.0 c a heads rest here')),
              ),
            ),
          );
    }

    -- or it has no room
    reply_full : lies_in (kind_of v ∷ []) a.area a.cell heads ≡ true → PutsTaken before after a (held_of v) HeapFull → Replies before after heads heads name r c (given c r) TextRoom
    reply_full here put = record {
      does = λ marks cells h.
          subst (λ m. Does after heads (halt_of TextRoom) (given c r) marks (move_stage m (given c r) (scene_of (mem_of heads cells) marks)))
          (sym (keeps_it r v read (mem_of heads cells))) (put_full before after heads marks c (given c r) a v rest here put cells h);
      leads = inr (refl, (_, refl));
    }

  -- its variable is not there
  pub reply_gone : Keeps before after → (v : Value) → read_as name r ≡ Ok v → (a : Addr) → IsAt (behind_values name c.ops) (Some a)
      → lies_in (kind_of v ∷ []) a.area a.cell heads ≡ false → Replies before after heads heads name r c (given c r) NoSpace
  reply_gone kept v read a is gone = record {
    does = λ marks cells h.
        done after heads (halt_of NoSpace) (given c r) marks (replied_by name r marks c (mem_of heads cells)) cells (kept cells h)
        (ap (λ m. move_stage m (given c r) (scene_of (mem_of heads cells) marks))
        (gone_is (kind_of v ∷ []) a heads cells _ gone ∙ sym (keeps_it v read a is.0 is.1 r v read (mem_of heads cells))));
    leads = inr (refl, (_, refl));
  }

  -- its variable got the value, or it has none
  pub reply_done : (v : Value) → read_as name r ≡ Ok v → (o : Option Addr) (set : Set) → IsAt (behind_values name c.ops) o
      → MatchOption o (Unit {0}) (λ a. lies_in (kind_of v ∷ []) a.area a.cell heads ≡ true) → set ≡ Done → PutsIn before after o (held_of v) set → Replies before after heads heads name r c next On'
  reply_done v read None set is here so put = reply_goes put.1 v read is
  reply_done v read (Some a) set is here so put = reply_kept v read a is.0 is.1 here (subst (PutsTaken before after a (held_of v)) so put)

  -- or it has no room
  pub reply_unkept : (v : Value) → read_as name r ≡ Ok v → (o : Option Addr) (set : Set) → IsAt (behind_values name c.ops) o
      → MatchOption o (Unit {0}) (λ a. lies_in (kind_of v ∷ []) a.area a.cell heads ≡ true) → set ≡ HeapFull → PutsIn before after o (held_of v) set → Replies before after heads heads name r c (given c r) TextRoom
  reply_unkept v read None set is here so put = let f : Done ≡ HeapFull = sym put.0 ∙ so in absurd (cc f)
  reply_unkept v read (Some a) set is here so put = reply_full v read a is.0 is.1 here (subst (PutsTaken before after a (held_of v)) so put)

-- what a request delivers is of a kind
pub delivered : (o : Option Kind) → is_some o ≡ true → (k : Kind) × (o ≡ Some k)
delivered None e = absurd (cc e)
delivered (Some k) e = (k, refl)

-- a request that delivers a value
module _ (name : RequestName) (r : Reply) (c : Position) (le : request_size name ≤ length c.ops) (k : Kind) (is : request_result name ≡ Some k) where
  abbrev below : List Operand
  below = drop (request_size name) c.ops

  -- it takes the operands on top
  answers : (mem : Mem) → takes_reply (Some (Ask name)) r c mem ≡ or_halt (answer_of name r) (λ v. pushes c (Of v) below mem)
  answers mem =
      taken_all (request_size name) c.ops _ le ∙ ap (λ o. settles name o r c (reverse (take (request_size name) c.ops)) below mem) is

  gives_it : (v : Value) (t : Bool) → answer_of name r ≡ Ok v → bytes_fit (bytes_on (Of v ∷ below) (bytes_of c.frames)) ≡ t → (mem : Mem)
      → takes_reply (Some (Ask name)) r c mem ≡ cond t (goes c (Of v ∷ below) mem) (Halts OperandRoom)
  gives_it v t e room mem =
      answers mem ∙ ap (λ g. or_halt g (λ v. pushes c (Of v) below mem)) e
      ∙ ap (λ t. cond t (goes c (Of v ∷ below) mem) (Halts OperandRoom)) room

  -- it is pushed
  pub answer_pushed : (v : Value) → answer_of name r ≡ Ok v → bytes_fit (bytes_on (Of v ∷ below) (bytes_of c.frames)) ≡ true
      → Answers name r c (free (at c (c.pc + 1) (Of v ∷ below))) On'
  answer_pushed v e room = record { does = so; leads = inl (r, λ marks. (nothing, (nothing, so marks nothing))) }
    where
      nothing : Mem
      nothing = mem_of no_heads (λ _. Free)

      so : (marks : ℕ) (mem : Mem) → On (free (at c (c.pc + 1) (Of v ∷ below))) (scene_of mem marks) ≡ replied_by name r marks c mem
      so marks mem = ap (λ m. move_stage m (given c r) (scene_of mem marks)) (sym (gives_it v true e room mem))

  -- or stops
  stays : (how : Next) (stop : Stop) → halt_of how ≡ Some (halts.Stopped stop) → ((mem : Mem) → takes_reply (Some (Ask name)) r c mem ≡ Halts stop)
      → Answers name r c (given c r) how
  stays how stop is move = record {
    does = λ marks mem.
        ap (λ o. stage_of o (given c r) (scene_of mem marks)) is ∙ ap (λ m. move_stage m (given c r) (scene_of mem marks)) (sym (move mem));
    leads = inr (refl, (halts.Stopped stop, is));
  }

  pub answer_full : (v : Value) → answer_of name r ≡ Ok v → bytes_fit (bytes_on (Of v ∷ below) (bytes_of c.frames)) ≡ false
      → Answers name r c (given c r) NoRoom
  answer_full v e room = stays NoRoom OperandRoom refl (λ mem. gives_it v false e room mem)

  pub answer_stops : (stop : Stop) (how : Next) → answer_of name r ≡ Err stop → halt_of how ≡ Some (halts.Stopped stop)
      → Answers name r c (given c r) how
  answer_stops stop how e is =
      stays how stop is (λ mem. answers mem ∙ ap (λ g. or_halt g (λ v. pushes c (Of v) below mem)) e)

-- with the same data spaces
pub same_heads : (before after : Cells → Type 0) (had has : Heads) (name : RequestName) (r : Reply) (c : Position) (c' : Control) (next : Next) → has ≡ had
    → Replies before after had had name r c c' next → Replies before after had has name r c c' next
same_heads before after had has name r c c' next same h = subst (λ (heads : Heads). Replies before after had heads name r c c' next) (sym same) h

-- over any memory that holds still what it held
pub over_memory : (before after : Cells → Type 0) (heads : Heads) → Keeps before after → (name : RequestName) (r : Reply) (c : Position) (c' : Control) (next : Next)
    → Answers name r c c' next → Replies before after heads heads name r c c' next
over_memory before after heads kept name r c c' next a = record {
  does = λ marks cells h.
      done after heads (halt_of next) c' marks (replied_by name r marks c (mem_of heads cells)) cells (kept cells h) (a.does marks (mem_of heads cells));
  leads = a.leads;
}

-- what is behind the values among the operands on top
pub behind_is : (name : RequestName) (ops top : List Operand) (kinds : List Kind) (n : ℕ) → top ≡ reverse (take n ops) → n ≡ request_size name
    → kinds ≡ request_kinds name → behind_values name ops ≡ drop (length kinds) top
behind_is name ops top kinds n is size same =
    ap (λ k. drop (length k) (reverse (take (request_size name) ops))) (sym same)
    ∙ ap (λ n. drop (length kinds) (reverse (take n ops))) (sym size) ∙ ap (drop (length kinds)) (sym is)

-- where its first is a variable, it is that of a cell
pub first_cell : (os : List Operand) (o : Option Addr) → IsVariable os → IsAt os o → MatchOption o (Unit {0}) IsCell
first_cell os None is at = tt
first_cell os (Some a) is at = subst IsVariable at.1 is

-- the variable is there where there is one, or is not
abbrev TestedAt : Option Addr → Kind → Heads → Bool → Type 0
TestedAt o k heads b = MatchOption o (b ≡ true) (λ a. b ≡ lies_in (k ∷ []) a.area a.cell heads)

pub kept_there : (o : Option Addr) (k : Kind) (heads : Heads) (b : Bool) → TestedAt o k heads b → b ≡ true
    → MatchOption o (Unit {0}) (λ a. lies_in (k ∷ []) a.area a.cell heads ≡ true)
kept_there None k heads b h e = tt
kept_there (Some a) k heads b h e = sym h ∙ e

pub kept_gone : (o : Option Addr) (k : Kind) (heads : Heads) (b : Bool) → TestedAt o k heads b → b ≡ false
    → (a : Addr) × ((o ≡ Some a) × (lies_in (k ∷ []) a.area a.cell heads ≡ false))
kept_gone None k heads b h e = let f : true ≡ false = sym h ∙ e in absurd (cc f)
kept_gone (Some a) k heads b h e = (a, (refl, sym h ∙ e))

pub kept_area : (o : Option Addr) (k : Kind) (heads : Heads) (b : Bool) → TestedAt o k heads b → b ≡ true
    → MatchOption o (Unit {0}) (λ a. IsThere heads a.area)
kept_area None k heads b h e = tt
kept_area (Some a) k heads b h e = there_of (k ∷ []) a.area a.cell heads (sym h ∙ e)
