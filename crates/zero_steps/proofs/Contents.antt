-- What is read out of a cell, and put into one.
use Rattle.std.proofs.Common.{◌≡◌, ℕ, ◌≤◌, List, ◌++◌, Bool, refl, sym, ap, ◌∙◌, arith, ℤ, ◌⊎◌, inl, inr, subst}
use Rattle.std.specs.Prelude.{Result, Ok, Err, IfOk, Option}
use Rattle.eu_base.specs.declared.address.Addr.{Addr}
use Rattle.eu_base.specs.declared.set.Set.{Set}
use Rattle.eu_base.specs.declared.set.Set.TheVariants.{Done, HeapFull}
use Rattle.eu_base.specs.declared.value.Kind.TheVariants as kinds
use Rattle.eu_base.specs.declared.value.Value.{Value}
use Rattle.eu_base.specs.declared.value.Value.TheVariants as item
use Rattle.eu_base.specs.declared.operation.Change.{Change}
use Rattle.eu_base.specs.declared.operation.Change.TheVariants.{Append}
use Rattle.eu_base.specs.Values.{SpaceNo, text_of, cell_of, number_in, truth_in, task_in, space_in}
use Rattle.eu_base.specs.Operations.{change_kind, changed, fitting}
use Rattle.eu_base.specs.Room.{most_blocks}
use Rattle.eu_base.specs.Cells.{Cell, Free, Word, Letters, Cells, held_of, written, cell_blocks, area_blocks, HasText, Puts}
use Rattle.code_form.specs.Machine.{Move, Unknown, on_word}
use Rattle.zero_state.proofs.Blocks.{blocks_without, has_room, has_none, has_text, number_bare}
use Rattle.zero_ops.specs.declared.error.Fault.{Fault}
use Rattle.zero_ops.specs.Given.{stop_of}
use Rattle.zero_steps.specs.Reading.{IsRead, Reads, PutsTaken, Changes}
use Rattle.zero_steps.proofs.Accessing.{Answers}

-- what the number in a cell stands for
word_known : (of : ℕ → Value) (x : Cell) (n : ℕ) (v : Value) → v ≡ of n → ((m : ℕ) → x ≡ Word m → n ≡ m) → (go : Value → Move)
    → (on_word x (λ n. go (of n)) ≡ go v) ⊎ (on_word x (λ n. go (of n)) ≡ Unknown)
word_known of Free n v is same go = inr refl
word_known of (Word m) n v is same go = inl (ap go (sym (is ∙ ap of (same m refl))))
word_known of (Letters t) n v is same go = inr refl

pub int_read : (before : Cells → Type 0) (a : Addr) (n : ℕ) (z : ℤ) → z ≡ number_in n → Answers before a n → Reads before a kinds.Int (item.Int z)
int_read before a n z is answers = record {
  known = λ cells h. word_known (λ n. item.Int (number_in n)) (cells a) n (item.Int z) (ap item.Int is) (λ m e. answers cells m h e);
  seen = Word n;
  is = λ go. ap (λ z. go (item.Int z)) (sym is);
}

pub truth_read : (before : Cells → Type 0) (a : Addr) (n : ℕ) (b : Bool) → b ≡ truth_in n → Answers before a n → Reads before a kinds.Truth (item.Truth b)
truth_read before a n b is answers = record {
  known = λ cells h. word_known (λ n. item.Truth (truth_in n)) (cells a) n (item.Truth b) (ap item.Truth is) (λ m e. answers cells m h e);
  seen = Word n;
  is = λ go. ap (λ b. go (item.Truth b)) (sym is);
}

pub task_read : (before : Cells → Type 0) (a : Addr) (n t : ℕ) → t ≡ task_in n → Answers before a n → Reads before a kinds.Task (item.Task t)
task_read before a n t is answers = record {
  known = λ cells h. word_known (λ n. item.Task (task_in n)) (cells a) n (item.Task t) (ap item.Task is) (λ m e. answers cells m h e);
  seen = Word n;
  is = λ go. ap (λ t. go (item.Task t)) (sym is);
}

pub space_read : (before : Cells → Type 0) (a : Addr) (n : ℕ) (t : Option SpaceNo) → t ≡ space_in n → Answers before a n → Reads before a kinds.Space (item.Space t)
space_read before a n t is answers = record {
  known = λ cells h. word_known (λ n. item.Space (space_in n)) (cells a) n (item.Space t) (ap item.Space is) (λ m e. answers cells m h e);
  seen = Word n;
  is = λ go. ap (λ t. go (item.Space t)) (sym is);
}

text_known : (x : Cell) (t : List ℕ) → ((u : List ℕ) → x ≡ Letters u → t ≡ u) → IsRead kinds.Text x (item.Text t)
text_known Free t same go = inr refl
text_known (Word m) t same go = inr refl
text_known (Letters u) t same go = inl (ap (λ t. go (item.Text t)) (sym (same u refl)))

pub text_read : (before : Cells → Type 0) (a : Addr) (t : List ℕ) → ((cells : Cells) (u : List ℕ) → before cells → cells a ≡ Letters u → t ≡ u)
    → Reads before a kinds.Text (item.Text t)
text_read before a t answers = record {
  known = λ cells h. text_known (cells a) t (λ u e. answers cells u h e);
  seen = Letters t;
  is = λ go. refl;
}

text_put : (before after : Cells → Type 0) (a : Addr) (t : List ℕ) (set : Set)
    → ((cells : Cells) → before cells → HasText (cells a) → Puts after cells a t set)
    → ((cells : Cells) → after cells → area_blocks a.area cells ≤ most_blocks) → PutsTaken before after a (Letters t) set
text_put before after a t Done put room cells h e =
    let done = put cells h (has_text (cells a) e) in
    (has_room (cell_blocks (Letters t)) (area_blocks a.area (written cells a (Letters t))) done.0, done.1)
text_put before after a t HeapFull put room cells h e =
    let full = put cells h (has_text (cells a) e) in (
      has_none (cell_blocks (Letters t)) (area_blocks a.area (written cells a (Letters t))) full.0
          (λ none. let le = blocks_without a.area cells a (Letters t) none in let few = room cells full.1 in omega (arith, le, few)),
      full.1,
    )

-- the same of what may want memory
pub text_puts : {E : Type 0} (result : Result Set E) (before after : Cells → Type 0) (a : Addr) (v : Value) (t shown : List ℕ) → v ≡ item.Text t → shown ≡ t
    → IfOk result (λ set. (cells : Cells) → before cells → HasText (cells a) → Puts after cells a shown set)
    → ((cells : Cells) → after cells → area_blocks a.area cells ≤ most_blocks) → IfOk result (PutsTaken before after a (held_of v))
text_puts (Ok set) before after a v t shown is same put room =
    subst (λ v. PutsTaken before after a (held_of v) set) (ap item.Text same ∙ sym is) (text_put before after a shown set put room)
text_puts (Err e) before after a v t shown is same put room = tt

-- INCR and DECR put a number in the place of the one that was read, or stop
module _ (before between after : Cells → Type 0) (a : Addr) (by : Change) (operand : Value) (n : ℕ) (z : ℤ) (number : change_kind by ≡ kinds.Int)
    (z_is : z ≡ number_in n) (answers : Answers before a n) (kept : (cells : Cells) → before cells → between cells) where
  number_read : Reads before a (change_kind by) (item.Int z)
  number_read = subst (λ k. Reads before a k (item.Int z)) (sym number) (int_read before a n z z_is answers)

  pub number_changed : (new : ℤ) (held : ℕ) → changed by (item.Int z) operand ≡ Ok (item.Int new) → held ≡ cell_of (item.Int new)
      → ((cells : Cells) → between cells → cell_blocks (cells a) ≡ 0 → after (written cells a (Word held))) → Changes before after a by operand (Ok Done)
  number_changed new held gives is put = record {
    old = item.Int z;
    reads = number_read;
    to = (
      item.Int new,
      (gives, λ cells h e. (refl, subst (λ n. after (written cells a (Word n))) is (put cells (kept cells h) (number_bare (cells a) e)))),
    );
  }

  pub number_stops : (fault : Fault) → changed by (item.Int z) operand ≡ Err (stop_of fault) → Changes before between a by operand (Err fault)
  number_stops fault stops = record { old = item.Int z; reads = number_read; to = (stops, kept) }

-- CAT puts what it gives in the place of what was read, or stops
module _ (before between after : Cells → Type 0) (a : Addr) (operand : Value) (text more : List ℕ)
    (answers : (cells : Cells) (u : List ℕ) → before cells → cells a ≡ Letters u → text ≡ u) (kept : (cells : Cells) → before cells → between cells)
    (is : more ≡ text_of operand) where
  pub appended : (new shown : List ℕ) (set : Set) → fitting (text ++ more) ≡ Ok (item.Text new) → shown ≡ new
      → ((cells : Cells) → between cells → HasText (cells a) → Puts after cells a shown set)
      → ((cells : Cells) → after cells → area_blocks a.area cells ≤ most_blocks) → Changes before after a Append operand (Ok set)
  appended new shown set gives same put room = record {
    old = item.Text text;
    reads = text_read before a text answers;
    to = (
      item.Text shown,
      (
        ap (λ t. fitting (text ++ t)) (sym is) ∙ gives ∙ ap (λ t. Ok (item.Text t)) (sym same),
        (λ cells h e. text_put between after a shown set put room cells (kept cells h) e),
      ),
    );
  }

  pub not_appended : (fault : Fault) → fitting (text ++ more) ≡ Err (stop_of fault) → Changes before between a Append operand (Err fault)
  not_appended fault stops = record {
    old = item.Text text;
    reads = text_read before a text answers;
    to = (ap (λ t. fitting (text ++ t)) (sym is) ∙ stops, kept);
  }
