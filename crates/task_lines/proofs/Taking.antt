-- A line that a task takes, by what the task does.
use Rattle.std.proofs.Common.{◌≡◌, ℕ, Bool, List, Option, Some, None, refl, sym, ap, subst}
use Rattle.std.specs.Prelude.{Result, Ok, Err}
use Rattle.task_numbers.specs.declared.number.TaskNo.{TaskNo}
use Rattle.task_lines.specs.Below.elan_scope.specs.declared.env.Env.{Env}
use Rattle.elan_tree.specs.declared.token.Token.{Token}
use Rattle.elan_tree.specs.declared.token.Word.{Word}
use Rattle.elan_lexer.specs.declared.error.LexError.{LexError}
use Rattle.monitor.specs.Words.{words}
use Rattle.monitor.specs.Forms.{form_of}
use Rattle.monitor.specs.declared.commands.Form.{Form}
use Rattle.monitor.specs.declared.commands.Form.TheVariants.{Program}
use Rattle.task_lines.specs.Below.system_meaning.specs.Stores.{Store}
use Rattle.task_lines.specs.Below.system_meaning.specs.Tasks.{Doing, Idle, Entering, Running}
use Rattle.task_lines.specs.Below.system_meaning.specs.Systems.{Moment, doing, kept, kept_by}
use Rattle.task_lines.specs.Below.system_meaning.specs.Monitor.{Reading, words_in, words_of, formed, worded, is_last, entered_line, taken_by}
use Rattle.live_system.specs.declared.what.What.TheVariants as whats
use Rattle.live_system.specs.What.{what_of}
use Rattle.live_system.specs.Machines.{Machine, StandsAt}
use Rattle.task_lines.specs.Forms.{form_in}

-- an idle task keeps what it has
pub kept_idle : (t : TaskNo) (m : Moment) (store : Store) → doing t m.system ≡ Some (Idle store) → kept t m.system ≡ store
kept_idle t m store e = ap kept_by e

-- the form of a line with tokens, or without
pub form_tokens : (x : Result (List Token) LexError) (ts : List Token) → x ≡ Ok ts → form_in (words_in x) ≡ form_of (words ts)
form_tokens x ts e = ap (λ (x : Result (List Token) LexError). form_in (words_in x)) e

pub form_none : (x : Result (List Token) LexError) (e : LexError) → x ≡ Err e → form_in (words_in x) ≡ Program
form_none x e is = ap (λ (x : Result (List Token) LexError). form_in (words_in x)) is

module _ (read : Env → Bool → List ℕ → Reading) (t : TaskNo) (line : List ℕ) (m : Moment) where
  pub by_form : (o : Option (List Word)) → formed read (form_in o) t line m ≡ worded read o t line m
  by_form None = refl
  by_form (Some ws) = refl

  -- a line of a form, however the form is told
  pub formed_so : (new : Machine) (f g : Form) → f ≡ g → StandsAt new (formed read g t line m) → StandsAt new (formed read f t line m)
  formed_so new f g e h = subst (λ (f : Form). StandsAt new (formed read f t line m)) (sym e) h

  pub worded_so : (new : Machine) (f : Form) (o : Option (List Word)) → f ≡ form_in o → StandsAt new (formed read f t line m) →
      StandsAt new (worded read o t line m)
  worded_so new f o e h =
      subst (λ (m : Moment). StandsAt new m) (by_form o) (subst (λ (f : Form). StandsAt new (formed read f t line m)) e h)

  -- ---- what a task does, told apart

  pub takes_idle : (new : Machine) (d : Option Doing) → whats.Idle ≡ what_of d →
      ((store : Store) → d ≡ Some (Idle store) → StandsAt new (worded read (words_of line) t line m)) → StandsAt new (taken_by read d t line m)
  takes_idle new None e f = absurd (cc e)
  takes_idle new (Some (Idle store)) e f = f store refl
  takes_idle new (Some (Entering name lines store)) e f = absurd (cc e)
  takes_idle new (Some (Running c)) e f = absurd (cc e)

  pub takes_entering : (new : Machine) (d : Option Doing) → whats.Entering ≡ what_of d →
      ((name : List ℕ) (lines : List (List ℕ)) (store : Store) → d ≡ Some (Entering name lines store) →
      StandsAt new (entered_line (is_last line) t name lines store line m)) → StandsAt new (taken_by read d t line m)
  takes_entering new None e f = absurd (cc e)
  takes_entering new (Some (Idle store)) e f = absurd (cc e)
  takes_entering new (Some (Entering name lines store)) e f = f name lines store refl
  takes_entering new (Some (Running c)) e f = absurd (cc e)

  pub takes_gone : (new : Machine) (d : Option Doing) → whats.Gone ≡ what_of d → StandsAt new m → StandsAt new (taken_by read d t line m)
  takes_gone new None e h = h
  takes_gone new (Some (Idle store)) e h = absurd (cc e)
  takes_gone new (Some (Entering name lines store)) e h = absurd (cc e)
  takes_gone new (Some (Running c)) e h = absurd (cc e)

  pub takes_running : (new : Machine) (d : Option Doing) → whats.Running ≡ what_of d → StandsAt new m → StandsAt new (taken_by read d t line m)
  takes_running new None e h = absurd (cc e)
  takes_running new (Some (Idle store)) e h = absurd (cc e)
  takes_running new (Some (Entering name lines store)) e h = absurd (cc e)
  takes_running new (Some (Running c)) e h = h
