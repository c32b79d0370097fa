-- Whether a task can be coupled to a channel, and why not.
use Rattle.std.proofs.Common.{◌≡◌, ℕ, Bool, true, false, cond, not, ◌||◌, List, [], ◌∷◌, find, codes, Option, Some, None, is_none, refl, sym, ap, ◌∙◌, if◌then◌else◌}
use Rattle.std.specs.List.{list_any}
use Rattle.std.specs.Option.{is_some}
use Rattle.std.proofs.lemmas.Bool.{false≢true, and_parts, eqb-true}
use Rattle.task_numbers.specs.declared.number.TaskNo.{TaskNo}
use Rattle.task_numbers.specs.Numbers.{niltask, is_nil}
use Rattle.task_tree.specs.Tree.{has_number, lives}
use Rattle.terminals.specs.Channels.{Channel, channel, channel_of, coupled}
use Rattle.task_desk.specs.Below.units.specs.Library.{Library, none_live}
use Rattle.system_meaning.specs.Tasks.{Own}
use Rattle.system_meaning.specs.Systems as machine
use Rattle.system_meaning.specs.Supervisor.{coupling_refusal}
use Rattle.task_desk.specs.Desks.{Desk, Makes, system, moment}

pub is_none_not : {A : Type 0} (o : Option A) → is_none o ≡ not (is_some o)
is_none_not None = refl
is_none_not (Some x) = refl

nothing : {A : Type 0} (o : Option A) → is_none o ≡ true → o ≡ None
nothing None h = refl
nothing (Some x) h = absurd (false≢true h)

found_none : {A : Type 0} (p : A → Bool) (xs : List A) → is_none (find p xs) ≡ not (list_any p xs)
found_none p [] = refl
found_none p (x ∷ xs) = by (p x) (found_none p xs)
  where
    by : (b : Bool) → is_none (find p xs) ≡ not (list_any p xs) → is_none (cond b (Some x) (find p xs)) ≡ not (b || list_any p xs)
    by true e = refl
    by false e = e

pub can_couple_free : (c : ℕ) (t : TaskNo) (d : Desk) → machine.can_couple c t (system d none_live []) ≡ true → (channel c d.channels).task ≡ niltask
can_couple_free c t d can =
    let both = and_parts (is_nil (channel c d.channels).task) (is_none (channel_of t d.channels)) can in
    ap (λ (n : ℕ). let no : TaskNo = record { 0 = n } in no) (eqb-true (channel c d.channels).task.0 0 both.0)

pub can_couple_apart : (c : ℕ) (t : TaskNo) (d : Desk) → machine.can_couple c t (system d none_live []) ≡ true → channel_of t d.channels ≡ None
can_couple_apart c t d can =
    nothing (channel_of t d.channels) (and_parts (is_nil (channel c d.channels).task) (is_none (channel_of t d.channels)) can).1

pub couples : (c : ℕ) (t : TaskNo) (inside now : Desk) (channels : List Channel) → inside ≡ now → channels ≡ coupled c t inside.channels
    → ((library : Library) (owns : List Own) → machine.can_couple c t (system now library owns) ≡ true)
    → Makes (machine.on_system (machine.couple c t)) now (record inside { channels = channels })
couples c t inside now channels same set can = λ library owns.
    ap (λ (s : List Channel). moment (record inside { channels = s }) library owns) set
    ∙ ap (λ (d : Desk). moment (record d { channels = coupled c t d.channels }) library owns) same
    ∙ ap
    (λ (b : Bool). record { system = if b then machine.on_channels (coupled c t) (system now library owns) else system now library owns; display = now.display })
    (sym (can library owns))

pub stays_uncoupled : (c : ℕ) (t : TaskNo) (now : Desk) → ((library : Library) (owns : List Own) → machine.can_couple c t (system now library owns) ≡ false)
    → Makes (machine.on_system (machine.couple c t)) now now
stays_uncoupled c t now cannot = λ library owns.
    ap
    (λ (b : Bool). record { system = if b then machine.on_channels (coupled c t) (system now library owns) else system now library owns; display = now.display })
    (sym (cannot library owns))

-- by whether it lives, and whether it is coupled to none
abbrev pub refusal_where : Bool → Bool → Option (List ℕ)
refusal_where live free = if not live then Some (codes "Task gibt es nicht") else if free then None else Some (codes "Task ist schon gekoppelt")

pub refusal_is : (t : TaskNo) (d : Desk) (live free : Bool) → lives t d.tree ≡ live → is_none (channel_of t d.channels) ≡ free → (library : Library) (owns : List Own)
    → refusal_where live free ≡ coupling_refusal t (system d library owns)
refusal_is t d live free e f library owns =
    ap (λ (b : Bool). refusal_where live b) (sym f)
    ∙ ap (λ (b : Bool). refusal_where b (is_none (channel_of t d.channels))) (sym e)
    ∙ ap
    (λ (b : Bool). if b then Some (codes "Task gibt es nicht") else if is_none (channel_of t d.channels) then None else Some (codes "Task ist schon gekoppelt"))
    (sym (found_none (has_number t) d.tree.tasks))
