-- A text that is kept under a name is the last space of the task.
use Rattle.std.proofs.Common.{◌≡◌, ℕ, ◌+◌, ◌<◌, ◌≤◌, List, length, Option, None, Some, Result, Ok, Err, refl, sym, ap, ◌∙◌, subst, arith}
use Rattle.std.specs.Prelude.{OnOk}
use Rattle.std.proofs.lemmas.Int.{ints}
use Rattle.std.proofs.lemmas.List.{length-replicate}
use Rattle.eu_base.specs.declared.value.Kind.{Kind}
use Rattle.eu_base.specs.declared.value.Kind.TheVariants as kinds
use Rattle.eu_base.specs.Shapes.{cell_kinds}
use Rattle.eu_base.specs.DataSpaces.{Heads, last_number}
use Rattle.eu_base.specs.DataSpaces as data_spaces
use Rattle.eu_base.specs.SoundSpaces.{IsSpace}
use Rattle.task_texts.specs.Below.task_numbers.specs.declared.number.SpaceNo.{SpaceNo}
use Rattle.page_pool.specs.Pool.{Pages}
use Rattle.task_texts.specs.Below.data_space.specs.Data.{SpaceData}
use Rattle.task_texts.specs.Below.source_texts.specs.Sources.{most_lines, source_shape, source_space}
use Rattle.task_texts.specs.Below.source_texts.proofs.Shapes.{kinds_source}
use Rattle.task_texts.specs.Below.task_job.specs.Here.{here, HoldsSpace, KeepsBytes}
use Rattle.task_texts.specs.Below.space_names.specs.Directory as directory
use Rattle.task_texts.specs.Below.space_memory.specs.Memories.{MemoryData, roots, with_new}
use Rattle.named_texts.specs.Texts as texts
use Rattle.named_texts.specs.Texts.{KeepsText}
use Rattle.task_texts.specs.Below.system_meaning.specs.Stores as stores
use Rattle.task_texts.specs.Below.system_meaning.specs.Stores.{Store, with_named}
use Rattle.task_texts.specs.Below.system_meaning.specs.Tasks.{Own, Idle, Entering, with_doing}
use Rattle.task_texts.specs.Below.task_job.specs.Standing.{Keeps}
use Rattle.live_task.specs.Stands.{DoesAs, StandsFor, IsSoundDoing, IsSound}
use Rattle.live_task.specs.declared.task.Task.{Task}
use Rattle.live_task.specs.declared.task.Doing.{Doing as Does}
use Rattle.live_task.specs.declared.task.Doing.TheVariants as does
use Rattle.live_task.proofs.Carried.{keeps_carried}
use Rattle.task_texts.proofs.Coming.{forgets, comes, gets_name}

-- a source text is a space, and has 401 cells
source_long : length (cell_kinds source_shape) ≡ 401
source_long =
    let e = ap length kinds_source in
    omega (arith, e, length-replicate most_lines kinds.Text)

source_sound : (pages : Pages) (d : SpaceData) (lines : List (List ℕ)) → HoldsSpace pages d (source_space lines) → IsSpace (source_space lines)
source_sound pages d lines h = record { kind = grind (arith, ints); values = h.typed }

-- the space under a name goes on both sides
gone : (kinds : List Kind) (old new : Pages) (m : MemoryData) (store : Store) (o : Option SpaceNo) → KeepsBytes old new (roots (texts.without_named o m))
    → Keeps kinds old m store → Keeps kinds new (texts.without_named o m) (record store { spaces = stores.without_named o store.spaces })
gone kinds old new m store None k h = keeps_carried old new m k kinds store h
gone kinds old new m store (Some s) k h = forgets kinds old new m store s k h

last_same : (m : MemoryData) (o : Option SpaceNo) → (texts.without_named o m).last ≡ m.last
last_same m None = refl
last_same m (Some s) = refl

-- and a space comes last under the name
named_last : (kinds : List Kind) (pages : Pages) (m : MemoryData) (store : Store) (d : SpaceData) (name : List ℕ) (lines : List (List ℕ))
    → HoldsSpace pages d (source_space lines) → m.last < last_number → Keeps kinds pages m store
    → Keeps kinds pages (texts.named_last name (with_new d m)) (record store { spaces = stores.named_last name (source_space lines) store.spaces })
named_last kinds pages m store d name lines own left h =
    let space = source_space lines in
    let last : m.last ≡ store.spaces.last = ap (λ (u : Heads). u.last) h.spaces.heads in
    gets_name kinds pages (with_new d m) (record store { spaces = data_spaces.with_new space store.spaces }) name (record { 0 = m.last + 1 })
    (data_spaces.next_number store.spaces) (ap (λ (n : ℕ). record { 0 = n + 1 }) last) (omega (arith, left, last))
    (comes kinds pages m store d space own (source_sound pages d lines own) (omega (arith, source_long)) left h)

module _ (old new : Pages) (was now : MemoryData) (name : List ℕ) (lines : List (List ℕ)) (k : KeepsText (here old) (here new) was now name lines) (store : Store)
    (left : was.last < last_number) (kinds : List Kind) (h : Keeps kinds old was store) where
  abbrev under : Option SpaceNo
  under = directory.get name was.names

  abbrev less : Store
  less = record store { spaces = stores.without_named under store.spaces }

  there : Keeps kinds new (texts.with_named name k.space was) (record less { spaces = stores.named_last name (source_space lines) less.spaces })
  there =
      named_last kinds new (texts.without_named under was) less k.space name lines (k.holds h.holds.knows) (omega (arith, left, last_same was under))
      (gone kinds old new was store under k.keeps h)

  pub text_keeps : Keeps kinds new now (with_named name (source_space lines) store)
  text_keeps =
      let names : was.names ≡ store.spaces.names = ap (λ (u : Heads). u.names) h.spaces.heads in
      subst (λ (m : MemoryData). Keeps kinds new m (with_named name (source_space lines) store)) (sym k.memory)
      (subst (λ (o : Option SpaceNo). Keeps kinds new (texts.with_named name k.space was)
      (record store { spaces = stores.named_last name (source_space lines) (stores.without_named o store.spaces) })) (ap (directory.get name) names) there)

-- what follows for a task that entered the text
module _ (p0 p1 : Pages) (was taken : Task) (now : MemoryData) (n name' : List ℕ) (ls lines' : List (List ℕ)) (idle : taken ≡ record was { doing = does.Idle })
    (entered : was.doing ≡ does.Entering n ls) (named : name' ≡ n) (lined : lines' ≡ ls) (sound : IsSound was) where
  same_text : (name : List ℕ) (lines : List (List ℕ)) → was.doing ≡ does.Entering name lines → (n ≡ name) × (ls ≡ lines)
  same_text name lines is =
      let e : does.Entering n ls ≡ does.Entering name lines = sym entered ∙ is in
      (cc, cc)

  number_left : was.memory.last < last_number
  number_left =
      let there : IsSoundDoing was.memory (does.Entering n ls) = subst (λ (d : Does). IsSoundDoing was.memory d) entered sound in
      there.number

  pub closes : KeepsText (here p0) (here p1) taken.memory now name' lines' → (kinds : List Kind) (own : Own) (name : List ℕ) (lines : List (List ℕ)) (store : Store)
      → own.doing ≡ Entering name lines store → StandsFor kinds p0 was own
      → StandsFor kinds p1 (record taken { memory = now }) (with_doing (Idle (with_named name (source_space lines) store)) own)
  closes k kinds own name lines store is h =
      let d : DoesAs kinds p0 was (Entering name lines store) = subst (λ d. DoesAs kinds p0 was d) is h.does in
      let same = same_text name lines d.0 in
      let there : KeepsText (here p0) (here p1) was.memory now name lines =
      subst (λ (m : MemoryData). KeepsText (here p0) (here p1) m now name lines) (ap (λ (t : Task). t.memory) idle)
      (subst (λ ns. KeepsText (here p0) (here p1) taken.memory now ns lines) (named ∙ same.0)
      (subst (λ ns. KeepsText (here p0) (here p1) taken.memory now name' ns) (lined ∙ same.1) k)) in
      record {
        packets = ap (λ (t : Task). t.packets) idle ∙ h.packets;
        does = (ap (λ (t : Task). t.doing) idle, text_keeps p0 p1 was.memory now name lines there store number_left kinds d.1);
      }
