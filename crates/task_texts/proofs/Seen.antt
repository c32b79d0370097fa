-- What is seen of a task that stands for one of the source machine.
use Rattle.std.proofs.Common.{◌≡◌, ℕ, zero, suc, ◌≤◌, Bool, true, false, cond, not, nat_eq, nat_le, List, [], ◌∷◌, length, map, Result, Ok, Err, Option, None, Some, refl, sym, ap, ◌∙◌, subst, arith}
use Rattle.std.specs.Prelude.{◌&&◌, is_none, is_some, option_and_then, option_map, slice_get, IfOk}
use Rattle.std.specs.Map.{lookup}
use Rattle.std.specs.Option.{unwrap_or}
use Rattle.std.proofs.lemmas.Bool.{le-leb}
use Rattle.std.proofs.lemmas.List.{length-map}
use Rattle.std.proofs.lemmas.Option.{same_Some, slice_get-map}
use Rattle.eu_base.specs.declared.address.Area.TheVariants.{Run}
use Rattle.eu_base.specs.declared.address.Area.TheVariants as areas
use Rattle.eu_base.specs.declared.address.TheConstants.{CELLS}
use Rattle.eu_base.specs.declared.value.Kind.{Kind}
use Rattle.eu_base.specs.declared.value.Value.{Value}
use Rattle.eu_base.specs.declared.request.Request.{Request}
use Rattle.eu_base.specs.declared.stop.Stop.{Stop}
use Rattle.eu_base.specs.declared.stop.Stop.TheVariants.{BadName, ManySpaces, SpaceNumbers}
use Rattle.eu_base.specs.Cells.{Cells, run_cell, space_cell}
use Rattle.eu_base.specs.DataSpaces.{Space, Spaces, Head, Heads, head_of, heads_of, no_space, living, the_space}
use Rattle.eu_base.specs.SpacePlaces.{kinds_of}
use Rattle.eu_base.specs.SoundSpaces.{IsSpace}
use Rattle.eu_base.proofs.Heads.{lookup_head, long_heads}
use Rattle.eu_base.proofs.SoundSpaces.{space_sound}
use Rattle.task_texts.specs.Below.task_numbers.specs.declared.number.SpaceNo.{SpaceNo}
use Rattle.page_pool.specs.Pool.{Pages}
use Rattle.task_texts.specs.Below.text_heap.specs.Held.{HoldsCells}
use Rattle.task_texts.specs.Below.text_heap.proofs.Kept.{moved_held}
use Rattle.task_texts.specs.Below.data_space.specs.Data.{SpaceData}
use Rattle.task_texts.specs.Below.source_texts.specs.Spaces.{held, cells_of}
use Rattle.task_texts.specs.Below.space_memory.specs.Live as live_spaces
use Rattle.task_texts.specs.Below.space_memory.specs.Live.{space_at}
use Rattle.task_texts.specs.Below.space_names.specs.Directory as directory
use Rattle.task_texts.specs.Below.space_memory.specs.Memories.{MemoryData, memory_heads}
use Rattle.task_texts.specs.Below.task_job.specs.Here.{content_at, HoldsSpace, HoldsAll}
use Rattle.task_texts.specs.Below.space_memory.specs.Memories as memories
use Rattle.elan_types.specs.Eval.{Holds}
use Rattle.task_texts.specs.Below.place_gen.specs.Correct.{HasVariables}
use Rattle.task_texts.specs.Below.place_gen.proofs.Cells.{fit_at}
use Rattle.named_texts.specs.Texts.{under}
use Rattle.named_texts.specs.Sources.{source_in}
use Rattle.named_texts.specs.declared.look.Source.{Source}
use Rattle.named_texts.specs.declared.look.Source.TheVariants.{NoSpace}
use Rattle.task_texts.specs.Below.system_meaning.specs.Stores.{Store, is_name, most_live, last_number, space_under, entering_refusal}
use Rattle.task_texts.specs.Below.system_meaning.specs.Supervisor.{state_of, running_state}
use Rattle.task_texts.specs.Below.system_meaning.specs.Tasks.{Doing, Idle, Entering, Running, Own, now, request_of}
use Rattle.task_texts.specs.Below.system_meaning.specs.Monitor.{directory_of}
use Rattle.task_texts.specs.Below.task_job.specs.Standing.{KeepsSpaces}
use Rattle.task_texts.specs.Below.task_job.specs.declared.job.Job.{Job}
use Rattle.task_texts.specs.Below.task_job.proofs.Standing.{left_now}
use Rattle.live_task.specs.Stands.{DoesAs, StandsFor}
use Rattle.live_task.specs.declared.task.Task.{Task}
use Rattle.live_task.specs.declared.task.Doing.TheVariants as does
use Rattle.task_texts.specs.Doings.{is_idle, is_entering, rests, enters}

-- ---- spaces that stand for others

-- what is known of a memory that has these data spaces
pub record Known (pages : Pages) (memory : MemoryData) (all : Spaces) : Type 0 where
  pub cells : Cells
  pub holds : HoldsAll pages memory cells
  pub has : KeepsSpaces memory all cells

-- under each number stands the same, or nothing on both sides
pub data SameAt (pages : Pages) : Option SpaceData → Option Space → Type 0 where
  nothing : SameAt pages None None
  there : {paged : SpaceData} {space : Space} → HoldsSpace pages paged space → SameAt pages (Some paged) (Some space)

past_end : {A : Type 0} (xs : List A) (x : ℕ) → slice_get xs x ≡ None → length xs ≤ x
past_end [] x e = omega arith
past_end (a ∷ xs) zero e = let f : ⊥ = cc in absurd f
past_end (a ∷ xs) (suc x) e = let rest = past_end xs x e in omega (arith, rest)

module _ (pages : Pages) (memory : MemoryData) (all : Spaces) (h : Known pages memory all) where
  pub as_many : length memory.spaces ≡ length all.live
  as_many =
      let e : length (memory_heads memory).live ≡ length (heads_of all).live = ap (λ (u : Heads). length u.live) h.has.heads in
      omega (arith, e, long_heads memories.head_of memory.spaces, long_heads head_of all.live)

  -- a space of the memory, and the one that it stands for
  module _ (s : SpaceNo) (paged : SpaceData) (space : Space) (at : space_at s.0 memory.spaces ≡ Some paged) (lives : living s all ≡ Some space) where
    head_same : memories.head_of paged ≡ head_of space
    head_same =
        let e : Some (memories.head_of paged) ≡ Some (head_of space) =
        ap (option_map memories.head_of) (sym at) ∙ sym (lookup_head memories.head_of (nat_eq s.0) memory.spaces)
        ∙ ap (λ (u : Heads). lookup (nat_eq s.0) u.live) h.has.heads ∙ lookup_head head_of (nat_eq s.0) all.live ∙ ap (option_map head_of) lives in
        same_Some (memories.head_of paged) (head_of space) e

    is_it : the_space s all ≡ space
    is_it = ap (λ (o : Option Space). unwrap_or o no_space) lives

    stands : HasVariables (areas.Space s) (kinds_of s (heads_of all)) (map Holds space.values) h.cells
    stands = subst (λ (x : Space). HasVariables (areas.Space s) (kinds_of s (heads_of all)) (map Holds x.values) h.cells) is_it (h.has.each s)

    cell_is : (x : ℕ) → cells_of space.values (run_cell x) ≡ h.cells (space_cell s x)
    cell_is x = by (slice_get space.values x) refl
      where
        many : length space.values ≡ length (kinds_of s (heads_of all))
        many = sym (length-map space.values Holds) ∙ stands.as_many

        by : (o : Option Value) → slice_get space.values x ≡ o → held (slice_get space.values x) ≡ h.cells (space_cell s x)
        by None e = ap held e ∙ sym (stands.beyond x (let past = past_end space.values x e in omega (arith, past, many)))
        by (Some v) e =
            ap held e
            ∙ sym (stands.image
            (le-leb (length (map Holds space.values)) CELLS (omega (arith, stands.as_many, fit_at s (heads_of all) h.has.given))) x (Holds v)
            (slice_get-map Holds space.values x ∙ ap (option_map Holds) e))

    bytes : HoldsCells Run (content_at pages paged.root) (cells_of space.values)
    bytes =
        let live : memories.is_there (areas.Space s) memory ≡ true = ap (λ (o : Option SpaceData). is_some o) at in
        moved_held (areas.Space s) Run (content_at pages paged.root) h.cells (cells_of space.values) cell_is
        (subst (λ (o : Option SpaceData). HoldsCells (areas.Space s) (content_at pages (unwrap_or o live_spaces.no_space).root) h.cells) at
        (h.holds.there (areas.Space s) live))

    one_held : HoldsSpace pages paged space
    one_held = record {
      knows = h.holds.knows;
      kind = ap (λ (x : Head). x.kind) head_same;
      shape = ap (λ (x : Head). x.shape) head_same;
      typed = (subst (λ (x : Space). IsSpace x) is_it (space_sound s all h.has.sound)).values;
      holds = bytes;
    }

  pub same_at : (s : SpaceNo) → SameAt pages (space_at s.0 memory.spaces) (living s all)
  same_at s = by (space_at s.0 memory.spaces) (living s all) refl refl
    where
      heads_at : option_map memories.head_of (space_at s.0 memory.spaces) ≡ option_map head_of (living s all)
      heads_at =
          sym (lookup_head memories.head_of (nat_eq s.0) memory.spaces) ∙ ap (λ (u : Heads). lookup (nat_eq s.0) u.live) h.has.heads
          ∙ lookup_head head_of (nat_eq s.0) all.live

      by : (o : Option SpaceData) (p : Option Space) → space_at s.0 memory.spaces ≡ o → living s all ≡ p → SameAt pages o p
      by None None e f = nothing
      by None (Some space) e f =
          let g : None ≡ Some (head_of space) = ap (option_map memories.head_of) (sym e) ∙ heads_at ∙ ap (option_map head_of) f in
          let no : ⊥ = cc in absurd no
      by (Some paged) None e f =
          let g : Some (memories.head_of paged) ≡ None = ap (option_map memories.head_of) (sym e) ∙ heads_at ∙ ap (option_map head_of) f in
          let no : ⊥ = cc in absurd no
      by (Some paged) (Some space) e f = there (one_held s paged space e f)

-- ---- the spaces of a task

module _ (kinds : List Kind) (pages : Pages) (task : Task) (own : Own) (h : StandsFor kinds pages task own) where
  -- a task that runs has those that its command left where it stands
  pub spaces_now : Known pages task.memory (now own.doing).spaces
  spaces_now = by own.doing h.does
    where
      by : (d : Doing) → DoesAs kinds pages task d → Known pages task.memory (now d).spaces
      by (Idle store) k = record { cells = k.1.cells; holds = k.1.holds; has = k.1.spaces }
      by (Entering name lines store) k = record { cells = k.1.cells; holds = k.1.holds; has = k.1.spaces }
      by (Running c) k =
          let left = left_now kinds pages task.memory k.0 c k.2 in
          record { cells = left.cells; holds = left.holds; has = left.spaces }

  -- without their values
  pub heads_now : memory_heads task.memory ≡ heads_of (now own.doing).spaces
  heads_now = spaces_now.has.heads

  pub many_spaces : length task.memory.spaces ≡ length (now own.doing).spaces.live
  many_spaces = as_many pages task.memory (now own.doing).spaces spaces_now

  pub idle_there : is_idle own.doing ≡ rests task.doing
  idle_there = by own.doing h.does
    where
      by : (d : Doing) → DoesAs kinds pages task d → is_idle d ≡ rests task.doing
      by (Idle store) k = sym (ap rests k.0)
      by (Entering name lines store) k = sym (ap rests k.0)
      by (Running c) k = sym (ap rests k.1)

  pub entering_there : is_entering own.doing ≡ enters task.doing
  entering_there = by own.doing h.does
    where
      by : (d : Doing) → DoesAs kinds pages task d → is_entering d ≡ enters task.doing
      by (Idle store) k = sym (ap enters k.0)
      by (Entering name lines store) k = sym (ap enters k.0)
      by (Running c) k = sym (ap enters k.1)

  -- why no text can be entered, by what is asked of the memory
  pub refusal_is : (name : List ℕ) (a b c : Bool) → is_name name ≡ a
      → (nat_le most_live (length task.memory.spaces) && is_none (directory.get name task.memory.names)) ≡ b → nat_le last_number task.memory.last ≡ c
      → entering_refusal name (now own.doing) ≡ cond (not a) (Some BadName) (cond b (Some ManySpaces) (cond c (Some SpaceNumbers) None))
  refusal_is name a b c named room number =
      ap (λ (x : Bool). cond (not x) (Some BadName) (cond wanting (Some ManySpaces) (cond last (Some SpaceNumbers) None))) named
      ∙ ap (λ (x : Bool). cond (not a) (Some BadName) (cond x (Some ManySpaces) (cond last (Some SpaceNumbers) None))) wanting_is
      ∙ ap (λ (x : Bool). cond (not a) (Some BadName) (cond b (Some ManySpaces) (cond x (Some SpaceNumbers) None))) last_is
    where
      wanting : Bool
      wanting = nat_le most_live (length (now own.doing).spaces.live) && is_none (directory.get name (now own.doing).spaces.names)

      last : Bool
      last = nat_le last_number (now own.doing).spaces.last

      wanting_is : wanting ≡ b
      wanting_is =
          sym (ap (λ n. nat_le most_live n && is_none (directory.get name (now own.doing).spaces.names)) many_spaces)
          ∙ sym (ap (λ names. nat_le most_live (length task.memory.spaces) && is_none (directory.get name names)) (ap (λ (u : Heads). u.names) heads_now)) ∙ room

      last_is : last ≡ c
      last_is = sym (ap (λ n. nat_le last_number n) (ap (λ (u : Heads). u.last) heads_now)) ∙ number

-- ---- the text under a name

module _ (pages : Pages) (name : List ℕ) (memory : MemoryData) (store : Store) (h : Known pages memory store.spaces) where
  under_same : SameAt pages (under name memory) (space_under name store)
  under_same =
      subst (λ names. SameAt pages (under name memory) (option_and_then (λ (s : SpaceNo). living s store.spaces) (directory.get name names)))
      (ap (λ (u : Heads). u.names) h.has.heads) (by (directory.get name memory.names))
    where
      by : (o : Option SpaceNo) → SameAt pages (option_and_then (λ (s : SpaceNo). space_at s.0 memory.spaces) o)
          (option_and_then (λ (s : SpaceNo). living s store.spaces) o)
      by None = nothing
      by (Some s) = same_at pages memory store.spaces h s

  pub source_is : (source : Source) → (under name memory ≡ None → source ≡ NoSpace)
      → ((paged : SpaceData) (space : Space) → under name memory ≡ Some paged → HoldsSpace pages paged space → source ≡ source_in (Some space))
      → source ≡ source_in (space_under name store)
  source_is source free text = by (under name memory) (space_under name store) under_same refl
    where
      by : (o : Option SpaceData) (p : Option Space) → SameAt pages o p → under name memory ≡ o → source ≡ source_in p
      by None None same is = free is
      by None (Some space) same is = elim same [ ]
      by (Some paged) None same is = elim same [ ]
      by (Some paged) (Some space) (there k) is = text paged space is k

-- what follows for the text that was looked up
pub source_seen : (source : Source) (pages : Pages) (task : Task) (name : List ℕ) → (under name task.memory ≡ None → source ≡ NoSpace)
    → ((paged : SpaceData) (space : Space) → under name task.memory ≡ Some paged → HoldsSpace pages paged space → source ≡ source_in (Some space))
    → (kinds : List Kind) (own : Own) → StandsFor kinds pages task own → source ≡ source_in (space_under name (now own.doing))
source_seen source pages task name free text kinds own h =
    source_is pages name task.memory (now own.doing) (spaces_now kinds pages task own h) source free text

pub names_seen : {E : Type 0} (r : Result (List (List ℕ)) E) (task : Task) → IfOk r (λ names. names ≡ map (λ entry. entry.0) task.memory.names)
    → IfOk r (λ names. (kinds : List Kind) (pages : Pages) (own : Own) → StandsFor kinds pages task own → names ≡ directory_of (now own.doing))
names_seen (Ok names) task told = λ kinds pages own h. told ∙ ap directory_of_names (ap (λ (u : Heads). u.names) (heads_now kinds pages task own h))
  where
    directory_of_names : List (List ℕ × SpaceNo) → List (List ℕ)
    directory_of_names entries = map (λ entry. entry.0) entries
names_seen (Err e) task told = tt

-- ---- what is told, and what speaks against a text

-- a task that runs tells what its command does
pub state_seen : (kinds : List Kind) (pages : Pages) (task : Task) (own : Own) → StandsFor kinds pages task own → (job : Job) → task.doing ≡ does.Running job
    → (asked : Option Request) → asked ≡ request_of own.doing → running_state asked ≡ state_of (Some own.doing)
state_seen kinds pages task own h job is asked same = by own.doing h.does same
  where
    by : (d : Doing) → DoesAs kinds pages task d → asked ≡ request_of d → running_state asked ≡ state_of (Some d)
    by (Idle store) k same = absurd (cc (k.0, is))
    by (Entering name lines store) k same = absurd (cc (k.0, is))
    by (Running c) k same = ap running_state same

-- nothing speaks against a text of an idle task
pub none_against : (kinds : List Kind) (pages : Pages) (task : Task) (own : Own) (store : Store) (name : List ℕ) (answer : Option Stop)
    → ((kinds : List Kind) (pages : Pages) (own : Own) → StandsFor kinds pages task own → answer ≡ entering_refusal name (now own.doing))
    → own.doing ≡ Idle store → entering_refusal name store ≡ None → StandsFor kinds pages task own → answer ≡ None
none_against kinds pages task own store name answer told idle free h =
    told kinds pages own h ∙ ap (λ d. entering_refusal name (now d)) idle ∙ free

pub none_told : {A : Type 0} (o : Option A) (b : Bool) → is_some o ≡ not b → o ≡ None → b ≡ true
none_told o true is free = refl
none_told o false is free = absurd (cc (is, ap is_some free))
