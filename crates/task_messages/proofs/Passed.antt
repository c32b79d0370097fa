-- A task after its data space went out, or one came in.
use Rattle.std.proofs.Common.{◌≡◌, ℕ, ℤ, ◌<◌, ◌≤◌, Bool, true, false, List, [], ◌∷◌, length, Option, Some, None, refl, sym, ap, ◌∙◌, subst, arith}
use Rattle.std.specs.Prelude.{Result, Ok, Err, OnOk, is_some, not, ◌&&◌, nat_le, if◌then◌else◌}
use Rattle.std.specs.Option.{unwrap_or, IsSome}
use Rattle.task_numbers.specs.declared.number.SpaceNo.{SpaceNo}
use Rattle.eu_base.specs.declared.address.TheConstants.{CELLS}
use Rattle.eu_base.specs.declared.value.Kind.{Kind}
use Rattle.eu_base.specs.declared.shape.Shape.{Shape}
use Rattle.eu_base.specs.declared.request.Request.{Request}
use Rattle.eu_base.specs.declared.request.Reply.TheVariants.{Taken, Message}
use Rattle.eu_base.specs.declared.stop.Stop.TheVariants.{ManySpaces, SpaceNumbers}
use Rattle.eu_base.specs.Requests.{plain, sent_by}
use Rattle.eu_base.specs.DataSpaces.{Space, Spaces, Head, Heads, heads_of, no_space, is_live, the_space, Forgets, most_live, last_number}
use Rattle.eu_base.specs.SpaceOperations.{room_refusal}
use Rattle.eu_base.specs.SpacePlaces.{shaped_kinds}
use Rattle.eu_base.specs.SoundSpaces.{shape_kinds}
use Rattle.eu_base.proofs.Heads.{head_same, long_heads}
use Rattle.eu_base.proofs.SoundSpaces.{space_sound}
use Rattle.task_messages.specs.Below.page_pool.specs.Pool.{Pages}
use Rattle.task_messages.specs.Below.data_space.specs.Data.{SpaceData}
use Rattle.task_messages.specs.Below.space_memory.specs.Live.{IsLive, space_at}
use Rattle.task_messages.specs.Below.space_memory.specs.Live as live_spaces
use Rattle.task_messages.specs.Below.space_memory.specs.Memories.{MemoryData, head_of, with_new, forgotten}
use Rattle.task_messages.specs.Below.task_job.specs.Here.{HoldsSpace}
use Rattle.task_messages.specs.Below.place_gen.proofs.Cells.{fit_at}
use Rattle.task_messages.specs.Below.system_meaning.specs.Tasks.{Own, Doing, Idle, Entering, Running, now, request_of}
use Rattle.task_messages.specs.Below.task_job.proofs.Receiving.{sent_received, came_received}
use Rattle.task_messages.specs.Below.live_task.specs.Stands.{DoesAs, StandsFor, Due}
use Rattle.task_messages.specs.Below.live_task.specs.declared.task.Task.{Task}
use Rattle.task_messages.specs.Below.live_task.proofs.Dues.{request_due}
use Rattle.task_messages.specs.Below.live_task.specs.declared.task.Doing.{Doing as Does}
use Rattle.task_messages.specs.Below.live_task.specs.declared.task.Doing.TheVariants as does
use Rattle.task_texts.specs.Doings.{rests, enters}
use Rattle.task_texts.proofs.Coming.{given_there, gone_there}
use Rattle.task_texts.proofs.Numbers.{none_next}
use Rattle.task_texts.proofs.Seen.{Known, SameAt, nothing, there, same_at, spaces_now, heads_now}
use Rattle.task_messages.specs.Passing.{Carries, does_run}

-- a space that lives stands for the one under its number
held_at : (pages : Pages) {o : Option SpaceData} {p : Option Space} → SameAt pages o p → IsSome o
    → HoldsSpace pages (unwrap_or o live_spaces.no_space) (unwrap_or p no_space)
held_at pages nothing live = absurd (cc live)
held_at pages (there h) live = h

few_kinds : (o : Option Shape) → length (shaped_kinds o) ≤ CELLS → length (shape_kinds o) ≤ CELLS
few_kinds None few = few
few_kinds (Some shape) few = few

module _ (kinds : List Kind) (pages : Pages) (task : Task) (own : Own) (h : StandsFor kinds pages task own) where
  abbrev all : Spaces
  all = (now own.doing).spaces

  known : Known pages task.memory all
  known = spaces_now kinds pages task own h

  -- what goes out can come to another task
  pub carries : (s : SpaceNo) → IsLive s.0 task.memory.spaces → Carries pages (live_spaces.the_space s.0 task.memory.spaces) (the_space s all)
  carries s live = record {
    holds = held_at pages (same_at pages task.memory all known s) live;
    can =
        record {
          space = space_sound s all known.has.sound;
          fits =
              few_kinds (the_space s all).shape
              (subst (λ (x : Head). length (shaped_kinds x.shape) ≤ CELLS) (head_same s all) (fit_at s (heads_of all) known.has.given));
        };
  }

  -- a space went out with the message of a request
  pub went_out : (memory : MemoryData) (s : SpaceNo) (q : Request) → memory ≡ forgotten s.0 task.memory → request_of own.doing ≡ Some q
      → sent_by q ≡ Forgets s ∷ [] → Due kinds pages (record task { memory = memory }) own (plain Taken)
  went_out memory s q is asks sends =
      subst (λ (m : MemoryData). Due kinds pages (record task { memory = m }) own (plain Taken)) (sym is)
      (request_due kinds pages pages task (forgotten s.0 task.memory) own q (plain Taken) h asks
      (sent_received q s.0 sends pages task.memory (gone_there all task.memory known.cells known.has s)))

  -- one came in with a message
  pub came_in : (memory : MemoryData) (d : SpaceData) (content : Space) (q : Request) (code : ℤ) (from number : ℕ) → memory ≡ with_new d task.memory
      → task.memory.last < 4294967295 → Carries pages d content → request_of own.doing ≡ Some q
      → Due kinds pages (record task { memory = memory }) own (record { reply = Message code from number; content = content })
  came_in memory d content q code from number is left own_is asks =
      subst (λ (m : MemoryData). Due kinds pages (record task { memory = m }) own (record { reply = Message code from number; content = content })) (sym is)
      (request_due kinds pages pages task (with_new d task.memory) own q (record { reply = Message code from number; content = content }) h asks
      (came_received q code from number content pages task.memory d own_is.can own_is.holds left
      (none_next head_of task.memory.spaces task.memory.last (given_there all task.memory known.cells known.has).rise)))

-- a task that asks something runs, and is neither idle nor entering
pub runs_where : (kinds : List Kind) (pages : Pages) (task : Task) (own : Own) (q : Request) → StandsFor kinds pages task own → request_of own.doing ≡ Some q
    → does_run task.doing ≡ true
runs_where kinds pages task own q h asks = by own.doing asks h.does
  where
    by : (d : Doing) → request_of d ≡ Some q → DoesAs kinds pages task d → does_run task.doing ≡ true
    by (Idle store) e k = absurd (cc e)
    by (Entering name lines store) e k = absurd (cc e)
    by (Running c) e k = ap does_run k.1

pub run_is : (d : Does) → (not (rests d) && not (enters d)) ≡ does_run d
run_is does.Idle = refl
run_is (does.Entering name lines) = refl
run_is (does.Running job) = refl

-- the same data spaces live
pub lives_alike : (kinds : List Kind) (pages : Pages) (task : Task) (own : Own) (s : SpaceNo) → StandsFor kinds pages task own
    → is_some (space_at s.0 task.memory.spaces) ≡ is_live s (now own.doing).spaces
lives_alike kinds pages task own s h = by (same_at pages task.memory (now own.doing).spaces (spaces_now kinds pages task own h) s)
  where
    by : {o : Option SpaceData} {p : Option Space} → SameAt pages o p → is_some o ≡ is_some p
    by nothing = refl
    by (there x) = refl

-- and there is as much room for one more
pub room_alike : (kinds : List Kind) (pages : Pages) (task : Task) (own : Own) → StandsFor kinds pages task own
    → (if nat_le most_live (length task.memory.spaces) then Some ManySpaces else if nat_le last_number task.memory.last then Some SpaceNumbers else None)
    ≡ room_refusal (heads_of (now own.doing).spaces)
room_alike kinds pages task own h =
    ap (λ (n : ℕ). if nat_le most_live n then Some ManySpaces else if nat_le last_number task.memory.last then Some SpaceNumbers else None)
    (sym (long_heads head_of task.memory.spaces))
    ∙ ap (λ (u : Heads). room_refusal u) (heads_now kinds pages task own h)

pub room_where : (kinds : List Kind) (pages : Pages) (task : Task) (own : Own) → StandsFor kinds pages task own
    → room_refusal (heads_of (now own.doing).spaces) ≡ None → (length task.memory.spaces < 16) × (task.memory.last < 4294967295)
room_where kinds pages task own h free =
    by (nat_le most_live (length task.memory.spaces)) (nat_le last_number task.memory.last) refl refl (room_alike kinds pages task own h ∙ free)
  where
    by : (a b : Bool) → nat_le most_live (length task.memory.spaces) ≡ a → nat_le last_number task.memory.last ≡ b
        → (if a then Some ManySpaces else if b then Some SpaceNumbers else None) ≡ None → (length task.memory.spaces < 16) × (task.memory.last < 4294967295)
    by true b many spent e = absurd (cc e)
    by false true many spent e = absurd (cc e)
    by false false many spent e = (grind (arith, many), grind (arith, spent))

-- what follows of a call that may give nothing
pub if_done : {A E : Type 0} (result : Result A E) (P Q : Type 0) → (P → Q) → OnOk result P → OnOk result Q
if_done (Ok a) P Q f p = f p
if_done (Err e) P Q f p = tt
