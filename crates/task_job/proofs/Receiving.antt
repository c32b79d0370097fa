-- What answers do to the data spaces of a memory: nothing, or one was taken out, or one was given.
use Rattle.std.proofs.Common.{◌≡◌, ℕ, ℤ, ◌+◌, ◌<◌, Bool, true, false, List, [], ◌∷◌, None, refl, sym, ap, ◌∙◌, subst, arith}
use Rattle.std.specs.Prelude.{nat_lt, if◌then◌else◌}
use Rattle.std.proofs.lemmas.Bool.Decides.{nat_tests}
use Rattle.eu_base.specs.declared.request.Request.{Request}
use Rattle.eu_base.specs.declared.request.Reply.{Reply}
use Rattle.eu_base.specs.declared.request.Reply.TheVariants.{Taken, Message}
use Rattle.eu_base.specs.Requests.{Answer, plain, is_plain, sent_by, coming, reply_changes}
use Rattle.eu_base.specs.Cells.{Cells}
use Rattle.eu_base.specs.DataSpaces.{Space, Heads, last_number, SpaceChange, Gets, Forgets, heads_after}
use Rattle.eu_base.specs.SoundSpaces.{CanCome}
use Rattle.eu_base.proofs.SoundSpaces.{no_space_comes}
use Rattle.page_pool.specs.Pool.{Pages}
use Rattle.task_job.specs.Below.data_space.specs.Data.{SpaceData}
use Rattle.space_memory.specs.Live.{space_at, without}
use Rattle.space_memory.specs.Memories.{MemoryData, memory_heads, with_new, forgotten}
use Rattle.space_memory.proofs.Changed.{forgot_heads}
use Rattle.space_memory.proofs.Given.{given_heads, given_held, taken_held}
use Rattle.task_job.specs.Here.{here, HoldsAll, HoldsSpace}
use Rattle.code_form.specs.Machine.{mem_after}
use Rattle.task_job.specs.Below.zero_state.specs.Stepping.{mem_of}
use Rattle.task_job.specs.Standing.{Receives}

-- the changes that were made are those of an answer
received : (q : Request) (a : Answer) (old new : Pages) (m n : MemoryData) (changes : List SpaceChange) → reply_changes q a (memory_heads m) ≡ changes
    → CanCome a.content → memory_heads n ≡ heads_after changes (memory_heads m)
    → ((cells : Cells) → HoldsAll old m cells → HoldsAll new n (mem_after changes (mem_of (memory_heads m) cells)).cells) → Receives q a old new m n
received q a old new m n changes is can heads holds = record {
  content = can;
  heads = heads ∙ sym (ap (λ (cs : List SpaceChange). heads_after cs (memory_heads m)) is);
  holds =
      λ cells h. subst (λ (cs : List SpaceChange). HoldsAll new n (mem_after cs (mem_of (memory_heads m) cells)).cells) (sym is) (holds cells h);
}

plain_changes : (q : Request) (r : Reply) (heads : Heads) → is_plain r ≡ true → reply_changes q (plain r) heads ≡ []
plain_changes q Taken heads e = absurd (cc e)
plain_changes q (Message code from space) heads e = absurd (cc e)
plain_changes q _ heads e = refl

pub plain_received : (q : Request) (r : Reply) (pages : Pages) (m : MemoryData) → is_plain r ≡ true → Receives q (plain r) pages pages m m
plain_received q r pages m is =
    received q (plain r) pages pages m m [] (plain_changes q r (memory_heads m) is) no_space_comes refl (λ cells h. h)

-- the data space of a request that sends one was taken out
pub sent_received : (q : Request) (n : ℕ) → sent_by q ≡ Forgets (record { 0 = n }) ∷ [] → (pages : Pages) (m : MemoryData)
    → space_at n (without n m.spaces) ≡ None → Receives q (plain Taken) pages pages m (forgotten n m)
sent_received q n is pages m free =
    received q (plain Taken) pages pages m (forgotten n m) (Forgets (record { 0 = n }) ∷ []) is no_space_comes (forgot_heads (record { 0 = n }) m)
    (λ cells h. taken_held (here pages) m (record { 0 = n }) free cells h)

-- a number is left for what comes
comes_in : (content : Space) (heads : Heads) → heads.last < last_number → coming content heads ≡ Gets content ∷ []
comes_in content heads left = by (nat_lt heads.last last_number) (grind (arith, nat_tests, left))
  where
    by : (b : Bool) → b ≡ true → (if b then Gets content ∷ [] else []) ≡ Gets content ∷ []
    by true e = refl
    by false e = absurd (cc e)

-- the data space of a message was given
pub came_received : (q : Request) (code : ℤ) (from space : ℕ) (content : Space) (pages : Pages) (m : MemoryData) (d : SpaceData) → CanCome content
    → HoldsSpace pages d content → m.last < last_number → space_at (m.last + 1) m.spaces ≡ None
    → Receives q (record { reply = Message code from space; content = content }) pages pages m (with_new d m)
came_received q code from space content pages m d can own left free =
    received q (record { reply = Message code from space; content = content }) pages pages m (with_new d m) (Gets content ∷ [])
    (comes_in content (memory_heads m) left) can (given_heads d content m own.kind own.shape)
    (λ cells h. given_held (here pages) m d content free own.holds cells h)
