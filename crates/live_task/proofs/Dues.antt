-- Answers that are due.
use Rattle.std.proofs.Common.{◌≡◌, ℕ, ◌≤◌, true, List, Option, Some, None, refl, sym, subst}
use Rattle.std.specs.Option.{ForSome}
use Rattle.eu_base.specs.declared.value.Kind.{Kind}
use Rattle.eu_base.specs.declared.request.Request.{Request}
use Rattle.eu_base.specs.declared.request.Reply.{Reply}
use Rattle.eu_base.specs.Requests.{Answer, plain, is_plain}
use Rattle.page_pool.specs.Pool.{Pages}
use Rattle.live_task.specs.Below.page_table.specs.Sharing.{occ}
use Rattle.task_job.specs.Here.{Knows, content_at, KeepsBytes}
use Rattle.live_task.specs.Below.space_memory.specs.Memories.{MemoryData, roots}
use Rattle.live_task.specs.Below.system_meaning.specs.Tasks.{Own, request_of}
use Rattle.task_job.specs.Standing.{Receives}
use Rattle.task_job.proofs.Standing.{receives_on}
use Rattle.task_job.proofs.Receiving.{plain_received}
use Rattle.live_task.specs.Stands.{StandsFor, Received, Due}
use Rattle.live_task.specs.declared.task.Task.{Task}
use Rattle.live_task.proofs.Carried.{each_kept, cells_carried, stands_kept}

-- a reply to which nothing is done is due to each task
pub plain_due : (kinds : List Kind) (pages : Pages) (task : Task) (own : Own) (r : Reply) → is_plain r ≡ true → StandsFor kinds pages task own
    → Due kinds pages task own (plain r)
plain_due kinds pages task own r is h = record { old = pages; before = task.memory; stood = h; received = by (request_of own.doing) }
  where
    by : (o : Option Request) → Received o (plain r) pages pages task.memory task.memory
    by None = (refl, refl)
    by (Some q) = plain_received q r pages task.memory is

-- what is due to one that asks this, after what the answer does
pub request_due : (kinds : List Kind) (old new : Pages) (task : Task) (memory : MemoryData) (own : Own) (q : Request) (a : Answer)
    → StandsFor kinds old task own → request_of own.doing ≡ Some q → Receives q a old new task.memory memory
    → Due kinds new (record task { memory = memory }) own a
request_due kinds old new task memory own q a h asks got = record {
  old = old;
  before = task.memory;
  stood = h;
  received = subst (λ (o : Option Request). Received o a old new task.memory memory) (sym asks) got;
}

-- it is still due where no byte of its spaces changed. One that asks nothing stands for what it stood for
module _ (kinds : List Kind) (old new : Pages) (task : Task) (own : Own) (a : Answer) (h : Due kinds old task own a)
    (known : Knows old → Knows new) (kept : (root : Option ℕ) → ForSome root (λ r. 1 ≤ occ r (roots task.memory)) → (n : ℕ) → content_at new root n ≡ content_at old root n) where
  bytes : KeepsBytes old new (roots task.memory)
  bytes = record { knows = known; each = each_kept old new (roots task.memory) kept }

  pub due_carried : Due kinds new task own a
  due_carried = by (request_of own.doing) refl h.received
    where
      by : (o : Option Request) → request_of own.doing ≡ o → Received o a h.old old h.before task.memory → Due kinds new task own a
      by None is same = record {
        old = new;
        before = task.memory;
        stood =
            stands_kept kinds old new task own bytes
            (subst (λ (p : Pages). StandsFor kinds p task own) same.0
            (subst (λ (m : MemoryData). StandsFor kinds h.old (record task { memory = m }) own) same.1 h.stood));
        received = subst (λ (o : Option Request). Received o a new new task.memory task.memory) (sym is) (refl, refl);
      }
      by (Some q) is got = record {
        old = h.old;
        before = h.before;
        stood = h.stood;
        received =
            subst (λ (o : Option Request). Received o a h.old new h.before task.memory) (sym is)
            (receives_on q a h.old old new h.before task.memory task.memory got (λ cells held. cells_carried old new task.memory bytes cells held) refl);
      }
