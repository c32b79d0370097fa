-- Tasks over one pool.
use Rattle.std.specs.Prelude.{◌≡◌, ℕ, List, [], ◌∷◌, Option, Some, None, pos, replicate, slice_index_or}
use Rattle.std.specs.List.{flat_map}
use Rattle.eu_base.specs.Spaces.{IsKept}
use Rattle.page_pool.specs.Pool.{Pages, Tell}
use Rattle.data_space.specs.Data.{SpaceData}
use Rattle.data_space.specs.Owners.{ChangesOwner, LosesOwner}
use Rattle.page_table.specs.Frames.{Over, over, content_at}
use Rattle.memory_tests.specs.declared.space_task.Task.{Task}

abbrev pub roots : Task → List (Option ℕ)
roots t = t.first.root ∷ t.second.root ∷ []

abbrev pub roots_of : List Task → List (Option ℕ)
roots_of ts = flat_map roots ts

abbrev pub no_space : SpaceData
no_space = record { root = None; kind = pos 0; shape = None }

abbrev pub no_task : Task
no_task = record { first = no_space; second = no_space }

abbrev pub task_at : List Task → ℕ → Task
task_at tasks k = slice_index_or tasks k no_task

-- what stands behind the pool: nothing, which tells zeros
abbrev pub zeros : Tell
zeros = Some (λ _. replicate 512 0)

-- a pool over that
abbrev pub whole : Pages → Over
whole pages = over pages zeros

-- every byte of a space is as it was
abbrev pub SameBytes : Over → Over → Option ℕ → Type 0
SameBytes old new root = IsKept (content_at old root) (content_at new root)

-- a space with the bytes, the type and the shape that another had
pub record IsCopy (old new : Over) (of copy : SpaceData) : Type 0 where
  pub bytes : IsKept (content_at old of.root) (content_at new copy.root)
  pub kind : copy.kind ≡ of.kind
  pub shape : copy.shape ≡ of.shape

-- task k is another one now; each other task is as it was, with every byte of its spaces
abbrev pub ChangesTask : Over → Over → List Task → List Task → ℕ → Type 0
ChangesTask old new tasks later k = ChangesOwner roots no_task old new tasks later k

-- task k is gone; each other task is as it was, with every byte of its spaces
abbrev pub LosesTask : Over → Over → List Task → List Task → ℕ → Type 0
LosesTask old new tasks later k = LosesOwner roots no_task old new tasks later k
