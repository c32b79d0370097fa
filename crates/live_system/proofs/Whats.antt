-- What a task does, told apart.
use Rattle.std.proofs.Common.{◌≡◌, true, false, Some, refl}
use Rattle.std.proofs.lemmas.Bool.{false≢true}
use Rattle.live_system.specs.Below.system_meaning.specs.Tasks.{Doing, Idle, Entering, Running}
use Rattle.live_system.specs.Below.task_texts.specs.Doings.{is_idle, is_entering}
use Rattle.live_system.specs.declared.what.What.TheVariants as whats
use Rattle.live_system.specs.What.{what_of}

pub idle_is : (d : Doing) → is_idle d ≡ true → whats.Idle ≡ what_of (Some d)
idle_is (Idle store) e = refl
idle_is (Entering name lines store) e = absurd (false≢true e)
idle_is (Running c) e = absurd (false≢true e)

pub entering_is : (d : Doing) → is_entering d ≡ true → whats.Entering ≡ what_of (Some d)
entering_is (Idle store) e = absurd (false≢true e)
entering_is (Entering name lines store) e = refl
entering_is (Running c) e = absurd (false≢true e)

pub running_is : (d : Doing) → is_idle d ≡ false → is_entering d ≡ false → whats.Running ≡ what_of (Some d)
running_is (Idle store) e f = cc
running_is (Entering name lines store) e f = cc
running_is (Running c) e f = refl
