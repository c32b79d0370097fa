-- Code does what a command does.
use Rattle.std.specs.Prelude.{◌≡◌, ℕ, Some}
use Rattle.code_form.specs.Program.{Program, start_kinds}
use Rattle.code_form.specs.Machine.{Mem, Rest, exec, start}
use Rattle.elan_types.specs.declared.core_phrase.Core.{Core}
use Rattle.elan_types.specs.Eval.{World}
use Rattle.elan_types.specs.Command.{evaluate_from}
use Rattle.elan_types.specs.Command as command
use Rattle.place_gen.specs.Correct.{HasAll, Shows, Comes, scene_of}

-- the code has the packets of the command and the cells that it starts with, and does what the command does, in any world with any marks
-- and answers
pub record Behaves (core : Core) (p : Program) : Type 0 where
  pub packets : p.packets ≡ core.packets
  pub inserted : p.inserted ≡ core.inserted
  pub first : start_kinds p ≡ command.start_kinds core
  pub ends : (w : World) (m : Mem) → HasAll p w m → Comes p (start p) (scene_of w m) (evaluate_from core w)
  -- and it comes to rest in no other way
  pub only : (w : World) (m : Mem) (n : ℕ) (r : Rest) → HasAll p w m → exec p n (start p) (scene_of w m) ≡ Some r
      → Shows p (evaluate_from core w) r
