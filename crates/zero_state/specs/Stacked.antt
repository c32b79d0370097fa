-- What a stack of pending operands stands for.
use Rattle.std.specs.Prelude.{List, map, reverse}
use Rattle.code_form.specs.declared.operand.Operand.{Operand}
use Rattle.code_form.specs.Machine.{Frame}
use Rattle.zero_state.specs.declared.stack.Link.{Link}
use Rattle.zero_state.specs.declared.stack.Frame.{Frame as Kept}

-- what is pending in the innermost frame, the newest first, and the live frames, the innermost first
pub record Stacked : Type 0 where
  pub ops : List Operand
  pub frames : List Frame

-- a frame, with what is pending in the frame below
abbrev pub linked : Link → List Operand → Frame
linked link ops = record { back = link.back; base = link.base; used = link.used; refines = link.refines; body = link.body; ops = ops }

abbrev pub frame_of : Kept → Frame
frame_of f = linked f.link (reverse f.operands)

abbrev pub frames_of : List Kept → List Frame
frames_of fs = map frame_of (reverse fs)
