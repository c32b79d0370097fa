use Rattle.std.proofs.Common.{◌≡◌, ◌++◌, drop}
use Rattle.session_text.specs.Display as spec
use Rattle.session_text.proofs.display.Display.render.Given as goal

-- what is added so far, and what is left
abbrev pub invariant-loop-shown : goal.invariant-loop-shown
invariant-loop-shown l =
    l.out ++ spec.rendered l.plain (drop l.shown-index l.shown-items) ≡ l.fn.out ++ spec.rendered l.plain l.self.shown
