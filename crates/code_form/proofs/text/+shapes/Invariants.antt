use Rattle.std.proofs.Common.{◌≡◌, ◌++◌, map, take}
use Rattle.code_form.specs.Listing.{listed, shape_text}
use Rattle.code_form.proofs.text.+shapes.Given as goal

-- the shapes so far stand there
abbrev pub invariant-append_shapes-loop-index : goal.invariant-append_shapes-loop-index
invariant-append_shapes-loop-index l = l.out ≡ l.fn.out ++ listed (map shape_text (take l.index l.shapes))
