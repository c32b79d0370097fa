use Rattle.std.proofs.Common.{◌≡◌, map, take}
use Rattle.state_spelling.specs.Held.{kept_link}
use Rattle.state_spelling.proofs.record.kept_links.Given as goal

abbrev pub invariant-loop-frame : goal.invariant-loop-frame
invariant-loop-frame l = l.kept ≡ map (λ f. kept_link f.link) (take l.frame-index l.frames)
