use Rattle.std.proofs.Common.{drop}
use Rattle.place_gen.specs.declared.draft.Draft.{Draft}
use Rattle.place_gen.specs.Stretch.{whens_code}
use Rattle.place_gen.specs.Makes.{Makes}
use Rattle.place_gen.proofs.put.put_whens.Given as goal

-- what makes the tests of the other labels makes all
abbrev pub invariant-loop-label : goal.invariant-loop-label
invariant-loop-label l = (new : Draft) → Makes (whens_code (drop l.label-index l.labels) l.to) l.out new → Makes (whens_code l.labels l.to) l.fn.out new
