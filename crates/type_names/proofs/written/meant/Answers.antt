use Rattle.std.proofs.Common.{[], ◌++◌, ap, ◌∙◌}
use Rattle.type_names.proofs.Judged.{judged_type}
use Rattle.type_names.specs.declared.judgement.Judged.{Judged}
use Rattle.type_names.proofs.written.meant.Goals as goal

pub returns : goal.returns
returns c = ap (λ (j : Judged). j.of) c.in_ok-judged.ensures ∙ judged_type (c.args.here.now ++ c.args.around.now) [] c.args.of.now c.args.inside
