use Rattle.std.proofs.Common.{◌≡◌, ◌∷◌, [], map, drop}
use Rattle.elan_meant.specs.declared.meant.Meant.TheVariants.{Labels}
use Rattle.elan_rules.specs.Meaning.{judged_all}
use Rattle.elan_scope.specs.Phrase.{all_of}
use Rattle.elan_judge.specs.Shape.{label_phrases}
use Rattle.elan_judge.proofs.Rows.{prefixed}
use Rattle.elan_judge.proofs.label.judge_labels.Given as goal

abbrev pub invariant-loop-label : goal.invariant-loop-label
invariant-loop-label l =
    prefixed (map (λ n. Labels (n ∷ [])) l.numbers) (judged_all l.known (all_of (label_phrases l.scope l.before (drop l.label-index l.labels))))
    ≡ judged_all l.known (all_of (label_phrases l.scope l.earlier l.labels))
