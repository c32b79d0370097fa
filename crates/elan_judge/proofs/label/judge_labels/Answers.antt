use Rattle.std.proofs.Common.{[], ◌∷◌, List, ℤ, ap, ◌∙◌}
use Rattle.std.proofs.lemmas.List.{at_drop_all}
use Rattle.elan_meant.specs.declared.meant.Meant.{Meant}
use Rattle.elan_meant.specs.declared.meant.Meant.TheVariants.{Labels}
use Rattle.elan_scope.specs.Phrase as form
use Rattle.elan_scope.specs.Phrase.{plain, all_of}
use Rattle.elan_rules.specs.Meaning.{judged_all}
use Rattle.elan_scope.specs.Ruled.{Ruled, gives, ◌>>=◌}
use Rattle.elan_rules.specs.Rules.{ruled}
use Rattle.elan_judge.specs.Shape.{label_phrases}
use Rattle.elan_judge.proofs.Rows.{list_done, labels_single}
use Rattle.elan_judge.proofs.label.judge_labels.Goals as goal

pub returns : goal.returns
returns c =
    ap (λ (r : Ruled (List Meant)). r >>= ruled c.args.known.now 0 (plain form.labels))
    (list_done (λ n. Labels (n ∷ [])) c.loop-label.numbers _ _
    (at_drop_all (λ ls. judged_all c.args.known.now (all_of (label_phrases c.args.scope.now c.loop-label.before ls))) c.args.labels.now c.loop-label.label-index
    c.loop-label-test.false)
    c.loop-label.invariant)
    ∙ ap (λ (ns : List ℤ). gives (Labels ns)) (labels_single c.loop-label.numbers)
