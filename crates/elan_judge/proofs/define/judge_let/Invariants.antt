use Rattle.std.proofs.Common.{map, take}
use Rattle.elan_scope.specs.Answer.{Is}
use Rattle.elan_rules.specs.Meaning.{judged_all}
use Rattle.elan_scope.specs.Phrase.{all_of}
use Rattle.elan_judge.specs.Shape.{let_item}
use Rattle.elan_judge.proofs.define.judge_let.Given as goal

abbrev pub invariant-loop-item : goal.invariant-loop-item
invariant-loop-item l = Is l.row (judged_all l.known (all_of (map (let_item l.scope) (take l.item-index l.items))))
