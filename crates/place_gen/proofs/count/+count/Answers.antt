use Rattle.std.proofs.Common.{rules, arith, ◌≡◌, ◌<◌, List, Option, ap}
use denote.Param.Weighed.{most}
use Rattle.std.proofs.lemmas.Grind.{common_steps}
use borrow.Author.Tests.{tests}
use Rattle.eu_base.specs.declared.operation.Way.{Way}
use Rattle.elan_types.specs.declared.core_phrase.PlacePhrase.{PlacePhrase}
use Rattle.elan_types.specs.declared.core_phrase.ValuePhrase.{ValuePhrase}
use Rattle.elan_types.specs.declared.core_phrase.Action.{Action}
use Rattle.elan_types.specs.declared.core_phrase.Action.TheVariants as action
use Rattle.elan_types.specs.declared.core_phrase.Action.TheFolds.{the_lemmas}
use Rattle.elan_types.proofs.core_phrase.Action.TheLaws.{the_size}
use Rattle.place_gen.proofs.Select.{select_size}
use Rattle.place_gen.proofs.count.+count.Goals as goal

pub count_value-returns-in-Select : goal.count_value-returns-in-Select
count_value-returns-in-Select t c = search (rules, the_lemmas, select_size)

pub count_action-returns-in-Select : goal.count_action-returns-in-Select
count_action-returns-in-Select t c = grind (arith, the_lemmas, select_size)

pub count_action-returns-in-Count : goal.count_action-returns-in-Count
count_action-returns-in-Count t c = search (rules, the_lemmas)

-- the units of a counted loop are less than it
units_below : (a : Action) (p : PlacePhrase) (from : ValuePhrase) (way : Way) (limit w : Option ValuePhrase) (us : List Action) (u : Option ValuePhrase)
    → a ≡ action.Count p from way limit w us u → most the_size us < the_size a
units_below a p from way limit w us u is = search (rules, the_lemmas, tests, common_steps, is)

pub count_loop-count_actions-units-requires : goal.count_loop-count_actions-units-requires
count_loop-count_actions-units-requires t c =
    let below = units_below _ _ _ _ _ _ _ _ c.in-Count.is in
    let same = ap (most the_size) c.as_slice-in-Count.ensures in
    (omega (arith, below, same, c.decreases), tt)
