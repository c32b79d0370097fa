use Rattle.std.proofs.Common.{◌≡◌, ℕ, List, ap, ◌∙◌}
use Rattle.std.specs.Prelude.{slice_get}
use Rattle.elan_types.specs.declared.core_phrase.Body.{Body}
use Rattle.code_gen.specs.walks.Marks.{left_from}
use Rattle.code_gen.specs.Reached.{IsReached}
use Rattle.code_gen.proofs.Left.{if_ok, kept, others, each, as_many}
use Rattle.code_gen.proofs.Levels.{evaluate_same}
use Rattle.code_gen.proofs.Typed.{well_typed}
use Rattle.code_gen.proofs.cores.reached.Goals as goal

-- the bodies that were made, by the marks
abbrev IsMade : goal.After-drop-marks-inside → List Body → Type 0
IsMade c made = made ≡ left_from 0 c.as_slice.result.now c.as_slice-2.result.now

is_left : (c : goal.After-drop-marks-inside) (made : List Body) → IsMade c made → made ≡ left_from 0 c.in_ok-marks.marks c.args.core.now.bodies
is_left c made e =
    e ∙ ap (λ ms. left_from 0 ms c.as_slice-2.result.now) c.as_slice.ensures ∙ ap (λ bs. left_from 0 c.in_ok-marks.marks bs) c.as_slice-2.ensures

kept_here : (c : goal.After-drop-marks-inside) (made : List Body) → IsMade c made → (n : ℕ) → IsReached c.args.core.now n
    → slice_get made n ≡ slice_get c.args.core.now.bodies n
kept_here c made e = kept c.args.core.now c.in_ok-marks.marks c.in_ok-marks.ensures made (is_left c made e)

pub returns-clause-left : goal.returns-clause-left
returns-clause-left c =
    if_ok (IsMade c) _ c.all_left.result (λ made e. (c.in_ok-marks.marks, c.in_ok-marks.ensures, is_left c made e)) c.all_left.ensures

pub returns-clause-kept : goal.returns-clause-kept
returns-clause-kept c = if_ok (IsMade c) _ c.all_left.result (kept_here c) c.all_left.ensures

pub returns-clause-emptied : goal.returns-clause-emptied
returns-clause-emptied c =
    if_ok (IsMade c) _ c.all_left.result
    (λ made e. others c.args.core.now c.in_ok-marks.marks c.in_ok-marks.ensures made (is_left c made e)) c.all_left.ensures

pub returns-clause-count : goal.returns-clause-count
returns-clause-count c =
    if_ok (IsMade c) _ c.all_left.result
    (λ made e. as_many c.args.core.now c.in_ok-marks.marks c.in_ok-marks.ensures made (is_left c made e)) c.all_left.ensures

pub returns-clause-typed : goal.returns-clause-typed
returns-clause-typed c =
    if_ok (IsMade c) _ c.all_left.result
    (λ made e. well_typed c.args.core.now made (kept_here c made e)
    (each c.args.core.now c.in_ok-marks.marks c.in_ok-marks.ensures made (is_left c made e))) c.all_left.ensures

pub returns-clause-same : goal.returns-clause-same
returns-clause-same c =
    if_ok (IsMade c) _ c.all_left.result (λ made e. evaluate_same c.args.core.now made (kept_here c made e)) c.all_left.ensures
