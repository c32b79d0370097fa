-- Which bodies a phrase names: each call and each refinement, by the number of its body, in text order.
use Rattle.std.specs.Prelude.{ℕ, List, [], ◌∷◌, ◌++◌, map, Option, Some, None}
use Rattle.elan_types.specs.declared.core_phrase.Content.{Content}
use Rattle.elan_types.specs.declared.core_phrase.Content.TheVariants as contents
use Rattle.elan_types.specs.declared.core_phrase.PlacePhrase.{PlacePhrase}
use Rattle.elan_types.specs.declared.core_phrase.Actual.{Actual}
use Rattle.elan_types.specs.declared.core_phrase.Arm.{Arm}
use Rattle.elan_types.specs.declared.core_phrase.ValueArm.{ValueArm}
use Rattle.elan_types.specs.declared.core_phrase.ValuePhrase.{ValuePhrase}
use Rattle.elan_types.specs.declared.core_phrase.Action.{Action}
use Rattle.elan_types.specs.declared.core_phrase.Action.TheOpen as t
use Rattle.elan_types.specs.declared.core_phrase.Action.TheOpen.{Action-F, PlacePhrase-F, Actual-F, ValuePhrase-F, Arm-F, ValueArm-F}
use Rattle.elan_types.specs.declared.core_phrase.Action.TheFolds.{fold-Action, fold-Actual, fold-PlacePhrase, fold-ValuePhrase, fold-Arm, fold-ValueArm}

abbrev pub Names : Type 0
Names = List ℕ

-- one after another
abbrev pub all : List Names → Names
all [] = []
all (ns ∷ rest) = ns ++ all rest

-- a part that may be left out
abbrev pub if_written : Option Names → Names
if_written None = []
if_written (Some ns) = ns

abbrev pub Layer : (Type 0 → Type 0 → Type 0 → Type 0 → Type 0 → Type 0 → Type 0) → Type 0
Layer F = F Names Names Names Names Names Names

-- those of a phrase from those of its parts
abbrev pub place_step : Layer PlacePhrase-F → Names
place_step (t.Variable k) = []
place_step (t.Packet k) = []
place_step (t.Local k) = []
place_step (t.Parameter k) = []
place_step (t.Item p a items) = p ++ a
place_step (t.Field p before) = p
place_step (t.Content p s) = p

abbrev pub value_step : Layer ValuePhrase-F → Names
value_step (t.Number z) = []
value_step (t.Truth b) = []
value_step (t.Text x) = []
value_step (t.Load p s) = p
value_step (t.Apply op as') = all as'
value_step (t.ValuePhrase::If c a b) = c ++ (a ++ b)
value_step (t.ValuePhrase::Select a arms other) = a ++ (all arms ++ other)
value_step (t.ValuePhrase::Unit a) = a
value_step (t.After us a) = all us ++ a
value_step (t.Never s) = []
value_step (t.ValuePhrase::Call p as' s) = p ∷ all as'
value_step (t.ValuePhrase::Refer p s) = p ∷ []
value_step (t.Pick a i items s) = a ++ i
value_step (t.Take a part s) = a
value_step (t.ValuePhrase::Ask _ as') = all as'
value_step (t.Consult op as') = all as'

abbrev pub actual_step : Layer Actual-F → Names
actual_step (t.Value a) = a
actual_step (t.Place p s) = p

abbrev pub value_arm_step : Layer ValueArm-F → Names
value_arm_step arm = arm.value

abbrev pub action_step : Layer Action-F → Names
action_step (t.Action::Unit us) = all us
action_step (t.Store p s a) = p ++ a
action_step (t.Modify change p a) = p ++ a
action_step (t.Action::If c us us') = c ++ (all us ++ all us')
action_step (t.Action::Select a arms us) = a ++ (all arms ++ all us)
action_step (t.Loop while' us until) = if_written while' ++ (all us ++ if_written until)
action_step (t.Count p from way limit while' us until) =
    p ++ (from ++ (if_written limit ++ (if_written while' ++ (all us ++ if_written until))))
action_step (t.Action::Ask _ as') = all as'
action_step (t.ErrorStop a) = a
action_step (t.Action::Call p as') = p ∷ all as'
action_step (t.Action::Refer p) = p ∷ []
action_step (t.Leave e) = []
action_step (t.LeaveWith e s a) = a
action_step (t.Perform op as') = all as'
action_step (t.Copy p a) = p ++ a
action_step (t.Bind p s a) = p ++ a

abbrev pub arm_step : Layer Arm-F → Names
arm_step arm = all arm.units

-- those of a phrase
abbrev pub in_value : ValuePhrase → Names
in_value = fold-ValuePhrase Names Names Names Names Names Names action_step actual_step place_step value_step arm_step value_arm_step

abbrev pub in_place : PlacePhrase → Names
in_place = fold-PlacePhrase Names Names Names Names Names Names action_step actual_step place_step value_step arm_step value_arm_step

abbrev pub in_actual : Actual → Names
in_actual = fold-Actual Names Names Names Names Names Names action_step actual_step place_step value_step arm_step value_arm_step

abbrev pub in_action : Action → Names
in_action = fold-Action Names Names Names Names Names Names action_step actual_step place_step value_step arm_step value_arm_step

abbrev pub in_arm : Arm → Names
in_arm = fold-Arm Names Names Names Names Names Names action_step actual_step place_step value_step arm_step value_arm_step

abbrev pub in_value_arm : ValueArm → Names
in_value_arm = fold-ValueArm Names Names Names Names Names Names action_step actual_step place_step value_step arm_step value_arm_step

abbrev pub in_units : List Action → Names
in_units us = all (map in_action us)

-- those of what a body does
abbrev pub in_content : Content → Names
in_content (contents.Units us) = in_units us
in_content (contents.Value s a) = in_value a
