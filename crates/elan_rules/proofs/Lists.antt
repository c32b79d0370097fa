-- One more part of a list.
use Rattle.std.proofs.Common.{◌≡◌, List, [], ◌∷◌, ◌++◌, refl, ap, sym, ◌∙◌, append_assoc}
use Rattle.std.proofs.lemmas.List.{append-nil}
use Rattle.elan_meant.specs.declared.meant.Meant.{Meant}
use Rattle.elan_meant.specs.Parts.{actions, actions_of}
use Rattle.elan_rules.specs.Units.{last_value, or_last, bodies_in, bodies_of}

pub actions_push : (ms : List Meant) (m : Meant) → actions_of (ms ++ m ∷ []) ≡ actions_of ms ++ actions m
actions_push [] m = append-nil (actions m)
actions_push (n ∷ ms) m = ap (λ l. actions n ++ l) (actions_push ms m) ∙ sym (append_assoc (actions n) (actions_of ms) (actions m))

pub last_push : (n : Meant) (ms : List Meant) (m : Meant) → last_value n (ms ++ m ∷ []) ≡ or_last (last_value n ms) m
last_push n [] m = refl
last_push n (k ∷ ms) m = last_push (or_last n k) ms m

pub bodies_push : (ms : List Meant) (m : Meant) → bodies_of (ms ++ m ∷ []) ≡ bodies_of ms ++ bodies_in m
bodies_push [] m = append-nil (bodies_in m)
bodies_push (n ∷ ms) m = ap (λ l. bodies_in n ++ l) (bodies_push ms m) ∙ sym (append_assoc (bodies_in n) (bodies_of ms) (bodies_in m))
