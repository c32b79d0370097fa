-- The layers, one after another.
use Rattle.std.proofs.Common.{◌≡◌, ℕ, Bool, true, false, ◌||◌, ◌&&◌, List, [], ◌∷◌, ◌++◌, map, Option, Some, None, refl, sym, ap, ◌∙◌, if◌then◌else◌}
use Rattle.std.specs.Prelude.{option_map, option_to_list, option_and_then}
use Rattle.std.specs.Option.{is_some, option_or}
use Rattle.std.specs.Str.{bytes_eq}
use Rattle.std.proofs.lemmas.Slice.Eq.{bytes_eq-Decides}
use Rattle.elan_names.specs.declared.interface.Inserted.{Inserted}
use Rattle.elan_names.specs.declared.heading.Sort.{Sort}
use Rattle.elan_names.specs.Predefined.{predefined}
use Rattle.elan_names.specs.Interfaces.{exports}
use Rattle.elan_names.proofs.Named.{called_named}
use Rattle.elan_scope.specs.declared.scope.Scope.{Scope}
use Rattle.elan_scope.specs.declared.scope.Within.{Within}
use Rattle.elan_scope.specs.Scope.{Callable, own_callables, predefined_callable, Layer, first, first_in, called_by, has_as_many, Found, found, find_in, find, from_inside}
use Rattle.elan_scope.specs.Scope.{are_many, layers, packet_layer, level_layer, routine_layer, predefined_layer}
use Rattle.elan_scope.specs.walks.Seen.{called_in, called_in_packet, called_in_packets, found_in_packets, found_around, found_within}

pub or_none : {A : Type 0} (o : Option A) → option_or o None ≡ o
or_none None = refl
or_none (Some x) = refl

or_or : {A : Type 0} (o p q : Option A) → option_or (option_or o p) q ≡ option_or o (option_or p q)
or_or None p q = refl
or_or (Some x) p q = refl

-- ---- what is found

-- what is found behind the first layer, where the last has nothing
behind : (x : List ℕ) (ls : List Layer) → first_in (λ m. from_inside (found x m)) (ls ++ predefined_layer ∷ []) ≡ first_in (λ m. from_inside (found x m)) ls
behind x [] = refl
behind x (l ∷ ls) = ap (option_or (from_inside (found x l))) (behind x ls)

around : (x : List ℕ) (s : Scope) (w : Option Within)
    → find_in x (option_to_list (option_map routine_layer w) ++ level_layer s ∷ (map packet_layer s.packets ++ predefined_layer ∷ []))
    ≡ option_or (found_around x w s) (found_in_packets x s.packets)
around x s None = ap (option_or (found x (level_layer s))) (behind x (map packet_layer s.packets))
around x s (Some w) =
    ap (λ (o : Option Found). option_or (found x (routine_layer w)) (option_or (from_inside (found x (level_layer s))) o)) (behind x (map packet_layer s.packets))
    ∙ sym (or_or (found x (routine_layer w)) (from_inside (found x (level_layer s))) (found_in_packets x s.packets))

pub found_as : (x : List ℕ) (s : Scope) → find s x ≡ option_or (found_within x s) (found_in_packets x s.packets)
found_as x s = around x s s.routine

-- ---- what is called

module _ (test : Callable → Bool) where
  abbrev pub own : Scope → Option Callable
  own s = first test (own_callables s.bodies_before s.headings)

  abbrev pub others : Option Callable
  others = first test (map predefined_callable predefined)

  -- what is called behind some layers
  behind_called : (ls : List Layer) → first_in (called_in test) (ls ++ predefined_layer ∷ []) ≡ option_or (first_in (called_in test) ls) others
  behind_called [] = or_none others
  behind_called (l ∷ ls) = ap (option_or (called_in test l)) (behind_called ls) ∙ sym (or_or (called_in test l) (first_in (called_in test) ls) others)

  in_layers : (s : Scope) (w : Option Within)
      → first_in (called_in test) (option_to_list (option_map routine_layer w) ++ level_layer s ∷ (map packet_layer s.packets ++ predefined_layer ∷ []))
      ≡ option_or (own s) (option_or (called_in_packets test s.packets) others)
  in_layers s None = ap (option_or (own s)) (behind_called (map packet_layer s.packets))
  in_layers s (Some w) = ap (option_or (own s)) (behind_called (map packet_layer s.packets))

  -- PROCs and OPs of the level first, then those of the packets, and then what is predefined
  pub called_as : (s : Scope) → called_by test s ≡ option_or (own s) (option_or (called_in_packets test s.packets) others)
  unfolding called_by
  called_as s = in_layers s s.routine

-- ---- of a packet

-- A test that passes only with a name finds it where the name can be seen.
module _ (test : Callable → Bool) (sees : List ℕ → Bool) (x : List ℕ) (named : (c : Callable) → test c ≡ true → bytes_eq c.name x ≡ true) where
  one : (c : Callable) → (sees c.name && test c) ≡ (sees x && test c)
  one c = by_test (test c) refl
    where
      none : (b : Bool) → (b && false) ≡ false
      none true = refl
      none false = refl

      by_test : (b : Bool) → test c ≡ b → (sees c.name && b) ≡ (sees x && b)
      by_test true e = ap (λ (y : List ℕ). sees y && true) ((bytes_eq-Decides c.name x).0 (named c e))
      by_test false e = none (sees c.name) ∙ sym (none (sees x))

  all_seen : (cs : List Callable) → first (λ c. true && test c) cs ≡ first test cs
  all_seen [] = refl
  all_seen (c ∷ cs) = ap (λ (o : Option Callable). if test c then Some c else o) (all_seen cs)

  none_seen : (cs : List Callable) → first (λ c. false && test c) cs ≡ None
  none_seen [] = refl
  none_seen (c ∷ cs) = none_seen cs

  same : (cs : List Callable) → first (λ c. sees c.name && test c) cs ≡ first (λ c. sees x && test c) cs
  same [] = refl
  same (c ∷ cs) =
      ap (λ (b : Bool). if b then Some c else first (λ d. sees d.name && test d) cs) (one c)
      ∙ ap (λ (o : Option Callable). if sees x && test c then Some c else o) (same cs)

  pub seen_first : (cs : List Callable) → first (λ c. sees c.name && test c) cs ≡ (if sees x then first test cs else None)
  seen_first cs = same cs ∙ by_test (sees x)
    where
      by_test : (b : Bool) → first (λ c. b && test c) cs ≡ (if b then first test cs else None)
      by_test true = all_seen cs
      by_test false = none_seen cs

-- ---- what can be called with so many operands, or with any number of them

seen_known : {A : Type 0} (o : Option A) (b : Bool) → is_some (if b then o else None) ≡ (is_some o && b)
seen_known None true = refl
seen_known None false = refl
seen_known (Some x) true = refl
seen_known (Some x) false = refl

pub packet_known : (sort : Sort) (x : List ℕ) (count : Option ℕ) (p : Inserted)
    → is_some (called_in_packet (has_as_many sort x count) p)
    ≡ (is_some (first (has_as_many sort x count) (own_callables p.bodies_before p.interface.headings)) && exports p.interface x)
packet_known sort x count p =
    ap is_some
    (seen_first (has_as_many sort x count) (exports p.interface) x (λ c. called_named sort x (are_many count c.parameters) c)
    (own_callables p.bodies_before p.interface.headings))
    ∙ seen_known (first (has_as_many sort x count) (own_callables p.bodies_before p.interface.headings)) (exports p.interface x)

some_or : {A : Type 0} (o q : Option A) → is_some (option_or o q) ≡ (is_some o || is_some q)
some_or None q = refl
some_or (Some x) q = refl

pub known_by : (s : Scope) (sort : Sort) (x : List ℕ) (count : Option ℕ) → is_some (called_by (has_as_many sort x count) s) ≡
    (is_some (own (has_as_many sort x count) s) || (is_some (called_in_packets (has_as_many sort x count) s.packets) || is_some (others (has_as_many sort x count))))
known_by s sort x count =
    let test = has_as_many sort x count in
    ap is_some (called_as test s) ∙ some_or (own test s) (option_or (called_in_packets test s.packets) (others test))
    ∙ ap (λ (b : Bool). is_some (own test s) || b) (some_or (called_in_packets test s.packets) (others test))
