-- Lines that wait at channels.
use Rattle.std.proofs.Common.{◌≡◌, ℕ, ◌-◌, List, [], ◌∷◌, drop, Option, Some, None, refl, sym, ap, ◌∙◌, subst}
use Rattle.std.specs.Prelude.{slice_get, slice_set, option_map}
use Rattle.std.proofs.lemmas.List.{set-get_or}
use Rattle.eu_base.specs.declared.request.Reply.TheVariants.{Text}
use Rattle.eu_base.specs.Requests.{plain}
use Rattle.task_requests.specs.Below.terminals.specs.Channels.{Channel, channel, without_line, unqueued, unused}
use Rattle.task_requests.specs.Below.system_meaning.specs.Systems.{Moment, on_system, on_channels}
use Rattle.task_requests.specs.Below.system_meaning.specs.Serving.{line_taken}
use Rattle.live_system.specs.Machines.{Machine, StandsAt}
use Rattle.task_requests.specs.Served.{ServedAs}

-- where no line waits, nothing is taken
nothing_taken : (c : Channel) → c.queue ≡ [] → without_line c ≡ c
nothing_taken c none = ap (λ (q : List (List ℕ)). record c { queue = q }) (ap (drop 1) none ∙ sym none)

unqueued_none : (c : ℕ) (s : List Channel) → (channel c s).queue ≡ [] → unqueued c s ≡ s
unqueued_none c s none = ap (slice_set s (c - 1)) (nothing_taken (channel c s) none) ∙ set-get_or s (c - 1) unused

pub line_given : (new : Machine) (c : ℕ) (m : Moment) (line : List ℕ) → Some line ≡ slice_get (channel c m.system.shared.channels).queue 0
    → StandsAt new (on_system (on_channels (unqueued c)) m)
    → ServedAs (line_taken (channel c m.system.shared.channels).queue c m) new (Some (Text line))
line_given new c m line is h = by (channel c m.system.shared.channels).queue is
  where
    by : (q : List (List ℕ)) → Some line ≡ slice_get q 0 → ServedAs (line_taken q c m) new (Some (Text line))
    by [] e = absurd (cc e)
    by (first ∷ rest) e = (ap (λ (o : Option (List ℕ)). option_map (λ (l : List ℕ). plain (Text l)) o) e, h)

pub none_given : (new : Machine) (c : ℕ) (m : Moment) → None ≡ slice_get (channel c m.system.shared.channels).queue 0
    → StandsAt new (on_system (on_channels (unqueued c)) m)
    → ServedAs (line_taken (channel c m.system.shared.channels).queue c m) new None
none_given new c m is h = by (channel c m.system.shared.channels).queue refl is
  where
    by : (q : List (List ℕ)) → (channel c m.system.shared.channels).queue ≡ q → None ≡ slice_get q 0 → ServedAs (line_taken q c m) new None
    by [] empty e = (refl, subst (λ (s : List Channel). StandsAt new (on_system (on_channels (λ _. s)) m)) (unqueued_none c m.system.shared.channels empty) h)
    by (first ∷ rest) some e = absurd (cc e)
