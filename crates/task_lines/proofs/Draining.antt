-- Lines that wait are taken one by one.
use Rattle.std.proofs.Common.{◌≡◌, ℕ, suc, ◌-◌, Bool, true, false, List, [], ◌∷◌, Option, Some, None, refl, sym, ap, ◌∙◌, subst}
use Rattle.std.specs.Prelude.{slice_get, if◌then◌else◌}
use Rattle.std.proofs.lemmas.List.{set-get_or}
use Rattle.task_numbers.specs.declared.number.TaskNo.{TaskNo}
use Rattle.task_lines.specs.Below.elan_scope.specs.declared.env.Env.{Env}
use Rattle.terminals.specs.Channels.{Channel, unused, channel, with_channel, without_line, unqueued, channel_of}
use Rattle.task_lines.specs.Below.system_meaning.specs.Systems.{Moment, runs, on_system, on_channels}
use Rattle.task_lines.specs.Below.system_meaning.specs.Monitor.{Reading, taken, oldest_taken, drained_at, drained_in}
use Rattle.live_system.specs.Machines.{Machine, StandsAt}
use Rattle.task_lines.specs.Queues.{one_taken, Follows}

-- ---- a line that waits at a channel, or none

same_channel : (x : Channel) → x.queue ≡ [] → without_line x ≡ x
same_channel x e = ap (λ (q : List (List ℕ)). without_line (record x { queue = q })) e ∙ sym (ap (λ (q : List (List ℕ)). record x { queue = q }) e)

pub unqueued_empty : (c : ℕ) (s : List Channel) → (channel c s).queue ≡ [] → unqueued c s ≡ s
unqueued_empty c s e = ap (λ (x : Channel). with_channel c x s) (same_channel (channel c s) e) ∙ set-get_or s (c - 1) unused

first_none : (q : List (List ℕ)) → slice_get q 0 ≡ None → q ≡ []
first_none [] e = refl
first_none (line ∷ rest) e = absurd (cc e)

module _ (read : Env → Bool → List ℕ → Reading) (t : TaskNo) (c : ℕ) (m : Moment) (new : Machine) where
  by_none : (q : List (List ℕ)) → q ≡ [] → StandsAt new m → Follows false new (λ more. oldest_taken read q c t more m) m
  by_none q e h = (h, λ more. ap (λ (q : List (List ℕ)). oldest_taken read q c t more m) e)

  pub none_waits : None ≡ slice_get (channel c m.system.shared.channels).queue 0 → StandsAt new (on_system (on_channels (unqueued c)) m) →
      Follows false new (λ more. oldest_taken read (channel c m.system.shared.channels).queue c t more m) m
  none_waits none h =
      let empty = first_none (channel c m.system.shared.channels).queue (sym none) in
      by_none (channel c m.system.shared.channels).queue empty
      (subst (λ (s : List Channel). StandsAt new (on_system (on_channels (λ _. s)) m)) (unqueued_empty c m.system.shared.channels empty) h)

  by_some : (line : List ℕ) (q : List (List ℕ)) → Some line ≡ slice_get q 0 → StandsAt new (taken read t line (on_system (on_channels (unqueued c)) m)) →
      Follows true new (λ more. oldest_taken read q c t more m) m
  by_some line [] e h = absurd (cc e)
  by_some line (first ∷ rest) e h =
      let same : line ≡ first = cc e in (
        taken read t first (on_system (on_channels (unqueued c)) m),
        subst (λ (x : List ℕ). StandsAt new (taken read t x (on_system (on_channels (unqueued c)) m))) same h,
        λ more. refl,
      )

  pub one_waits : (line : List ℕ) → Some line ≡ slice_get (channel c m.system.shared.channels).queue 0 →
      StandsAt new (taken read t line (on_system (on_channels (unqueued c)) m)) →
      Follows true new (λ more. oldest_taken read (channel c m.system.shared.channels).queue c t more m) m
  one_waits line some h = by_some line (channel c m.system.shared.channels).queue some h

-- ---- a task that runs, has no channel, or has one

module _ (read : Env → Bool → List ℕ → Reading) (t : TaskNo) (m : Moment) (new : Machine) where
  abbrev one_by : Bool → Option ℕ → (Moment → Moment) → Moment
  one_by b o more = if b then m else drained_at read o t more m

  pub one_runs : true ≡ runs t m.system → StandsAt new m → Follows false new (one_taken read t m) m
  one_runs e h = by (runs t m.system) e
    where
      by : (b : Bool) → true ≡ b → Follows false new (one_by b (channel_of t m.system.shared.channels)) m
      by true e = (h, λ more. refl)
      by false e = absurd (cc e)

  pub one_apart : false ≡ runs t m.system → None ≡ channel_of t m.system.shared.channels → StandsAt new m → Follows false new (one_taken read t m) m
  one_apart still none h = by (runs t m.system) (channel_of t m.system.shared.channels) still none
    where
      by : (b : Bool) (o : Option ℕ) → false ≡ b → None ≡ o → Follows false new (one_by b o) m
      by true o e none = absurd (cc e)
      by false None e none = (h, λ more. refl)
      by false (Some c) e none = absurd (cc none)

  pub one_at : (took : Bool) (c : ℕ) → false ≡ runs t m.system → Some c ≡ channel_of t m.system.shared.channels →
      Follows took new (λ more. oldest_taken read (channel c m.system.shared.channels).queue c t more m) m → Follows took new (one_taken read t m) m
  one_at took c still some f =
      subst (λ b. Follows took new (one_by b (channel_of t m.system.shared.channels)) m) still
      (subst (λ o. Follows took new (one_by false o) m) some f)

-- ---- one after another

-- in the course of the lines: what comes in the end is what is still to come from here
pub record Midway (read : Env → Bool → List ℕ → Reading) (system : Machine) (t : TaskNo) (n : ℕ) (last : Moment) : Type 0 where
  pub moment : Moment
  pub stands : StandsAt system moment
  pub rest : last ≡ drained_in read n t moment

module _ (read : Env → Bool → List ℕ → Reading) (t : TaskNo) where
  pub midway_first : (system : Machine) (n most : ℕ) (m : Moment) → n ≡ most → StandsAt system m → Midway read system t n (drained_in read most t m)
  midway_first system n most m all h = record { moment = m; stands = h; rest = ap (λ k. drained_in read k t m) (sym all) }

  pub midway_last : (system : Machine) (n : ℕ) (last : Moment) → n ≡ 0 → Midway read system t n last → StandsAt system last
  midway_last system n last none mid =
      subst (λ m. StandsAt system m) (sym (mid.rest ∙ ap (λ k. drained_in read k t mid.moment) none)) mid.stands

  module _ (old new : Machine) (n n' : ℕ) (last : Moment) (more : n ≡ suc n') (mid : Midway read old t n last) where
    comes : last ≡ one_taken read t mid.moment (drained_in read n' t)
    comes = mid.rest ∙ ap (λ k. drained_in read k t mid.moment) more

    -- no line was taken, and that is all
    pub stops : ((m : Moment) → StandsAt old m → Follows false new (one_taken read t m) m) → StandsAt new last
    stops f =
        let next = f mid.moment mid.stands in
        subst (λ m. StandsAt new m) (sym (comes ∙ next.1 (drained_in read n' t))) next.0

    pub goes_on : ((m : Moment) → StandsAt old m → Follows true new (one_taken read t m) m) → Midway read new t n' last
    goes_on f =
        let next = f mid.moment mid.stands in
        record { moment = next.0; stands = next.1; rest = comes ∙ next.2 (drained_in read n' t) }
