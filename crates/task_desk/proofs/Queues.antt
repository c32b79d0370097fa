-- A channel where no line waits.
use Rattle.std.proofs.Common.{◌≡◌, ℕ, ◌-◌, List, [], ◌∷◌, drop, slice_get, None, refl, sym, ap, ◌∙◌, subst}
use Rattle.std.proofs.lemmas.List.{set-get_or}
use Rattle.terminals.specs.Channels.{Channel, unused, channel, with_channel, unqueued}
use Rattle.task_desk.specs.Desks.{Desk}

nothing_first : {A : Type 0} (xs : List A) → slice_get xs 0 ≡ None → xs ≡ []
nothing_first [] none = refl
nothing_first (x ∷ xs) none = cc

unqueued_none : (c : ℕ) (s : List Channel) → (channel c s).queue ≡ [] → unqueued c s ≡ s
unqueued_none c s none =
    ap (λ (queue : List (List ℕ)). with_channel c (record (channel c s) { queue = drop 1 queue }) s) none
    ∙ ap (λ (queue : List (List ℕ)). with_channel c (record (channel c s) { queue = queue }) s) (sym none)
    ∙ set-get_or s (c - 1) unused

pub none_taken : (c : ℕ) (inside now : Desk) (channels : List Channel) → inside ≡ now → channels ≡ unqueued c inside.channels
    → slice_get (channel c inside.channels).queue 0 ≡ None → ((channel c now.channels).queue ≡ []) × (record inside { channels = channels } ≡ now)
none_taken c inside now channels same set none =
    let empty = nothing_first (channel c inside.channels).queue none in (
      subst (λ (d : Desk). (channel c d.channels).queue ≡ []) same empty,
      ap (λ (s : List Channel). record inside { channels = s }) (set ∙ unqueued_none c inside.channels empty) ∙ same,
    )
