-- The four channels are those of the rows.
use Rattle.std.proofs.Common.{◌≡◌, [], ◌∷◌, List, length, get_or, map, sym, ap, subst, ◌∙◌}
use Rattle.std.proofs.lemmas.List.{length-map}
use Rattle.terminals.specs.Channels.{Channel, unused}
use Rattle.terminals.specs.Couplings.{IsOneToOne}
use Rattle.terminals.specs.Rows.{channel_of}
use Rattle.terminals.proofs.Rows.{all_apart, four_of, one_to_one}
use Rattle.terminals.proofs.terminals.Terminals.of.Goals as goal
use Rattle.terminals.proofs.terminals.Terminals.of.Goals.{then-rows-ne-CHANNELS-via-then-rows-ne-CHANNELS, then-rows-ne-CHANNELS-via-else-rows-ne-CHANNELS+then-not-are_apart}

pub returns-then-rows-ne-CHANNELS-clause-refused : goal.returns-then-rows-ne-CHANNELS-clause-refused
returns-then-rows-ne-CHANNELS-clause-refused c = λ cause are.
    elim c.then-rows-ne-CHANNELS.branch [
      | then-rows-ne-CHANNELS-via-then-rows-ne-CHANNELS w ↦ w.if-rows-ne-CHANNELS.true (sym (length-map c.args.rows.now channel_of) ∙ are.four)
      | then-rows-ne-CHANNELS-via-else-rows-ne-CHANNELS+then-not-are_apart w ↦ w.are_apart.ensures.some w.if-not-are_apart.true (all_apart c.args.rows.now are.one)
    ]

-- four channels that are those of a list of four are the list
are_four : (cs : List Channel) (first second third fourth : Channel) → length cs ≡ 4 → first ≡ get_or cs 0 unused → second ≡ get_or cs 1 unused → third ≡ get_or cs 2 unused
    → fourth ≡ get_or cs 3 unused → first ∷ (second ∷ (third ∷ (fourth ∷ []))) ≡ cs
are_four cs first second third fourth four a b c d =
    ap (λ x. x ∷ (second ∷ (third ∷ (fourth ∷ [])))) a ∙ ap (λ x. get_or cs 0 unused ∷ (x ∷ (third ∷ (fourth ∷ [])))) b
    ∙ ap (λ x. get_or cs 0 unused ∷ (get_or cs 1 unused ∷ (x ∷ (fourth ∷ [])))) c
    ∙ ap (λ x. get_or cs 0 unused ∷ (get_or cs 1 unused ∷ (get_or cs 2 unused ∷ (x ∷ [])))) d ∙ sym (four_of cs four)

pub returns-clause-rows : goal.returns-clause-rows
returns-clause-rows c =
    are_four (map channel_of c.args.rows.now) _ _ _ _ (length-map c.args.rows.now channel_of ∙ c.if-rows-ne-CHANNELS.false)
    c.in-Ok.ensures.channel c.in-Ok-channel_at.ensures.channel c.in-Ok-channel_at-2.ensures.channel c.in-Ok-channel_at-3.ensures.channel

pub invariant_of-result : goal.invariant_of-result
invariant_of-result c =
    subst IsOneToOne (sym (are_four (map channel_of c.args.rows.now) _ _ _ _ (length-map c.args.rows.now channel_of ∙ c.if-rows-ne-CHANNELS.false)
    c.in-Ok.ensures.channel c.in-Ok-channel_at.ensures.channel c.in-Ok-channel_at-2.ensures.channel c.in-Ok-channel_at-3.ensures.channel))
    (one_to_one c.args.rows.now (c.are_apart.ensures.all c.if-not-are_apart.false))
