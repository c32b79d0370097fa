use Rattle.std.proofs.Common.{arith, refl}
use Rattle.eu_base.specs.declared.stop.Stop.TheVariants.{ManySpaces, SpaceNumbers}
use Rattle.space_calls.proofs.Plans.{too_many, no_number}
use Rattle.space_calls.proofs.refusals.room_refusal.Goals as goal

pub returns-then-count-ge-MOST_LIVE : goal.returns-then-count-ge-MOST_LIVE
returns-then-count-ge-MOST_LIVE g c =
    (ManySpaces, (too_many (g.M.Memory.heads c.args.m.now) (omega (arith, c.count.ensures, c.if-count-ge-MOST_LIVE.true)), refl))

pub returns-then-last_number-ge-LAST_NUMBER : goal.returns-then-last_number-ge-LAST_NUMBER
returns-then-last_number-ge-LAST_NUMBER g c = (
  SpaceNumbers,
  (
    no_number (g.M.Memory.heads c.args.m.now) (omega (arith, c.count.ensures, c.if-count-ge-MOST_LIVE.false))
        (omega (arith, c.last_number.ensures, c.if-last_number-ge-LAST_NUMBER.true)),
    refl,
  ),
)
