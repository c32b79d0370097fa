use Rattle.std.proofs.Common.{◌≡◌, Bool, List, length, None, not, arith}
use Rattle.std.specs.List.{position, position_or_len}
use Rattle.std.proofs.lemmas.Grind.{common_steps}
use Rattle.std.proofs.lemmas.List.Sums.{prefix_len-le-length}
use Rattle.message_wait.specs.Rendezvous as spec
use Rattle.message_wait.proofs.waits.Waits.place_of.Goals as goal

-- where nothing passes, the first place that does is the length
none_passes : {X : Type 0} (p : X → Bool) (xs : List X) → position p xs ≡ None → position_or_len p xs ≡ length xs
none_passes p xs none = let most = prefix_len-le-length (λ x. not (p x)) xs in grind (arith, common_steps, most, none)

pub returns-in-None-clause-place : goal.returns-in-None-clause-place
returns-in-None-clause-place c =
    let all = none_passes (spec.is_after c.args.task) c.args.self.now.receivers in
    grind (arith, all, c.in-None.ensures, c.self.view_is, c.len.ensures)
