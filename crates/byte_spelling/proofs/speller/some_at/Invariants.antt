use Rattle.std.proofs.Common.{◌≡◌, ◌-◌}
use Rattle.byte_spelling.specs.Spelling.{items_at}
use Rattle.byte_spelling.proofs.Loop.{with_front}
use Rattle.byte_spelling.proofs.speller.some_at.Given as goal

abbrev pub invariant-loop : goal.invariant-loop
invariant-loop g l = with_front l.items (items_at g.S.Speller.spelling (l.count - l.counter) l.rest) ≡ items_at g.S.Speller.spelling l.count l.from
