use Rattle.std.proofs.Common.{◌≡◌, rules, arith, drop, ◌+◌}
use Rattle.std.specs.Prelude.{Some}
use Rattle.std.proofs.lemmas.Grind.{common_steps}
use Rattle.elan_lexer.specs.declared.reading.Quote.TheVariants.{Code, Doubled}
use Rattle.elan_lexer.specs.Pieces.{quote}
use Rattle.elan_lexer.proofs.Turns.{denoter_code, denoter_doubled}
use Rattle.elan_lexer.proofs.reading.characters.Goals as goal

pub bytes-preserved-in-Code-Some-default : goal.bytes-preserved-in-Code-Some-default
bytes-preserved-in-Code-Some-default c =
    let k = c.in-Code-Some-default.c in
    let n = c.in-Code-Some-default.len in
    let q : quote (drop (c.bytes.i + 1) c.args.text.now) ≡ Code (Some k) n = first_of (search rules, grind (arith, common_steps)) in
    rw c.in_ok-push-in-Code-Some-default.ensures.items
    (denoter_code c.args.text.now c.bytes.i c.bytes-test.true c.bytes.found.items _ c.bytes.invariant k n c.if-b-eq34.true q)

pub bytes-preserved-in-Doubled : goal.bytes-preserved-in-Doubled
bytes-preserved-in-Doubled c =
    let q : quote (drop (c.bytes.i + 1) c.args.text.now) ≡ Doubled = first_of (search rules, grind (arith, common_steps)) in
    rw c.in_ok-push-in-Doubled.ensures.items
    (denoter_doubled c.args.text.now c.bytes.i c.bytes-test.true c.bytes.found.items _ c.bytes.invariant c.if-b-eq34.true q)
