-- The turns of a loop that reads steps.
use Rattle.std.proofs.Common.{◌≡◌, ℕ, suc, ◌+◌, ◌-◌, ◌<◌, ◌≤◌, true, false, Ok, refl, arith}
use Rattle.elan_grammar.specs.Rule.{Tokens, and_then, Rule, steps_run}

pub turn_on : {S : Type 0} (body : S → Rule S) (n at : ℕ) (s : S) (xs : Tokens) → at < n → (body s).starts xs ≡ true
    → steps_run body (n - at) s xs ≡ and_then ((body s).run xs) (steps_run body (n - (at + 1)))
turn_on body n at s xs lt h =
    let k : n - at ≡ suc (n - (at + 1)) = omega arith in
    rw (k, h) refl

pub turn_off : {S : Type 0} (body : S → Rule S) (n at : ℕ) (s : S) (xs : Tokens) → at < n → (body s).starts xs ≡ false
    → steps_run body (n - at) s xs ≡ Ok (s, xs)
turn_off body n at s xs lt h =
    let k : n - at ≡ suc (n - (at + 1)) = omega arith in
    rw (k, h) refl

pub turn_end : {S : Type 0} (body : S → Rule S) (n at : ℕ) (s : S) (xs : Tokens) → n ≤ at → steps_run body (n - at) s xs ≡ Ok (s, xs)
turn_end body n at s xs le =
    let k : n - at ≡ 0 = omega arith in
    rw k refl

pub ruleset turns = (turn_on, turn_off, turn_end)
