-- A run of one block.
use Rattle.std.proofs.Common.{◌≡◌, ℕ, ◌/◌, List, length, Option, sym, ◌∙◌, ap, arith, add-zero}
use Rattle.std.specs.Option.{option_map}
use Rattle.std.proofs.lemmas.List.{take_all}
use Rattle.edge.specs.Disk.{Blocks, DiskState, after_write}
use Rattle.block_disk.specs.Runs.{blocks_in, block_of, IsInRun, HoldsRun, after_writes}

pub one_block : (bytes : List ℕ) → length bytes ≡ 512 → blocks_in bytes ≡ 1
one_block bytes long = ap (λ (n : ℕ). n / 512) long

pub whole_block : (bytes : List ℕ) → length bytes ≡ 512 → block_of 0 bytes ≡ bytes
whole_block bytes long = take_all 512 bytes (omega (arith, long))

pub wrote_one : (at : ℕ) (bytes : List ℕ) (old new : Option DiskState) → length bytes ≡ 512 → new ≡ option_map (after_writes (blocks_in bytes) at bytes) old
    → new ≡ option_map (after_write at bytes) old
wrote_one at bytes old new long is =
    is ∙ ap (λ (n : ℕ). option_map (after_writes n at bytes) old) (one_block bytes long)
    ∙ (λ i. option_map (after_write (add-zero at i) (whole_block bytes long i)) old)

pub run_of_one : (at : ℕ) (bytes : List ℕ) (block : ℕ) → length bytes ≡ 512 → IsInRun at (blocks_in bytes) block → block ≡ at
run_of_one at bytes block long there = let one = one_block bytes long in omega (arith, one, there.1, there.2)

pub held_one : (content : Blocks) (at count : ℕ) (bytes : List ℕ) → length bytes ≡ 512 → count ≡ 1 → HoldsRun content at count bytes → bytes ≡ content at
held_one content at count bytes long one held = sym (ap content (sym (add-zero at)) ∙ held 0 (omega (arith, one)) ∙ whole_block bytes long)
