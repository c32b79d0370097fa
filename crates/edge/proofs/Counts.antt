-- How calls are counted.
use Rattle.std.proofs.Common.{◌≡◌, ℕ, zero, suc, ◌+◌, ◌≤◌, refl, ◌∙◌, ap, arith}
use Rattle.eu_base.specs.Faults.{next_count}
use Rattle.edge.specs.Disk.{DiskState}
use Rattle.edge.specs.Moments.{counted, HasMade, HasMadeAtMost}

pub counted_more : (a b count : ℕ) → counted b (counted a count) ≡ counted (a + b) count
counted_more a zero count = let same : a ≡ a + 0 = omega arith in ap (λ (n : ℕ). counted n count) same
counted_more a (suc b) count =
    let same : suc (a + b) ≡ a + suc b = omega arith in
    ap next_count (counted_more a b count) ∙ ap (λ (n : ℕ). counted n count) same

pub made_none : (s : DiskState) → HasMade 0 0 0 s s
made_none s = record { reads = refl; writes = refl; syncs = refl }

pub made_more : (r w y r2 w2 y2 : ℕ) (s t u : DiskState) → HasMade r w y s t → HasMade r2 w2 y2 t u → HasMade (r + r2) (w + w2) (y + y2) s u
made_more r w y r2 w2 y2 s t u first second = record {
  reads = second.reads ∙ ap (counted r2) first.reads ∙ counted_more r r2 s.reads;
  writes = second.writes ∙ ap (counted w2) first.writes ∙ counted_more w w2 s.writes;
  syncs = second.syncs ∙ ap (counted y2) first.syncs ∙ counted_more y y2 s.syncs;
}

pub at_most : (r w y : ℕ) (s t : DiskState) → HasMade r w y s t → HasMadeAtMost r w y s t
at_most r w y s t made = record { reads = r; writes = w; syncs = y; few_reads = omega arith; few_writes = omega arith; few_syncs = omega arith; made = made }

pub at_most_more : (r w y r2 w2 y2 : ℕ) (s t u : DiskState) → HasMadeAtMost r w y s t → HasMadeAtMost r2 w2 y2 t u
    → HasMadeAtMost (r + r2) (w + w2) (y + y2) s u
at_most_more r w y r2 w2 y2 s t u first second = record {
  reads = first.reads + second.reads;
  writes = first.writes + second.writes;
  syncs = first.syncs + second.syncs;
  few_reads = omega (arith, first.few_reads, second.few_reads);
  few_writes = omega (arith, first.few_writes, second.few_writes);
  few_syncs = omega (arith, first.few_syncs, second.few_syncs);
  made = made_more first.reads first.writes first.syncs second.reads second.writes second.syncs s t u first.made second.made;
}

pub at_most_of : (r w y r2 w2 y2 : ℕ) (s t : DiskState) → r ≤ r2 → w ≤ w2 → y ≤ y2 → HasMadeAtMost r w y s t → HasMadeAtMost r2 w2 y2 s t
at_most_of r w y r2 w2 y2 s t reads writes syncs made = record {
  reads = made.reads;
  writes = made.writes;
  syncs = made.syncs;
  few_reads = omega (arith, made.few_reads, reads);
  few_writes = omega (arith, made.few_writes, writes);
  few_syncs = omega (arith, made.few_syncs, syncs);
  made = made.made;
}
