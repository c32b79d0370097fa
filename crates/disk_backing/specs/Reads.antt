-- A disk that was read and nothing else.
use Rattle.std.specs.Prelude.{◌≡◌, ℕ, zero, suc, List, Option, None, Some, refl}
use Rattle.std.proofs.Common.{◌∙◌, ◌+◌, ap, sym, subst, inl, inr, arith, ◌⊎◌, ◌≤◌}
use Rattle.std.specs.Option.{option_map}
use Rattle.edge.specs.declared.disk.Disk as disk
use Rattle.edge.specs.Disk.{Blocks, DiskState, MayLeave, Elapses, after_read}
use Rattle.edge.specs.Moments.{Leaves, counted}
use Rattle.eu_base.specs.Faults.{next_count}

-- so many reads more
abbrev pub after_reads : ℕ → DiskState → DiskState
after_reads n s = record s { reads = counted n s.reads }

-- the bytes of its blocks, where it tells them
abbrev pub told_by : Option DiskState → Option Blocks
told_by state = option_map (λ (s : DiskState). s.content) state

pub told_same : (n : ℕ) (old new : Option DiskState) → new ≡ option_map (after_reads n) old → told_by new ≡ told_by old
told_same n None new is = ap told_by is
told_same n (Some s) new is = ap told_by is

pub leaves_same : (n : ℕ) (old new : Option DiskState) (image : Blocks) → new ≡ option_map (after_reads n) old → MayLeave new image → MayLeave old image
leaves_same n None new image is may = record {}
leaves_same n (Some s) new image is may = subst (λ (o : Option DiskState). MayLeave o image) is may

reads_more : (n m : ℕ) (count : ℕ) → counted m (counted n count) ≡ counted (m + n) count
reads_more n zero count = ap (λ (k : ℕ). counted k count) (omega arith)
reads_more n (suc m) count = ap next_count (reads_more n m count) ∙ ap (λ (k : ℕ). counted k count) (add_suc m n)
  where
    add_suc : (m n : ℕ) → suc (m + n) ≡ suc m + n
    add_suc m n = omega arith

states_then : (n m : ℕ) (a b c : Option DiskState) → b ≡ option_map (after_reads n) a → c ≡ option_map (after_reads m) b → c ≡ option_map (after_reads (m + n)) a
states_then n m None b c f g = g ∙ ap (option_map (after_reads m)) f
states_then n m (Some s) b c f g = g ∙ ap (option_map (after_reads m)) f ∙ ap (λ (k : ℕ). Some (record s { reads = k })) (reads_more n m s.reads)

states_none : (a : Option DiskState) → a ≡ option_map (after_reads 0) a
states_none None = refl
states_none (Some s) = refl

module _ {D : Type 0} (g : disk.Ghosts D) where
  -- it was read and nothing else, and at each moment in between a crash leaves what it leaves at first
  pub record OnlyReads (old new : D) : Type 0 where
    pub reads : ℕ
    pub state : g.state new ≡ option_map (after_reads reads) (g.state old)
    pub leaves : Leaves g.moment g.left_since old new (MayLeave (g.state old))
    pub faults : g.faults old ≤ g.faults new

  pub reads_none : (d : D) → OnlyReads d d
  reads_none d = record { reads = 0; state = states_none (g.state d); leaves = record { later = omega arith; before = λ t image low left. inl left }; faults = omega arith }

  pub reads_then : (a b c : D) → OnlyReads a b → OnlyReads b c → OnlyReads a c
  reads_then a b c f h = record {
    reads = h.reads + f.reads;
    state = states_then f.reads h.reads (g.state a) (g.state b) (g.state c) f.state h.state;
    leaves = record {
      later = omega (arith, f.leaves.later, h.leaves.later);
      before = λ t image low left. elim (h.leaves.before t image (omega (arith, low, f.leaves.later)) left) [
        | inl still ↦ f.leaves.before t image low still
        | inr may ↦ inr (leaves_same f.reads (g.state a) (g.state b) image f.state may)
      ];
    };
    faults = omega (arith, f.faults, h.faults);
  }

  pub reads_told : (old new : D) → OnlyReads old new → told_by (g.state new) ≡ told_by (g.state old)
  reads_told old new f = told_same f.reads (g.state old) (g.state new) f.state

  -- a read, also one that failed
  pub one_read : (old new : D) → g.state new ≡ option_map after_read (g.state old)
      → Elapses (g.moment old) (g.moment new) (g.left_since old) (g.left_since new) (MayLeave (g.state new)) → g.faults old ≤ g.faults new → OnlyReads old new
  one_read old new state time faults = record {
    reads = 1;
    state = state;
    leaves = record {
      later = time.later;
      before = λ t image low left. elim (time.nothing_else t image low left) [
        | inl still ↦ inl still
        | inr may ↦ inr (leaves_same 1 (g.state old) (g.state new) image state may)
      ];
    };
    faults = faults;
  }
