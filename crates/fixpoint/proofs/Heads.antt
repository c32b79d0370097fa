-- A block spells one head at most, and a disk has one slot at most that is taken.
use Rattle.std.proofs.Common.{◌≡◌, ℕ, zero, suc, ◌+◌, ◌≤◌, ◌<◌, true, false, inl, inr, List, [], ◌∷◌, get_or, sym, ◌∙◌, ap, arith, refl}
use Rattle.std.specs.Int.{w32, from_le_bytes}
use Rattle.std.proofs.lemmas.Nat.{from_le_bytes-to_le_bytes_4}
use Rattle.std.proofs.lemmas.Bool.Decides.{nat_tests}
use Rattle.edge.specs.Disk.{Blocks}
use Rattle.fixpoint.specs.Slots.{is_open, head_of, next_of, IsHead, IsTaken, HasEqualSequences, IsForeign}

-- the sequence and the root that stand in a block
abbrev pub sequence_in : List ℕ → ℕ
sequence_in block = get_or block 9 0

abbrev pub root_in : List ℕ → ℕ
root_in block = from_le_bytes w32 (get_or block 10 0 ∷ get_or block 11 0 ∷ get_or block 12 0 ∷ get_or block 13 0 ∷ [])

pub sequence_is : (block : List ℕ) (sequence root : ℕ) → IsHead block sequence root → sequence_in block ≡ sequence
sequence_is block sequence root head = ap (λ (l : List ℕ). get_or l 9 0) head.bytes

pub root_is : (block : List ℕ) (sequence root : ℕ) → IsHead block sequence root → root_in block ≡ root
root_is block sequence root head = ap root_in head.bytes ∙ from_le_bytes-to_le_bytes_4 root (omega (arith, head.root_high))

pub spells_itself : (block : List ℕ) (sequence root : ℕ) → IsHead block sequence root → block ≡ head_of (sequence_in block) (root_in block)
spells_itself block sequence root head = head.bytes ∙ (λ i. head_of (sym (sequence_is block sequence root head) i) (sym (root_is block sequence root head) i))

one_sequence : (block : List ℕ) (sequence root sequence2 root2 : ℕ) → IsHead block sequence root → IsHead block sequence2 root2 → sequence ≡ sequence2
one_sequence block sequence root sequence2 root2 a b = sym (sequence_is block sequence root a) ∙ sequence_is block sequence2 root2 b

-- of two sequences one alone comes right after the other
not_around : (a b : ℕ) → 1 ≤ a → a ≤ 3 → 1 ≤ b → b ≤ 3 → a ≡ next_of b → b ≡ next_of a → ⊥
not_around a b low high low2 high2 first second = grind (arith, nat_tests)

not_itself : (a : ℕ) → 1 ≤ a → a ≤ 3 → a ≡ next_of a → ⊥
not_itself a low high same = grind (arith, nat_tests)

not_both : (content : Blocks) (sequence root sequence2 root2 : ℕ) → IsTaken content 0 sequence root → IsTaken content 1 sequence2 root2 → ⊥
not_both content sequence root sequence2 root2 t u =
    let a = t.other u.open_gate in
    let b = u.other t.open_gate in
    let same_a : a.old_sequence ≡ sequence2 = one_sequence (content 3) a.old_sequence a.old_root sequence2 root2 a.head u.head in
    let same_b : b.old_sequence ≡ sequence = one_sequence (content 2) b.old_sequence b.old_root sequence root b.head t.head in
    not_around sequence sequence2 t.head.sequence_low t.head.sequence_high u.head.sequence_low u.head.sequence_high (a.older ∙ ap next_of same_a)
    (b.older ∙ ap next_of same_b)

same_head : (content : Blocks) (slot sequence root sequence2 root2 : ℕ) → IsTaken content slot sequence root → IsTaken content slot sequence2 root2
    → (sequence ≡ sequence2) × (root ≡ root2)
same_head content slot sequence root sequence2 root2 t u = (
  one_sequence (content (2 + slot)) sequence root sequence2 root2 t.head u.head,
  sym (root_is (content (2 + slot)) sequence root t.head) ∙ root_is (content (2 + slot)) sequence2 root2 u.head,
)

-- one slot, sequence and root are taken
pub one_taken : (content : Blocks) (slot sequence root slot2 sequence2 root2 : ℕ) → IsTaken content slot sequence root → IsTaken content slot2 sequence2 root2
    → (slot ≡ slot2) × (sequence ≡ sequence2) × (root ≡ root2)
one_taken content zero sequence root zero sequence2 root2 t u = let same = same_head content 0 sequence root sequence2 root2 t u in (refl, same.0, same.1)
one_taken content (suc zero) sequence root (suc zero) sequence2 root2 t u =
    let same = same_head content 1 sequence root sequence2 root2 t u in (refl, same.0, same.1)
one_taken content zero sequence root (suc zero) sequence2 root2 t u = absurd (not_both content sequence root sequence2 root2 t u)
one_taken content (suc zero) sequence root zero sequence2 root2 t u = absurd (not_both content sequence2 root2 sequence root u t)
one_taken content (suc (suc n)) sequence root slot2 sequence2 root2 t u = absurd (omega (arith, t.number))
one_taken content zero sequence root (suc (suc n)) sequence2 root2 t u = absurd (omega (arith, u.number))
one_taken content (suc zero) sequence root (suc (suc n)) sequence2 root2 t u = absurd (omega (arith, u.number))

-- an open gate with no head behind it
bad_head : (content : Blocks) (bad slot sequence root : ℕ) → bad < 2 → is_open content bad ≡ true
    → ((sequence root : ℕ) → ¬ (IsHead (content (2 + bad)) sequence root))
    → IsTaken content slot sequence root → ⊥
bad_head content zero zero sequence root number is none t = none sequence root t.head
bad_head content zero (suc zero) sequence root number is none t = let older = t.other is in none older.old_sequence older.old_root older.head
bad_head content (suc zero) zero sequence root number is none t = let older = t.other is in none older.old_sequence older.old_root older.head
bad_head content (suc zero) (suc zero) sequence root number is none t = none sequence root t.head
bad_head content (suc (suc n)) slot sequence root number is none t = absurd (omega (arith, number))
bad_head content zero (suc (suc n)) sequence root number is none t = absurd (omega (arith, t.number))
bad_head content (suc zero) (suc (suc n)) sequence root number is none t = absurd (omega (arith, t.number))

equal : (content : Blocks) → HasEqualSequences content → (slot sequence root : ℕ) → IsTaken content slot sequence root → ⊥
equal content both zero sequence root t =
    let older = t.other both.second_gate in
    let a : older.old_sequence ≡ both.sequence =
    one_sequence (content 3) older.old_sequence older.old_root both.sequence both.second_root older.head both.second_head in
    let b : both.sequence ≡ sequence = one_sequence (content 2) both.sequence both.first_root sequence root both.first_head t.head in
    not_itself sequence t.head.sequence_low t.head.sequence_high (older.older ∙ ap next_of (a ∙ b))
equal content both (suc zero) sequence root t =
    let older = t.other both.first_gate in
    let a : older.old_sequence ≡ both.sequence =
    one_sequence (content 2) older.old_sequence older.old_root both.sequence both.first_root older.head both.first_head in
    let b : both.sequence ≡ sequence = one_sequence (content 3) both.sequence both.second_root sequence root both.second_head t.head in
    not_itself sequence t.head.sequence_low t.head.sequence_high (older.older ∙ ap next_of (a ∙ b))
equal content both (suc (suc n)) sequence root t = absurd (omega (arith, t.number))

both_closed : (content : Blocks) (slot sequence root : ℕ) → is_open content 0 ≡ false → is_open content 1 ≡ false → IsTaken content slot sequence root → ⊥
both_closed content zero sequence root first second t = let is = t.open_gate in absurd (cc)
both_closed content (suc zero) sequence root first second t = let is = t.open_gate in absurd (cc)
both_closed content (suc (suc n)) sequence root first second t = absurd (omega (arith, t.number))

-- no slot of a foreign content can be taken
pub foreign_none : (content : Blocks) → IsForeign content → (slot sequence root : ℕ) → IsTaken content slot sequence root → ⊥
foreign_none content (inl closed) slot sequence root t = both_closed content slot sequence root closed.0 closed.1 t
foreign_none content (inr (inl bad)) slot sequence root t = bad_head content bad.slot slot sequence root bad.number bad.open_gate bad.none t
foreign_none content (inr (inr both)) slot sequence root t = equal content both slot sequence root t
