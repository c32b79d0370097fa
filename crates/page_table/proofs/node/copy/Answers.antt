use Rattle.page_pool.proofs.Shows.{known_again, homes_adds}
use Rattle.page_table.proofs.Common.{◌≡◌, ◌≤◌, ℕ, List, [], ◌∷◌, Option, Some, None, inl, inr, refl, sym, ◌∙◌, ap, subst, arith, count_of, home_of, cases_eq, none-some}
use Rattle.page_table.proofs.Common.{same_Some, Stays, Known, Tell, Shown, bytes_of, table, shown_of, one_same, entries_of, entries_in, book_of, occ, nothing, names, heirs, Holds, Takes}
use Rattle.page_table.proofs.Copies.{added, added_other, takes, zeros_copy, node_copy}
use Rattle.page_table.proofs.Counting.{names_none, heirs_none, zeros_occ}
use Rattle.page_table.proofs.Moving.{held_as, held_live, held_pinned, pinned_entries, holds_then, holds_part, stays_then, moves_on, moves_like, moves_with, moves_none, moves_drops}
use Rattle.page_table.proofs.node.copy.Goals as goal

pub returns-in_default-clause-takes : goal.returns-in_default-clause-takes
returns-in_default-clause-takes c = λ tell. subst (λ (o : Option ℕ). Holds c.args.pool.now (names c.args.height (o ∷ []))
    → Takes tell c.args.pool.now c.fresh_pinned.new.self c.args.height o c.in_ok-q.q) (sym c.in_default.is)
    (λ held. takes tell _ c.args.height None _ c.requires.low c.in_ok-q.ensures.adds (zeros_copy tell c.args.pool.now c.args.height c.requires.up) c.in_ok-q.ensures.sound held
    (λ x. record { shows = refl; home = refl })
    (known_again tell c.args.pool.now c.fresh_pinned.new.self (homes_adds _ _ c.in_ok-q.q _ c.in_ok-q.ensures.adds) c.in_ok-q.ensures.clean) []
    (moves_like (λ h p. sym (names_none c.args.height (None ∷ []) (λ x. refl) h p)) (λ h p. heirs_none c.args.height [] (λ x. refl) h p) (moves_none _ nothing))
    (λ x. ap (λ (b : Shown). occ x (entries_in b)) c.in_ok-q.ensures.adds.shows ∙ zeros_occ x 512) (λ p is. absurd (none-some p is)))
    c.requires.ready.held

pub copy_node-requires-clause-live : goal.copy_node-requires-clause-live
copy_node-requires-clause-live c = omega (arith, c.requires.shared c.in-Some.p c.in-Some.is)

pub copy_node-requires-clause-pinned : goal.copy_node-requires-clause-pinned
copy_node-requires-clause-pinned c = held_pinned _ c.args.height c.in-Some.p c.requires.up c.requires.low (held_as c.args.height c.in-Some.is c.requires.ready.held)

pub share_entries-requires-clause-held : goal.share_entries-requires-clause-held
share_entries-requires-clause-held c = holds_part _ (λ h x. refl) (holds_then (added _ _ _ _ _ c.in_ok-q-2.ensures.adds c.in_ok-q-2.ensures.sound)
    (held_as c.args.height c.in-Some.is c.requires.ready.held))

pub returns-clause-takes : goal.returns-clause-takes
returns-clause-takes c = λ tell.
    let p = c.in-Some.p in
    let adds = c.in_ok-q-2.ensures.adds in
    let shared : 2 ≤ count_of c.args.pool.now p = c.requires.shared p c.in-Some.is in
    let more : 2 ≤ count_of c.share_entries.new.pool p = omega (arith, shared, adds.counts p, c.share_entries.ensures.more p) in
    let still : (x : ℕ) → Stays c.copy_node.new.pool c.drop_ref.new.self x
    = λ x. stays_then (c.share_entries.ensures.stays x) (elim (cases_eq x p) [
      | inl e ↦ subst (Stays _ _) (sym e) (c.drop_ref.ensures.drops.stays p (omega (arith, more, c.drop_ref.ensures.drops.counts p, one_same p p refl)))
      | inr ne ↦ c.drop_ref.ensures.drops.others x ne
    ]) in
    let es = (book_of c.copy_node.new.pool).entries p in
    let knows : Known tell c.args.pool.now → Known tell c.drop_ref.new.self
    = λ known. known_again tell c.copy_node.new.pool c.drop_ref.new.self (λ x b is. sym (still x).home ∙ is) (c.drop_ref.ensures.clean ∙ c.share_entries.ensures.clean)
    (known_again tell c.args.pool.now c.copy_node.new.pool (homes_adds _ _ c.in_ok-q-2.q _ adds) c.in_ok-q-2.ensures.clean known) in
    subst (λ (o : Option ℕ). Holds c.args.pool.now (names c.args.height (o ∷ [])) → Takes tell c.args.pool.now c.drop_ref.new.self c.args.height o c.in_ok-q-2.q)
    (sym c.in-Some.is) (λ held. takes tell c.in_ok-q-2.q c.args.height (Some p) _ c.requires.low adds
    (node_copy tell c.args.pool.now c.args.height p c.requires.up c.requires.low held) c.in_ok-q-2.ensures.sound held still knows es
    (moves_on c.share_entries.ensures.moves (moves_like (λ h x. refl) (λ h x. omega arith)
    (moves_with (heirs c.args.height es) (moves_drops _ _ p c.args.height c.drop_ref.ensures.sound c.drop_ref.ensures.drops c.requires.low (inr more)))))
    (λ x. ap (λ (b : Shown). occ x (entries_in b)) ((still c.in_ok-q-2.q).shows ∙ adds.shows)
    ∙ ap (occ x) (sym (pinned_entries (shown_of c.args.pool.now p) (held_pinned _ c.args.height p c.requires.up c.requires.low held))
    ∙ sym (ap entries_in (adds.others p (added_other _ _ _ p _ adds (omega (arith, shared)))).shows)))
    (λ x is. subst (λ (n : ℕ). 2 ≤ count_of c.args.pool.now n) (same_Some p x is) shared)) c.requires.ready.held

-- the pages after the copy was made
pub still : (c : goal.After-drop_ref) → (x : ℕ) → Stays c.copy_node.new.pool c.drop_ref.new.self x
still c x =
    let p = c.in-Some.p in
    let more : 2 ≤ count_of c.share_entries.new.pool p
    = omega (arith, c.requires.shared p c.in-Some.is, c.in_ok-q-2.ensures.adds.counts p, c.share_entries.ensures.more p) in
    stays_then (c.share_entries.ensures.stays x) (elim (cases_eq x p) [
      | inl e ↦ subst (Stays _ _) (sym e) (c.drop_ref.ensures.drops.stays p (omega (arith, more, c.drop_ref.ensures.drops.counts p, one_same p p refl)))
      | inr ne ↦ c.drop_ref.ensures.drops.others x ne
    ])

pub returns-clause-changed : goal.returns-clause-changed
returns-clause-changed c = (still c c.in_ok-q-2.q).home ∙ c.in_ok-q-2.ensures.adds.changed

pub returns-clause-changes : goal.returns-clause-changes
returns-clause-changes c = record {
  others = λ x out. stays_then (c.in_ok-q-2.ensures.adds.others x (λ e. absurd (omega (arith, out, one_same x c.in_ok-q-2.q (sym e))))) (still c x);
}
