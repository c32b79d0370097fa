use Rattle.std.proofs.lemmas.List.{take_all, drop_all}
use Rattle.page_table.proofs.Common.{◌≡◌, ◌-◌, ℕ, [], ◌∷◌, drop, Option, Some, inl, inr, refl, sym, ◌∙◌, ap, subst, arith, Pages, None, bytes_of, shown_of, count_of, Names, entries_of}
use Rattle.page_table.proofs.Common.{book_of, hit, occ, Hands, names, nothing, heirs, Moves}
use Rattle.page_table.proofs.Copies.{first_left}
use Rattle.page_table.proofs.Counting.{names_none, heirs_none, entries_length}
use Rattle.page_table.proofs.Moving.{holds_part, holds_then, held_live, held_pinned, pinned_entries, held_as, stays_then, moves_on, moves_open, moves_with, moves_drops, moves_none}
use Rattle.page_table.proofs.Moving.{moves_like}
use Rattle.page_table.proofs.forget.+release.Goals as goal

-- one name less of the page, in terms of what is asked for
less : {old new : Pages} {page : Option ℕ} (height p : ℕ) {after : Hands} → page ≡ Some p → Moves old new (names height (Some p ∷ [])) after
    → Moves old new (names height (page ∷ [])) after
less {old} {new} {page} height p {after} is m = subst (λ (o : Option ℕ). Moves old new (names height (o ∷ [])) after) (sym is) m

pub returns-in_default-clause-moves : goal.returns-in_default-clause-moves
returns-in_default-clause-moves t c = moves_like (λ h p. sym (names_none c.args.height (c.args.page ∷ [])
    (λ x. let none : hit x c.args.page ≡ 0 = ap (hit x) c.in_default.is in omega (arith, none)) h p)) (λ h p. refl) (moves_none _ nothing)

pub returns-then-height-eq0-clause-moves : goal.returns-then-height-eq0-clause-moves
returns-then-height-eq0-clause-moves t c = less c.args.height c.in-Some.p c.in-Some.is
    (moves_drops _ _ _ c.args.height c.drop_ref.ensures.sound c.drop_ref.ensures.drops c.requires.low (inl (omega (arith, c.if-height-eq0.true))))

pub returns-then-count-gt1-clause-moves : goal.returns-then-count-gt1-clause-moves
returns-then-count-gt1-clause-moves t c = less c.args.height c.in-Some.p c.in-Some.is (moves_drops _ _ _ c.args.height c.drop_ref-then-count-gt1.ensures.sound
    c.drop_ref-then-count-gt1.ensures.drops c.requires.low (inr (omega (arith, c.if-count-gt1.true, c.count.ensures))))

pub loop-k-init : goal.loop-k-init
loop-k-init t c =
    let pin = held_pinned _ c.args.height c.in-Some.p (omega (arith, c.if-height-eq0.false)) c.requires.low (held_as c.args.height c.in-Some.is c.requires.held) in
    let same : entries_of c.peek.new.into ≡ (book_of c.args.pool.now).entries c.in-Some.p
    = ap entries_of (c.peek.ensures.bytes None ∙ take_all 512 (bytes_of None c.args.pool.now c.in-Some.p) (omega (arith, c.peek.ensures.long None)))
    ∙ sym (pinned_entries (shown_of c.args.pool.now c.in-Some.p) pin) in
    let single : count_of c.args.pool.now c.in-Some.p ≡ 1
    = omega (arith, c.if-count-gt1.false, c.count.ensures, c.requires.live c.in-Some.p c.in-Some.is) in
    record {
      moves = less c.args.height c.in-Some.p c.in-Some.is (moves_on (moves_open _ c.in-Some.p c.args.height c.requires.low single)
          (moves_like (λ n x. refl) (λ n x. omega (arith, ap (λ (l : Names). heirs c.args.height l n x) same)) (moves_with (heirs c.args.height _)
          (moves_drops _ _ c.in-Some.p 0 c.drop_ref-2.ensures.sound c.drop_ref-2.ensures.drops (omega arith) (inl refl)))));
      frees = record { lived = λ x alive. omega (arith, alive, c.drop_ref-2.ensures.drops.counts x); stays = c.drop_ref-2.ensures.drops.stays };
      clean = c.drop_ref-2.ensures.clean;
      used = c.drop_ref-2.ensures.used;
    }

pub release-requires : goal.release-requires
release-requires t c =
    let held = holds_part _ (first_left c.peek.new.into c.loop-k.k c.args.height (omega (arith, c.if-height-eq0.false)) c.peek.auto.into
    c.loop-k-test.true (sym c.entry_in.ensures)) (holds_then c.loop-k.invariant.moves c.requires.held) in (
      omega (arith, c.decreases, c.if-height-eq0.false),
      (omega (arith, c.requires.low), (λ q is. held_live _ (c.args.height - 1) q (omega (arith, c.requires.low)) (held_as (c.args.height - 1) is held), held)),
    )

pub loop-k-preserved : goal.loop-k-preserved
loop-k-preserved t c =
    let inv = c.loop-k.invariant in
    let frees = c.release.ensures.frees in
    let first = first_left _ _ c.args.height (omega (arith, c.if-height-eq0.false)) c.peek.auto.into c.loop-k-test.true (sym c.entry_in.ensures) in
    record {
      moves = moves_on inv.moves (moves_like (λ h p. sym (first h p)) (λ h p. omega arith) (moves_with (heirs c.args.height _) c.release.ensures.moves));
      frees = record {
        lived = λ x alive. inv.frees.lived x (frees.lived x alive);
        stays = λ x alive. stays_then (inv.frees.stays x (frees.lived x alive)) (frees.stays x alive);
      };
      clean = c.release.ensures.clean ∙ inv.clean;
      used = omega (arith, inv.used, c.release.ensures.used);
    }

pub returns-clause-moves : goal.returns-clause-moves
returns-clause-moves t c = moves_like (λ h p. refl) (λ h p. sym (heirs_none c.args.height (drop c.loop-k.k (entries_of c.peek.new.into)) (λ x. ap (occ x)
    (drop_all c.loop-k.k (entries_of c.peek.new.into) (omega (arith, entries_length c.peek.new.into, c.peek.auto.into, c.loop-k-test.false)))) h p))
    c.loop-k.invariant.moves

pub peek-requires-clause-here : goal.peek-requires-clause-here
peek-requires-clause-here t c = inl (held_pinned _ c.args.height c.in-Some.p (omega (arith, c.if-height-eq0.false)) c.requires.low (held_as c.args.height c.in-Some.is c.requires.held))
