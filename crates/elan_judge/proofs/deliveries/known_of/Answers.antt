use Rattle.std.proofs.Common.{◌≡◌, ◌≤◌, ◌+◌, ℕ, suc, None, List, length, map, refl, sym, arith, ap, subst, ◌∙◌}
use Rattle.elan_judge.specs.Below.elan_names.specs.declared.heading.Heading.{Heading}
use Rattle.elan_scope.specs.declared.delivery.Delivery.{Delivery}
use Rattle.elan_scope.specs.declared.scope.Scope.{Scope}
use Rattle.elan_tree.specs.declared.tree.Level.{Level}
use Rattle.type_names.specs.Bodies.{headings_in}
use Rattle.elan_judge.specs.Level.{level_bodies}
use Rattle.elan_judge.specs.Refinements.{stated, called_in, known_after, next_all}
use Rattle.elan_judge.specs.walks.OnTheWay.{AtMost, LevelAt, bodies_at, IsOnTheWay}
use Rattle.elan_judge.specs.walks.Rounds.{found_from}
use Rattle.elan_judge.proofs.Same.{deliveries_are}
use Rattle.elan_judge.proofs.Steps.{known_with, one_step}
use Rattle.elan_judge.proofs.OnTheWay.{least, after_round, more, ends, stable}
use Rattle.elan_judge.proofs.deliveries.known_of.Goals as goal

abbrev at : (s : Scope) (l : Level) → s.headings ≡ headings_in s.types l → s.routine ≡ None → LevelAt
at s l e h = record { scope = s; level = l; has = e; outside = h }

pub settled-requires-clause-known : goal.settled-requires-clause-known
settled-requires-clause-known c =
    let kept = c.in_ok-all.ensures.kept in
    ap (λ (ds : List Delivery). known_with ds c.in_ok-of.field-0)
    (c.in_ok-all_stated.ensures ∙ ap (λ (hs : List Heading). map (λ h. stated h.what) hs) c.as_slice.ensures)
    ∙ ap (λ (cs : List (List ℕ)). known_with (map (λ h. stated h.what) c.calls_of.new.scope.headings) cs) (c.in_ok-of.ensures ∙ c.in_ok-all.ensures.all)
    ∙ ap (λ (z : Scope). known_with (map (λ h. stated h.what) c.calls_of.new.scope.headings) (map called_in (level_bodies z c.args.level.now))) (sym kept)

pub loop-init : goal.loop-init
loop-init c =
    let kept = c.in_ok-all.ensures.kept in
    let way = λ (w : LevelAt) (es : w.scope ≡ c.args.scope.now) (el : w.level ≡ c.args.level.now). c.in_ok-known.ensures.found w (es ∙ sym kept) el in
    let here = at c.args.scope.now c.args.level.now c.requires.headings c.requires.level in
    record {
      scope = c.in_ok-known.ensures.kept ∙ kept;
      way = way;
      least = least here c.in_ok-known.known (way here refl refl);
    }

pub next_deliveries-requires-clause-count : goal.next_deliveries-requires-clause-count
next_deliveries-requires-clause-count c =
    let here = at c.args.scope.now c.args.level.now c.requires.headings c.requires.level in
    (c.loop.invariant.way here refl refl).count
    ∙ ap (λ (z : Scope). length (level_bodies z c.args.level.now)) (sym c.loop.invariant.scope)

pub returns-then-are_same-clause-found : goal.returns-then-are_same-clause-found
returns-then-are_same-clause-found c =
    let s = c.args.scope.now in
    let here = at s c.args.level.now c.requires.headings c.requires.level in
    let way = c.loop.invariant.way here refl refl in
    let us = level_bodies s c.args.level.now in
    let count : length c.as_slice-end.result.now ≡ length s.headings =
    ap length (c.as_slice-end.ensures ∙ ap (λ (z : Scope). z.headings) (c.in_ok-known.ensures.kept ∙ c.in_ok-all.ensures.kept)) in
    let few : c.loop.counter ≤ length s.headings = omega (arith, count, c.loop-test.true) in
    let same : c.as_slice-in-loop.result.now ≡ c.as_slice-in-loop-2.result.now =
    deliveries_are c.as_slice-in-loop.result.now c.as_slice-in-loop-2.result.now (sym c.if-are_same.ensures) in
    let round : c.in_ok-next.next ≡ next_all c.loop.known c.loop.known.deliveries us =
    c.in_ok-next.ensures.found ∙ ap (λ (z : Scope). found_from c.loop.known c.in_ok-all.field-0.last 0 (level_bodies z c.args.level.now)) c.loop.invariant.scope
    ∙ one_step c.loop.known _ us way.count c.in_ok-all.ensures.last in
    stable here c.loop.known way
    (sym round ∙ sym c.as_slice-in-loop.ensures ∙ same ∙ c.as_slice-in-loop-2.ensures) c.loop.counter few c.loop.invariant.least

pub loop-preserved : goal.loop-preserved
loop-preserved c =
    let s = c.args.scope.now in
    let k = c.loop.known in
    let us = level_bodies s c.args.level.now in
    let here = at s c.args.level.now c.requires.headings c.requires.level in
    let way_here = c.loop.invariant.way here refl refl in
    let round : c.in_ok-next.next ≡ next_all k k.deliveries us =
    c.in_ok-next.ensures.found ∙ ap (λ (z : Scope). found_from k c.in_ok-all.field-0.last 0 (level_bodies z c.args.level.now)) c.loop.invariant.scope
    ∙ one_step k _ us way_here.count c.in_ok-all.ensures.last in
    record {
      scope = c.in_ok-next.ensures.kept ∙ c.loop.invariant.scope;
      way = λ w es el.
          let there : bodies_at w ≡ us =
          ap (λ (z : Scope). level_bodies z w.level) es ∙ ap (λ (l : Level). level_bodies s l) el in
          subst (λ (ds : List Delivery). IsOnTheWay w (known_with ds k.calls))
          (ap (next_all k k.deliveries) there ∙ sym round) (after_round w k (c.loop.invariant.way w es el));
      least =
          subst (λ (ds : List Delivery). AtMost (known_after (c.loop.counter + 1) s.headings us) (known_with ds k.calls)) (sym round)
          (subst (λ (n : ℕ). AtMost (known_after n s.headings us) (known_with (next_all k k.deliveries us) k.calls))
          (let z : suc c.loop.counter ≡ c.loop.counter + 1 = omega arith in z) (more here k way_here c.loop.counter c.loop.invariant.least));
    }

pub returns-clause-found : goal.returns-clause-found
returns-clause-found c =
    let s = c.args.scope.now in
    let here = at s c.args.level.now c.requires.headings c.requires.level in
    let count : length c.as_slice-end.result.now ≡ length s.headings =
    ap length (c.as_slice-end.ensures ∙ ap (λ (z : Scope). z.headings) (c.in_ok-known.ensures.kept ∙ c.in_ok-all.ensures.kept)) in
    let all : c.loop.counter ≡ length s.headings = omega (arith, count, c.loop-test.false, c.loop.auto.counter-end) in
    ends here c.loop.known (c.loop.invariant.way here refl refl)
    (subst (λ (n : ℕ). AtMost (known_after n s.headings (level_bodies s c.args.level.now)) c.loop.known) all c.loop.invariant.least)
