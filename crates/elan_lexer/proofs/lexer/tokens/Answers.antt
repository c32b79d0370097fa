use Rattle.std.proofs.Common.{◌≡◌, ◌+◌, ◌-◌, ap, ◌∙◌, arith, drop, length-drop}
use Rattle.elan_tree.specs.declared.token.Key.TheVariants as key
use Rattle.elan_tree.specs.declared.token.Word.TheVariants as word
use Rattle.elan_lexer.specs.declared.front.Front.TheVariants as front
use Rattle.elan_lexer.specs.declared.lexer.Found.{Found}
use Rattle.elan_lexer.specs.Kept.{token, added}
use Rattle.elan_lexer.specs.Scan.{IsLongest}
use Rattle.elan_lexer.proofs.Laws.{in_order}
use Rattle.elan_lexer.proofs.Cuts.{start, skips_turn, holds_turn, ends_turn, stuck_turn, end_over, end_within, added_within, of_slice}
use Rattle.elan_lexer.proofs.lexer.tokens.Goals as goal

pub pieces-init : goal.pieces-init
pieces-init c = rw c.new.ensures (start c.args.text.now, omega arith, omega arith)

pub pieces-preserved-in-Skips : goal.pieces-preserved-in-Skips
pieces-preserved-in-Skips c =
    let text = c.args.text.now in
    let i = c.pieces.index in
    let is : IsLongest (drop i text) (front.Skips c.in-Skips.len) = of_slice text i _ _ c.in-Skips.is c.in_ok-len.ensures in (
      skips_turn text i c.pieces-test.true c.pieces.found c.pieces.invariant.1 _ c.pieces.invariant.0 c.in-Skips.len is,
      c.pieces.invariant.1,
      omega (arith, is.3, length-drop i text),
    )

pub pieces-preserved-in-Holds : goal.pieces-preserved-in-Holds
pieces-preserved-in-Holds c =
    let text = c.args.text.now in
    let i = c.pieces.index in
    let n = c.in-Holds.len in
    let t = token c.in-Holds.word i n in
    let is : IsLongest (drop i text) (front.Holds c.in-Holds.word n) = of_slice text i _ _ c.in-Holds.is c.in_ok-len.ensures in
    let one : c.add.new.self ≡ added c.pieces.found t = c.in_ok-add-in-Holds.ensures in
    rw one (
      holds_turn text i c.pieces-test.true c.pieces.found c.pieces.invariant.1 _ c.pieces.invariant.0 c.in-Holds.word n is,
      added_within c.pieces.found t c.pieces.invariant.1,
      omega (arith, is.3, length-drop i text),
    )

pub pieces-preserved : goal.pieces-preserved
pieces-preserved c =
    let text = c.args.text.now in
    let i = c.pieces.index in
    let n = c.in-Ends.len in
    let k = c.in-Ends.key in
    let end = token (word.Key key.End) i 3 in
    let t = token (word.Key k) (i + 3) (n - 3) in
    let is : IsLongest (drop i text) (front.Ends k n) = of_slice text i _ _ c.in-Ends.is c.in_ok-len.ensures in
    let one : c.add-in-Ends.new.self ≡ added c.pieces.found end = c.in_ok-add-in-Ends.ensures in
    let two : c.add-in-Ends-2.new.self ≡ added c.add-in-Ends.new.self t = c.in_ok-add-in-Ends-2.ensures in
    let both : c.add-in-Ends-2.new.self ≡ added (added c.pieces.found end) t = two ∙ ap (λ (f : Found). added f t) one in
    rw both (
      ends_turn text i c.pieces-test.true c.pieces.found c.pieces.invariant.1 _ c.pieces.invariant.0 k n is,
      added_within (added c.pieces.found end) t (added_within c.pieces.found end c.pieces.invariant.1),
      omega (arith, is.3, length-drop i text),
    )

pub returns-in-Stuck-clause-answer : goal.returns-in-Stuck-clause-answer
returns-in-Stuck-clause-answer c =
    let text = c.args.text.now in
    let i = c.pieces.index in
    let is : IsLongest (drop i text) front.Stuck = of_slice text i _ _ c.in-Stuck.is c.in_ok-len.ensures in
    stuck_turn text i c.pieces-test.true c.pieces.found c.pieces.invariant.1 _ c.pieces.invariant.0 is

pub returns-then-found-clause-answer : goal.returns-then-found-clause-answer
returns-then-found-clause-answer c = end_over c.args.text.now c.pieces.index c.pieces-test.false c.pieces.found _ c.pieces.invariant.0 c.if-found.true

pub returns-else-found-clause-answer : goal.returns-else-found-clause-answer
returns-else-found-clause-answer c =
    end_within c.args.text.now c.pieces.index c.pieces-test.false c.pieces.found _ c.pieces.invariant.0 c.pieces.invariant.1 c.if-found.false

pub returns-else-found-clause-places : goal.returns-else-found-clause-places
returns-else-found-clause-places c =
    in_order c.args.text.now c.pieces.found.tokens
    (end_within c.args.text.now c.pieces.index c.pieces-test.false c.pieces.found _ c.pieces.invariant.0 c.pieces.invariant.1 c.if-found.false)
