use Rattle.std.proofs.Common.{◌≡◌, ◌<◌, true, false, not, drop, length, rules, arith}
use Rattle.std.proofs.lemmas.Grind.{common_steps}
use Rattle.std.specs.Prelude.{◌==◌}
use Rattle.elan_lexer.specs.Pieces.{comment_end, opens_at, closes_at}
use Rattle.elan_lexer.proofs.Turns.{comment_second, comment_opens, comment_closes, comment_other}
use Rattle.elan_lexer.proofs.reading.comment_end.Goals as goal
use Rattle.elan_lexer.proofs.reading.comment_end.Goals.{then-second, else-second+else-depth-eq0+then-opens, else-second+else-depth-eq0+else-opens+then-closes}
use Rattle.elan_lexer.proofs.reading.comment_end.Goals.{else-second+else-depth-eq0+else-opens+else-closes}

pub loop-i-preserved : goal.loop-i-preserved
loop-i-preserved c =
    let k = c.args.curly in
    let d = c.loop-i.depth in
    let text = c.args.text.now in
    let i = c.loop-i.i in
    let whole = comment_end k 1 (not k) text in
    let lt : i < length text = omega arith in
    elim c.if-second.branch [
      | then-second w ↦
          let so_far = rw w.if-second.true at c.loop-i.invariant.0 in
          rw (w.depth-is, w.second-is) (comment_second k d text i lt whole so_far, omega arith)
      | else-second+else-depth-eq0+then-opens w ↦
          let so_far = rw w.if-second.false at c.loop-i.invariant.0 in
          let z : (d == 0) ≡ false = first_of (search rules, grind (arith, common_steps)) in
          let o : opens_at k (drop i text) ≡ true = first_of (search rules, grind (arith, common_steps)) in
          rw (w.depth-is, w.second-is) (comment_opens k d text i lt whole z o so_far, omega arith)
      | else-second+else-depth-eq0+else-opens+then-closes w ↦
          let so_far = rw w.if-second.false at c.loop-i.invariant.0 in
          let z : (d == 0) ≡ false = first_of (search rules, grind (arith, common_steps)) in
          let o : opens_at k (drop i text) ≡ false = first_of (search rules, grind (arith, common_steps)) in
          let l : closes_at k (drop i text) ≡ true = first_of (search rules, grind (arith, common_steps)) in
          rw (w.depth-is, w.second-is) (comment_closes k d text i lt whole z o l so_far, omega arith)
      | else-second+else-depth-eq0+else-opens+else-closes w ↦
          let so_far = rw w.if-second.false at c.loop-i.invariant.0 in
          let z : (d == 0) ≡ false = first_of (search rules, grind (arith, common_steps)) in
          let o : opens_at k (drop i text) ≡ false = first_of (search rules, grind (arith, common_steps)) in
          let l : closes_at k (drop i text) ≡ false = first_of (search rules, grind (arith, common_steps)) in
          rw (w.depth-is, w.second-is, w.if-second.false) (comment_other k d text i lt whole z o l so_far, omega arith)
    ]
