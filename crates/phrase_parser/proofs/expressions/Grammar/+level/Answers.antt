use Rattle.std.proofs.Common.{◌≡◌, ℕ, suc, ◌-◌, rules, arith, Result, Ok, Err}
use Rattle.std.proofs.lemmas.Grind.{common_steps}
use Rattle.elan_tree.specs.declared.phrase.Expr.{Expr}
use Rattle.elan_grammar.specs.declared.error.ParseError.{ParseError}
use Rattle.elan_grammar.specs.declared.tall.Tall.{Tall}
use Rattle.elan_grammar.specs.Rule.{Tokens, iterate, Parses, AtMost}
use Rattle.elan_grammar.specs.Expressions.{Language, operand, dyadic, level}
use Rattle.elan_grammar.specs.Units.{phrases}
use Rattle.elan_grammar.specs.Depth.{expr_depth}
use Rattle.elan_grammar.proofs.Knots.{parses_from, level_zero, level_err, level_ok}
use Rattle.phrase_parser.proofs.expressions.Grammar.+level.Goals as goal

operand_alone : (inner : Language) (n i : ℕ) (old new : Tokens) (result : Result (Tall Expr) ParseError) → i ≡ 0
    → Parses (operand inner n) expr_depth (AtMost n) old result new → Parses (level inner n i) expr_depth (AtMost n) old result new
operand_alone inner n i old new result e h =
    parses_from (operand inner n) (level inner n i) expr_depth (AtMost n) (AtMost n) old old new result (level_zero inner n i old e) (λ k le. le) h

with_operators : (inner : Language) (n i j : ℕ) (all old new : Tokens) (left : Expr) (result : Result (Tall Expr) ParseError) → i ≡ suc j
    → (level inner n j).run all ≡ Ok (left, old)
    → Parses (iterate (dyadic inner n j) left) expr_depth (AtMost n) old result new
    → Parses (level inner n i) expr_depth (AtMost n) all result new
with_operators inner n i j all old new left result e run h =
    parses_from (iterate (dyadic inner n j) left) (level inner n i) expr_depth (AtMost n) (AtMost n) all old new result
    (level_ok inner n i j all old left e run) (λ k le. le) h

pub returns-then-level-eq-OPERAND_LEVEL : goal.returns-then-level-eq-OPERAND_LEVEL
returns-then-level-eq-OPERAND_LEVEL g t c =
    operand_alone (phrases c.args.self.now.depth) c.args.self.now.depth c.args.level c.args.cursor.now.rest.now _ _ (omega arith) c.operand.ensures

pub returns-in_err-left : goal.returns-in_err-left
returns-in_err-left g t c =
    let k : c.args.level ≡ suc (c.args.level - 1) = omega arith in
    let here : (e : ParseError) → (level (phrases c.args.self.now.depth) c.args.self.now.depth (c.args.level - 1)).run c.args.cursor.now.rest.now ≡ Err e
    → (level (phrases c.args.self.now.depth) c.args.self.now.depth c.args.level).run c.args.cursor.now.rest.now ≡ Err e
    = λ e h. level_err (phrases c.args.self.now.depth) c.args.self.now.depth c.args.level (c.args.level - 1) c.args.cursor.now.rest.now e k h in
    first_of (search (rules, here), grind (arith, common_steps, here), grind (arith, common_steps))

pub returns : goal.returns
returns g t c =
    let k : c.args.level ≡ suc (c.args.level - 1) = omega arith in
    with_operators (phrases c.args.self.now.depth) c.args.self.now.depth c.args.level (c.args.level - 1) c.args.cursor.now.rest.now _ _ _ _ k
    c.in_ok-left.ensures.0 c.more_dyadic.ensures
