use Rattle.std.proofs.Common.{◌≡◌, List, [], Ok, ap, ◌∙◌, rules, arith}
use Rattle.std.proofs.lemmas.Grind.{common_steps}
use Rattle.elan_tree.specs.declared.token.Token.{Token}
use Rattle.elan_grammar.specs.Reads.{text}
use Rattle.elan_grammar.proofs.GrammarLaws.{is_read, some_left, no_tokens}
use Rattle.elan_parser.proofs.texts.whole.Goals as goal

pub returns-then-is_empty-clause-left : goal.returns-then-is_empty-clause-left
returns-then-is_empty-clause-left c =
    let none : c.args.tokens.now ≡ [] = first_of (search rules, grind (arith, common_steps)) in
    λ n e. no_tokens c.args.packet c.args.tokens.now n none e

pub returns-then-not-is_empty-clause-refused : goal.returns-then-not-is_empty-clause-refused
returns-then-not-is_empty-clause-refused c =
    let some : c.text.new.cursor.rest.now ≡ [] → ⊥ = first_of (search rules, grind (arith, common_steps)) in
    λ n e t r. some_left c.args.packet c.args.tokens.now c.in_ok-found.found.tree c.text.new.cursor.rest.now c.in_ok-found.ensures.0 some t r

pub returns-clause-ok : goal.returns-clause-ok
returns-clause-ok c =
    let some : c.args.tokens.now ≡ [] → ⊥ = first_of (search rules, grind (arith, common_steps)) in
    let none : c.text.new.cursor.rest.now ≡ [] = first_of (search rules, grind (arith, common_steps)) in
    let run : (text c.args.packet).run c.args.tokens.now ≡ Ok (c.in_ok-found.found.tree, c.text.new.cursor.rest.now) = c.in_ok-found.ensures.0 in
    is_read c.args.packet c.args.tokens.now c.in_ok-found.found.tree some (run ∙ ap (λ (z : List Token). Ok (c.in_ok-found.found.tree, z)) none)
