-- Which trees a list of tokens has. Begin here.
use Rattle.std.specs.Prelude.{◌≢◌, ℕ, suc, Bool, true, false, []}
use Rattle.elan_tree.specs.declared.tree.Tree.{Tree}
use Rattle.elan_grammar.specs.Rule.{Tokens, Rule}
use Rattle.elan_grammar.specs.Grammar.{program, packet}

-- Each production is a rule, with the production as its comment. Of a rule look at what it reads; how it runs is the parser's (Rule).
--
--   program, packet, units and tail of a level, refinement, TYPE, PROC, OP    Grammar
--   units in phrases: let, declarations, statements, LEAVE, loops             Units
--   e1 to e6, m, prim, head, actual, IF, SELECT                               Expressions
--   type, field, formal, constant, label                                      Types
--   keywords, signs, names, operators, and what else is one token             Terminals
--
-- The number that a rule bears is how deep what it reads may be; what stands in a form is less deep. Depth has the depth of a tree.
--
-- These follow, and stand nowhere: a point before an identifier with a colon behind it ends a body, since no colon follows an
-- expression; a comma before an identifier goes on with the same type, since no type begins with one; a unit that begins with a bold
-- word begins with a type where VAR, CONST, PROC or OP follows, since none of these follows an operator. What the parser looks at to
-- find its way, `starts` and `seen`, is no part of what is read.
-- Said in rules are: the name behind END (end_name, end_operator), and how many operands an operator has (operands).

-- A text at most so deep, and in bodies one less.
abbrev pub text_within : ℕ → ℕ → Bool → Rule Tree
text_within most in_body true = packet most in_body
text_within most in_body false = program most in_body

-- A tree is at most 400 deep.
abbrev pub text : Bool → Rule Tree
text is_packet = text_within 400 399 is_packet

-- The tokens spell the tree: as a packet, or as a program. There is at least one.
abbrev pub Reads : Bool → Tokens → Tree → Type 0
Reads is_packet tokens t = (tokens ≢ []) × (text is_packet).reads t tokens []

-- The same without the limit of 400: with any that serves. By the law `depth_alone` (elan_laws) a text reads as a tree exactly
-- where the grammar without a limit reads it as that tree and the tree is at most 400 deep.
abbrev pub ReadsAtAnyDepth : Bool → Tokens → Tree → Type 0
ReadsAtAnyDepth is_packet tokens t = (tokens ≢ []) × ((in_body : ℕ) × (text_within (suc in_body) in_body is_packet).reads t tokens [])
