use Rattle.packet_store.specs.Meaning.{of_lexer, of_parser}
use Rattle.packet_store.proofs.Refusing.{handed_on, lexer_refuses, parser_refuses}
use Rattle.packet_store.proofs.compile.tree_of.Goals as goal

pub returns-in_err-tokens-clause-refused : goal.returns-in_err-tokens-clause-refused
returns-in_err-tokens-clause-refused c = λ env.
    handed_on env c.args.packet c.args.text.now (of_lexer c.in_err-tokens.field-0.0) c.from_residual.result c.from_residual.ensures
    (lexer_refuses env c.args.packet c.args.text.now c.in_err-tokens.field-0.0 c.in_err-tokens.ensures.answer)

pub returns-in_err-parsed-clause-refused : goal.returns-in_err-parsed-clause-refused
returns-in_err-parsed-clause-refused c = λ env.
    handed_on env c.args.packet c.args.text.now (of_parser c.in_err-parsed.field-0.0) c.from_residual-in_err-parsed.result
    c.from_residual-in_err-parsed.ensures
    (parser_refuses env c.args.packet c.args.text.now c.in_ok-tokens.tokens c.in_err-parsed.field-0.0 c.in_ok-tokens.ensures.answer
    (rw c.as_slice.ensures at c.in_err-parsed.ensures.refused) (rw c.as_slice.ensures at c.in_err-parsed.ensures.place))
