use Rattle.std.proofs.Common.{rules, arith}
use Rattle.elan_tree.specs.declared.phrase.Expr.TheFolds.{the_lemmas}
use Rattle.elan_grammar.specs.Units as units
use Rattle.phrase_parser.proofs.VarOrConst.{bare_item, whole_item}
use Rattle.phrase_parser.proofs.phrases.Phrases.item.Goals as goal

pub returns-then-is_bare : goal.returns-then-is_bare
returns-then-is_bare g c =
    let n = c.args.self.now.depth in (
      bare_item (units.phrases n) n _ _ _ _ _ c.in_ok-name.ensures c.is_bare.ensures c.if-is_bare.true,
      search (rules, the_lemmas),
    )

pub returns : goal.returns
returns g c =
    let n = c.args.self.now.depth in (
      whole_item (units.phrases n) n _ _ _ _ _ _ _ _ _ c.in_ok-name.ensures c.is_bare.ensures c.if-is_bare.false c.in_ok-name-2.ensures.behind
          c.init.ensures c.in_ok-name-2.ensures.value,
      grind (arith, the_lemmas),
    )
