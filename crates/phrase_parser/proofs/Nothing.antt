-- Where no unit begins, an empty one is read.
use Rattle.std.proofs.Common.{rules, ◌≡◌, ℕ, Bool, false, if◌then◌else◌, ap, ◌∙◌, Ok}
use Rattle.elan_tree.specs.declared.phrase.Expr.TheFolds.{the_lemmas}
use Rattle.elan_tree.specs.declared.phrase.Unit.{Unit}
use Rattle.elan_tree.specs.declared.phrase.Unit.TheVariants.{Empty}
use Rattle.elan_grammar.specs.Rule.{Rule, Tokens, choose, pure}
use Rattle.elan_grammar.specs.Depth.{unit_depth}
use Rattle.elan_grammar.specs.Expressions.{Language}
use Rattle.elan_grammar.specs.Units.{a_let, bound, leave, counted, guarded, repeated, statement, plain}

-- a choice whose first rule does not start here is its second
second : (r s : Rule Unit) (xs : Tokens) → r.starts xs ≡ false → (choose r s).run xs ≡ s.run xs
second r s xs e = ap (λ (b : Bool). if b then r.run xs else s.run xs) e

module _ (inner : Language) (n : ℕ) where
  abbrev from_statement : Rule Unit
  from_statement = choose (statement inner n) (pure Empty)

  abbrev from_repeated : Rule Unit
  from_repeated = choose (repeated inner n) from_statement

  abbrev from_guarded : Rule Unit
  from_guarded = choose (guarded inner n) from_repeated

  abbrev from_counted : Rule Unit
  from_counted = choose (counted inner n) from_guarded

  abbrev from_leave : Rule Unit
  from_leave = choose (leave inner n) from_counted

  abbrev from_bound : Rule Unit
  from_bound = choose (bound inner n) from_leave

  pub nothing_starts : (xs : Tokens) → (a_let inner n).starts xs ≡ false → (bound inner n).starts xs ≡ false → (leave inner n).starts xs ≡ false
      → (counted inner n).starts xs ≡ false → (guarded inner n).starts xs ≡ false → (repeated inner n).starts xs ≡ false
      → (statement inner n).starts xs ≡ false → (plain inner n).run xs ≡ Ok (Empty, xs)
  unfolding plain
  nothing_starts xs a b c d e f g =
      second (a_let inner n) from_bound xs a ∙ second (bound inner n) from_leave xs b ∙ second (leave inner n) from_counted xs c
      ∙ second (counted inner n) from_guarded xs d ∙ second (guarded inner n) from_repeated xs e ∙ second (repeated inner n) from_statement xs f
      ∙ second (statement inner n) (pure Empty) xs g

pub nothing_deep : 0 ≡ unit_depth Empty
nothing_deep = search (rules, the_lemmas)
