-- How deep a loop is.
use Rattle.std.proofs.Common.{◌≡◌, ◌+◌, ℕ, max, List, Option, Some, None, refl, rules}
use Rattle.std.specs.Option.{option_map}
use Rattle.elan_tree.specs.declared.phrase.Expr.{Expr}
use Rattle.elan_tree.specs.declared.phrase.Expr.TheFolds.{the_lemmas}
use Rattle.elan_tree.specs.declared.phrase.Counter.{Counter}
use Rattle.elan_tree.specs.declared.phrase.Unit.{Unit as Phrase}
use Rattle.elan_tree.specs.declared.phrase.Unit.TheVariants as u
use Rattle.elan_grammar.specs.Depth.{unit_depth, expr_depth, counter_depth, deepest_of, if_any}

any_mapped : {A : Type 0} (depth : A → ℕ) (a : Option A) → if_any (λ n. n) (option_map depth a) ≡ if_any depth a
any_mapped depth None = refl
any_mapped depth (Some a) = refl

pub loop_depth : (at : ℕ) (c : Option Counter) (w : Option Expr) (us : List Phrase) (a : Option Expr)
    → unit_depth (u.Loop at c w us a) ≡ max (if_any counter_depth c) (max (if_any expr_depth w) (max (deepest_of unit_depth us) (if_any expr_depth a))) + 1
loop_depth at c w us a = search (rules, the_lemmas, any_mapped)
