-- VAR and CONST: what a declaration and its items give, by what their parts give.
use Rattle.std.proofs.Common.{◌≡◌, ◌≢◌, ℕ, Bool, true, false, if◌then◌else◌, List, Some, None, Result, Ok, Err, refl, sym, ◌∙◌}
use Rattle.std.specs.Prelude.{IsErr, IsErrAnd}
use Rattle.elan_tree.specs.declared.written_type.Name.{Name}
use Rattle.elan_tree.specs.declared.written_type.Access.{Access}
use Rattle.elan_tree.specs.declared.written_type.Access.TheVariants as access
use Rattle.elan_tree.specs.declared.written_type.TypePhrase.{TypePhrase}
use Rattle.elan_tree.specs.declared.phrase.Expr.{Expr}
use Rattle.elan_tree.specs.declared.phrase.Item.{Item}
use Rattle.elan_tree.specs.declared.phrase.Unit.{Unit}
use Rattle.elan_grammar.specs.declared.error.ParseError.{ParseError}
use Rattle.elan_grammar.specs.declared.error.ParseError.TheVariants.{NoMemory}
use Rattle.elan_grammar.specs.declared.tall.Tall.{Tall}
use Rattle.elan_grammar.specs.Rule.{Tokens, Parses, AtMost}
use Rattle.elan_grammar.specs.Terminals.{ident, init_mark}
use Rattle.elan_grammar.specs.Depth.{expr_depth, unit_depth, type_place}
use Rattle.elan_grammar.specs.Expressions.{Language}
use Rattle.elan_grammar.specs.Units as units
use Rattle.phrase_parser.specs.VarOrConst.{Declares, is_bare, item, items, declaration_of}

begins_not : (b : Bool) → (if b then false else true) ≡ true → b ≡ false
begins_not true e = absurd cc
begins_not false e = refl

begins : (b : Bool) → (if b then false else true) ≡ false → b ≡ true
begins true e = refl
begins false e = absurd cc

module _ (inner : Language) (n : ℕ) where
  -- ---- an item

  pub no_name : (a : Access) (e : ParseError) (xs : Tokens) → ident.run xs ≡ Err e → (item a inner n).run xs ≡ Err e
  unfolding units.item units.constant_item
  no_name access.Var e xs h = rw h refl
  no_name access.Const e xs h = rw h refl

  pub bare_item : (a : Access) (x : Name) (b : Bool) (xs ys : Tokens) → ident.run xs ≡ Ok (x, ys) → b ≡ is_bare a ys → b ≡ true
      → (item a inner n).run xs ≡ Ok (record { name = x; init = None }, ys)
  unfolding units.item units.constant_item units.init
  bare_item access.Var x b xs ys h k t =
      let s = begins_not (init_mark.starts ys) (sym k ∙ t) in
      rw (h, s) refl
  bare_item access.Const x b xs ys h k t = absurd (cc (k, t))

  pub whole_item : (a : Access) (x y : Name) (b : Bool) (i : Tall Expr) (read : Result (Tall Expr) ParseError) (xs ys zs : Tokens)
      → ident.run xs ≡ Ok (x, ys) → b ≡ is_bare a ys → b ≡ false → read ≡ Ok i → Parses (units.init inner n) expr_depth (AtMost n) ys read zs → y ≡ x
      → (item a inner n).run xs ≡ Ok (record { name = y; init = Some i.tree }, zs)
  unfolding units.item units.constant_item units.init
  whole_item access.Var x y b i (Ok j) xs ys zs h d f e p k =
      let s = begins (init_mark.starts ys) (sym d ∙ f) in
      let same : j ≡ i = cc e in
      rw (h, s, p.0, same, k) refl
  whole_item access.Const x y b i (Ok j) xs ys zs h d f e p k =
      let same : j ≡ i = cc e in
      rw (h, p.0, same, k) refl
  whole_item a x y b i (Err g) xs ys zs h d f e p k = absurd (cc e)

  pub no_init : (a : Access) (x : Name) (e : ParseError) (xs ys : Tokens) → ident.run xs ≡ Ok (x, ys) → is_bare a ys ≡ false
      → (units.init inner n).run ys ≡ Err e → (item a inner n).run xs ≡ Err e
  unfolding units.item units.constant_item units.init
  no_init access.Var x e xs ys h b r =
      let s = begins (init_mark.starts ys) b in
      rw (h, s, r) refl
  no_init access.Const x e xs ys h b r = rw (h, r) refl

  -- ---- a declaration

  pub no_access : (of : TypePhrase) (e : ParseError) (read : Result Access ParseError) (result : Result (Tall Unit) ParseError) (xs ys : Tokens)
      → read ≡ Err e → IsErr result × IsErrAnd result (λ d. d ≡ e) → Declares xs read ys
      → Parses (units.declared inner n of) unit_depth (AtMost n) xs result ys
  unfolding units.declared units.variables units.constants
  no_access of e (Ok a) result xs ys h is d = absurd (cc h)
  no_access of e (Err f) (Ok u) xs ys h is d = absurd (cc is.0)
  no_access of e (Err f) (Err g) xs ys h is (starts, run) =
      let same : f ≡ g = cc (h, is.1) in
      λ other. rw (starts, run (λ none. other (sym same ∙ none)), same) refl

  pub no_items : (of : TypePhrase) (a : Access) (e : ParseError) (xs ys : Tokens) → Declares xs (Ok a) ys → (items a inner n).run ys ≡ Err e
      → (units.declared inner n of).run xs ≡ Err e
  unfolding units.declared units.variables units.constants units.items units.constant_items
  no_items of access.Var e xs ys (starts, at, run) r = rw (starts, run, r) refl
  no_items of access.Const e xs ys (starts, at, run) r = rw (starts, run, r) refl

  pub declared_items : (of : TypePhrase) (a : Access) (row : List Item) (xs ys zs : Tokens) → Declares xs (Ok a) ys
      → (items a inner n).run ys ≡ Ok (row, zs) → (units.declared inner n of).run xs ≡ Ok (declaration_of a (type_place of) of row, zs)
  unfolding units.declared units.variables units.constants units.items units.constant_items
  declared_items of access.Var row xs ys zs (starts, at, run) r = rw (starts, run, r) refl
  declared_items of access.Const row xs ys zs (starts, at, run) r = rw (starts, run, r) refl

pub ruleset of_items = (no_name, no_init)

pub ruleset of_declarations = (no_items, declared_items)
