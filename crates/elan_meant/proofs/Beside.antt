-- What phrases mean beside each other.
use Rattle.std.proofs.Common.{◌≡◌, List, [], refl, sym, ap, ◌∙◌}
use Rattle.elan_scope.specs.Ruled.{joined}
use Rattle.elan_scope.specs.Ruled.{Ruled, gives, breaks, hangs, before}

pub before_joined : {A : Type 0} (q : Ruled A) (rs : Ruled (List A)) (r : Ruled A) → before q (joined rs r) ≡ joined (before q rs) r
before_joined (gives m) (gives ms) (gives n) = refl
before_joined (gives m) (gives ms) (breaks f) = refl
before_joined (gives m) (gives ms) hangs = refl
before_joined (gives m) (breaks f) r = refl
before_joined (gives m) hangs (gives n) = refl
before_joined (gives m) hangs (breaks f) = refl
before_joined (gives m) hangs hangs = refl
before_joined (breaks f) rs r = refl
before_joined hangs (gives ms) (gives n) = refl
before_joined hangs (gives ms) (breaks f) = refl
before_joined hangs (gives ms) hangs = refl
before_joined hangs (breaks f) r = refl
before_joined hangs hangs (gives n) = refl
before_joined hangs hangs (breaks f) = refl
before_joined hangs hangs hangs = refl

pub single_joined : {A : Type 0} (r : Ruled A) → before r (gives []) ≡ joined (gives []) r
single_joined (gives m) = refl
single_joined (breaks f) = refl
single_joined hangs = refl

-- ---- a row of two and three

pub two_row : {A : Type 0} (r q : Ruled A) → joined (before r (gives [])) q ≡ before r (before q (gives []))
two_row r q = sym (before_joined r (gives []) q) ∙ ap (before r) (sym (single_joined q))

pub three_row : {A : Type 0} (r q s : Ruled A) → joined (before r (before q (gives []))) s ≡ before r (before q (before s (gives [])))
three_row r q s = sym (before_joined r (before q (gives [])) s) ∙ ap (before r) (two_row q s)
