-- What a function answers, beside what the rules say.
use Rattle.std.specs.Prelude.{◌≡◌, Result, Ok, Err}
use Rattle.elan_scope.specs.declared.trouble.Trouble.{Trouble}
use Rattle.elan_scope.specs.declared.trouble.Trouble.TheVariants.{NoMemory, Breaks, Hangs}
use Rattle.elan_scope.specs.Ruled.{Ruled, gives, breaks, hangs}

abbrev pub Fails : {A : Type 0} → Trouble → Ruled A → Type 0
Fails NoMemory ruled = Unit {0}
Fails (Breaks at why) ruled = ruled ≡ breaks (at, why)
Fails Hangs ruled = ruled ≡ hangs

-- It is what the rules say, seen by look, unless memory ran out.
abbrev pub Gives : {A B : Type 0} → (A → B) → Result A Trouble → Ruled B → Type 0
Gives look (Ok x) ruled = ruled ≡ gives (look x)
Gives look (Err e) ruled = Fails e ruled

abbrev pub Is : {A : Type 0} → Result A Trouble → Ruled A → Type 0
Is (Ok x) ruled = ruled ≡ gives x
Is (Err e) ruled = Fails e ruled
