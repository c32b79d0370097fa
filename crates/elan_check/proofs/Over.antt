-- Behind a phrase that breaks a rule no other is the first.
use Rattle.std.proofs.Common.{◌≡◌, true, List, [], ◌∷◌, ◌++◌, Result, Ok, Err, ap, subst}
use Rattle.elan_meant.specs.declared.meant.Meant.{Meant}
use Rattle.elan_scope.specs.declared.known.Known.{Known}
use Rattle.elan_scope.specs.declared.trouble.Trouble.{Trouble}
use Rattle.elan_scope.specs.declared.trouble.Trouble.TheVariants.{NoMemory, Breaks, Hangs}
use Rattle.elan_scope.specs.Answer.{Is}
use Rattle.elan_scope.specs.Phrase.{Phrase, all_of}
use Rattle.elan_scope.specs.Ruled.{Fault, Ruled, gives, breaks, hangs, before}
use Rattle.elan_check.specs.Below.elan_rules.specs.Meaning.{judged, judged_all}
use Rattle.elan_check.specs.walks.Over.{is_over}
use Rattle.elan_check.proofs.Routines.{Grown}

before_more : (q : Ruled Meant) (r s : Ruled (List Meant)) (f : Fault) → (r ≡ breaks f → s ≡ breaks f) → before q r ≡ breaks f → before q s ≡ breaks f
before_more (gives x) (gives xs) s f more h = absurd cc
before_more (gives x) (breaks g) s f more h = ap (λ (t : Ruled (List Meant)). before (gives x) t) (more h)
before_more (gives x) hangs s f more h = absurd cc
before_more (breaks g) r s f more h = h
before_more hangs (gives xs) s f more h = absurd cc
before_more hangs (breaks g) s f more h = ap (λ (t : Ruled (List Meant)). before hangs t) (more h)
before_more hangs hangs s f more h = absurd cc

broken_more : (k : Known) (f : Fault) (ps qs : List Phrase) → judged_all k (all_of ps) ≡ breaks f → judged_all k (all_of (ps ++ qs)) ≡ breaks f
broken_more k f [] qs h = absurd cc
broken_more k f (p ∷ ps) qs h =
    before_more (judged k p) (judged_all k (all_of ps)) (judged_all k (all_of (ps ++ qs))) f (broken_more k f ps qs) h

over_more : (k : Known) (row : Result (List Meant) Trouble) (ps qs : List Phrase) → is_over row ≡ true → Is row (judged_all k (all_of ps))
    → Is row (judged_all k (all_of (ps ++ qs)))
over_more k (Ok ms) ps qs e h = absurd cc
over_more k (Err NoMemory) ps qs e h = tt
over_more k (Err (Breaks at why)) ps qs e h = broken_more k (at, why) ps qs h
over_more k (Err Hangs) ps qs e h = absurd cc

pub over : (k : Known) (row : Result (List Meant) Trouble) (left whole : List Phrase) → Grown k row left whole → is_over row ≡ true
    → Is row (judged_all k (all_of whole))
over k row left whole g e = subst (λ (ps : List Phrase). Is row (judged_all k (all_of ps))) g.rest (over_more k row g.done left e g.means)
