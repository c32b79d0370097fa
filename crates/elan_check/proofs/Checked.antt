-- The answer that is found, as it is promised of a text.
use Rattle.std.proofs.Common.{ap, ◌≡◌, Result, Ok, Err, Some, sym, subst}
use Rattle.std.specs.Prelude.{IfOk}
use Rattle.elan_scope.specs.declared.env.Env.{Env}
use Rattle.elan_types.specs.declared.core_phrase.Core.{Core}
use Rattle.elan_types.specs.Typing.{IsWellTyped}
use Rattle.elan_tree.specs.declared.tree.Tree.{Tree}
use Rattle.elan_meant.specs.declared.meant.Meant.TheVariants as means
use Rattle.elan_scope.specs.Ruled.{Fault, gives}
use Rattle.elan_scope.specs.declared.known.Known.{Known}
use Rattle.elan_check.specs.Below.elan_rules.specs.Meaning.{judged}
use Rattle.elan_check.specs.declared.error.CheckError.{CheckError}
use Rattle.elan_check.specs.declared.error.CheckError.TheVariants.{NoMemory, NoMeaning}
use Rattle.elan_judge.specs.Level.{text}
use Rattle.elan_check.specs.Text.{Means, Refused, IsCore, IsRefusal, Answers, earliest, known, faults}
use Rattle.elan_check.specs.Packets.{AreCompiled}
use Rattle.type_names.specs.Faults.{first_fault}
use Rattle.elan_check.proofs.Bodies.{known_is}
use Rattle.elan_check.proofs.Inserted.{is_sound}
use Rattle.elan_check.proofs.WellTyped.{well_typed}
use Rattle.elan_check.proofs.OneAnswer.{one_core, meant_is_not_refused, is_earliest}

pub record Checked (env : Env) (t : Tree) (q : Result Core CheckError) : Type 0 where
  pub meaning : IfOk q (λ core. Means env t core)
  pub only : (core : Core) → Means env t core → IsCore core q
  pub refused : IsRefusal (Refused env t) q
  pub typed : IfOk q (λ core. IsWellTyped core)

module _ (env : Env) (compiled : AreCompiled env) (t : Tree) where
  core_means : (core : Core) → Answers env t (Ok core) → Means env t core
  core_means core a = record {
    types = a.0;
    packets = ap (λ (c : Core). c.packets) a.2;
    inserted = ap (λ (c : Core). c.inserted) a.2;
    variables = ap (λ (c : Core). c.variables) a.2;
    start = ap (λ (c : Core). c.start) a.2;
    own = a.1;
    bodies = ap (λ (c : Core). c.bodies) a.2;
    phrases = subst (λ (k : Known). judged k (text env t) ≡ gives (means.Level core.units a.1)) (sym (known_is env t)) a.3;
  }

  is_refused : (fault : Fault) → Answers env t (Err (NoMeaning fault.0 fault.1)) → Refused env t fault
  is_refused fault a = record {
    first = is_earliest (known env t) (text env t) (first_fault (faults env t)) fault
        (subst (λ (k : Known). earliest (first_fault (faults env t)) (judged k (text env t)) ≡ Some fault) (sym (known_is env t)) a);
  }

  pub text_checked : (q : Result Core CheckError) → Answers env t q → Checked env t q
  text_checked (Ok core) a = record {
    meaning = core_means core a;
    only = λ other m. one_core env t core other (core_means core a) m;
    refused = tt;
    typed = well_typed env (is_sound env compiled) t core (core_means core a);
  }
  text_checked (Err NoMemory) a = record {
    meaning = tt;
    only = λ other m. tt;
    refused = tt;
    typed = tt;
  }
  text_checked (Err (NoMeaning at why)) a = record {
    meaning = tt;
    only = λ other m. absurd (meant_is_not_refused env t other (at, why) m (is_refused (at, why) a));
    refused = is_refused (at, why) a;
    typed = tt;
  }
