-- What procedures on data spaces deliver is of the kinds of their results.
use Rattle.std.proofs.Common.{◌≡◌, List, Option, Some, None, refl, subst}
use Rattle.std.specs.Prelude.{Ok, Err}
use Rattle.eu_base.specs.declared.value.Kind.{Kind}
use Rattle.eu_base.specs.declared.value.Kind.TheVariants as kinds
use Rattle.eu_base.specs.declared.value.Value.{Value}
use Rattle.eu_base.specs.declared.stop.Stop.{Stop}
use Rattle.eu_base.specs.declared.stop.Stop.TheVariants.{NoName, NoSpace}
use Rattle.eu_base.specs.declared.space_operation.SpaceOperation.{SpaceOperation}
use Rattle.eu_base.specs.declared.space_operation.SpaceOperation.TheVariants.{KindOf, New, Old, IsNamed, SetKind, Forget, ForgetNamed, Rename, CopyNamed}
use Rattle.eu_base.specs.Values.{SpaceNo, kind_of}
use Rattle.eu_base.specs.Operations.{text_at, space_at}
use Rattle.eu_base.specs.DataSpaces.{Heads, under}
use Rattle.eu_base.specs.SpaceOperations.{Plan, unless, for_one, name_refusal, room_refusal, life_refusal, kind_plan, planned, space_result_kind}

-- a value of this kind, or none
abbrev pub IsAnswer : Option Kind → Option Value → Type 0
IsAnswer None None = Unit {0}
IsAnswer (Some k) (Some v) = kind_of v ≡ k
IsAnswer _ _ = ⊥

abbrev pub Delivers : Option Kind → Plan (Option Value) → Type 0
Delivers k (Ok plan) = IsAnswer k plan.0
Delivers k (Err stop) = Unit {0}

unless_delivers : (k : Option Kind) (refusal : Option Stop) (plan : Plan (Option Value)) → Delivers k plan → Delivers k (unless refusal plan)
unless_delivers k (Some stop) plan h = tt
unless_delivers k None plan h = h

one_delivers : (k : Option Kind) (stop : Stop) (s : Option SpaceNo) (plan : SpaceNo → Plan (Option Value)) → ((s : SpaceNo) → Delivers k (plan s))
    → Delivers k (for_one stop s plan)
one_delivers k stop None plan h = tt
one_delivers k stop (Some s) plan h = h s

kind_delivers : (s : Option SpaceNo) (heads : Heads) → Delivers (Some kinds.Int) (kind_plan s heads)
kind_delivers None heads = refl
kind_delivers (Some s) heads = unless_delivers (Some kinds.Int) (life_refusal s heads) _ refl

pub planned_delivers : (operation : SpaceOperation) (vs : List Value) (heads : Heads) → Delivers (space_result_kind operation) (planned operation vs heads)
planned_delivers KindOf vs heads = kind_delivers (space_at vs 0) heads
planned_delivers New vs heads =
    unless_delivers (Some kinds.Space) (name_refusal (text_at vs 0) heads) _ (unless_delivers (Some kinds.Space) (room_refusal heads) _ refl)
planned_delivers Old vs heads = one_delivers (Some kinds.Space) NoName (under (text_at vs 0) heads) _ (λ s. refl)
planned_delivers IsNamed vs heads = refl
planned_delivers SetKind vs heads = one_delivers None NoSpace (space_at vs 0) _ (λ s. unless_delivers None (life_refusal s heads) _ tt)
planned_delivers Forget vs heads = tt
planned_delivers ForgetNamed vs heads = one_delivers None NoName (under (text_at vs 0) heads) _ (λ s. tt)
planned_delivers Rename vs heads =
    one_delivers None NoName (under (text_at vs 0) heads) _ (λ s. unless_delivers None (name_refusal (text_at vs 1) heads) _ tt)
planned_delivers CopyNamed vs heads =
    one_delivers None NoName (under (text_at vs 0) heads) _ (λ s.
    unless_delivers None (name_refusal (text_at vs 1) heads) _ (unless_delivers None (room_refusal heads) _ tt))
