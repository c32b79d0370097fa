-- How a value with several owners is stored, so that a recursive type may share values of itself.
use mathlib.Core.Path.{refl}
use mathlib.Core.Former.{Former, this, const, pair, via}
use base.Stored.{gnil}
use base.Fml.{ftrue}
use denote.RattleType.{RattleType}
use denote.Memory.{part_of}
use denote.RawPtr.{Ptr}
use denote.Sharing.{nothing}
use denote.HoleLaws.{Alike}
use denote.HolePlaces.{Recodes, struct_places, laid, one_value}
use denote.Hole.Fix.{over}
use denote.Param.Weighed.{Weighed}
use denote.Model.Placed.{view_places}
use Rattle.std.specs.declared.rc.Rc.{Rc}
use Rattle.std.specs.contracts.rc.Rc as std_rc
use Rattle.std.specs.declared.alloc.Global.{Global}
use Rattle.std.specs.contracts.alloc.Global as heap
use Rattle.std.specs.contracts.impls.GlobalAllocator.TheImpl.{ghosts}
use Rattle.containers.specs.declared.shared.Shared.TheInside.{Inside}
use Rattle.containers.specs.declared.shared.Shared.TheView.{view, invariant}
use Rattle.containers.specs.contracts.shared.Shared as outer
use Rattle.containers.specs.contracts.shared.Shared.TheInside as inner

-- It has the shape of its value.
abbrev pub the_former : Former {0} → Former {0}
the_former item = item

abbrev pub the_weighed : {item : Former {0}} → Weighed item → Weighed (the_former item)
the_weighed w = w

-- its one field: a pointer beside the value
abbrev fields : Former {0}
fields = via (pair (const Ptr) this) Inside (λ X inside. (inside.owned.ptr, inside.owned.value))
    (λ X parts. record { owned = record { ptr = parts.0; value = parts.1 } }) (λ X inside. refl) (λ X parts. refl)

abbrev holding : {X Y : Type 0} → Rc X Global → Y → Rc Y Global
holding from y = record { ptr = from.ptr; value = y }

abbrev rc_of : RattleType → RattleType
rc_of R = std_rc.the_row R heap.the_row ghosts

module _ (R S : RattleType) (h : R.Denot → S.Denot) where
  rc_places : Alike R S h → Alike (rc_of R) (rc_of S) (λ c. holding c (h c.value))
  unfolding part_of
  rc_places alike = record {
    mir_same = λ i. (rc_of (one_value R (alike.mir_same i) (λ _. ftrue) (λ _ _. nothing) gnil)).mir;
    own_same = λ c i. (rc_of (one_value R (alike.mir_same i) (alike.own_same c.value i) (alike.shr_same c.value i) gnil)).own_val (holding c tt);
    shr_same = λ c i. (rc_of (one_value R (alike.mir_same i) (alike.own_same c.value i) (alike.shr_same c.value i) gnil)).shr_at (holding c tt);
  }

  pub the_places : Alike R S h → Alike (outer.the_row R) (outer.the_row S) ((the_former this).map R.Denot S.Denot h)
  the_places alike = view_places fields this view (λ X Y k u. refl) (λ X u. refl) R.Denot S.Denot h (outer.the_row R).coded (outer.the_row S).coded
      (invariant R.Denot) (invariant S.Denot) (λ u p q. refl) (λ u p q. refl) (λ u e. tt) (λ u e. tt)
      (over (inner.the_row R)) (over (inner.the_row S))
      (struct_places (inner.the_type R) (inner.the_type S) ((λ c. holding c (h c.value)), tt) _ (λ c. refl) refl (laid _ _ _ (rc_places alike), tt))

  pub the_codes_placed : Recodes R S h → Recodes (outer.the_row R) (outer.the_row S) ((the_former this).map R.Denot S.Denot h)
  the_codes_placed same value = same value
