-- Deliveries that are told to be the same are equal.
use Rattle.std.proofs.Common.{◌≡◌, true, List, [], ◌∷◌, refl, ap, ◌∙◌}
use lib.Pointwise.{pointwise}
use Rattle.elan_types.specs.declared.elan_type.ElanType.{ElanType}
use Rattle.elan_types.proofs.Shapes.{both}
use Rattle.elan_types.proofs.Types.{same_type_is}
use Rattle.elan_scope.specs.declared.delivery.Delivery.{Delivery}
use Rattle.elan_scope.specs.declared.delivery.Delivery.TheVariants.{Open, Nothing, Of}
use Rattle.elan_judge.specs.walks.Rounds.{same_delivery}

delivery_is : (a b : Delivery) → same_delivery a b ≡ true → a ≡ b
delivery_is Open Open e = refl
delivery_is Open Nothing e = absurd cc
delivery_is Open (Of u) e = absurd cc
delivery_is Nothing Open e = absurd cc
delivery_is Nothing Nothing e = refl
delivery_is Nothing (Of u) e = absurd cc
delivery_is (Of t) Open e = absurd cc
delivery_is (Of t) Nothing e = absurd cc
delivery_is (Of t) (Of u) e = ap (λ (v : ElanType). Of v) (same_type_is t u e)

pub deliveries_are : (ds es : List Delivery) → pointwise same_delivery ds es ≡ true → ds ≡ es
deliveries_are [] [] e = refl
deliveries_are [] (b ∷ es) e = absurd cc
deliveries_are (a ∷ ds) [] e = absurd cc
deliveries_are (a ∷ ds) (b ∷ es) e =
    let h = both (same_delivery a b) (pointwise same_delivery ds es) e in
    ap (λ (d : Delivery). d ∷ ds) (delivery_is a b h.0) ∙ ap (λ (cs : List Delivery). b ∷ cs) (deliveries_are ds es h.1)
