use Rattle.elan_check.proofs.Inserted.{is_sound}
use Rattle.elan_check.proofs.WellTyped.{well_typed}
use Rattle.elan_check.proofs.laws.what_a_text_means_is_well_typed.Goals as goal

pub returns : goal.returns
returns c = λ e h t b m. well_typed e (is_sound e h) t b m
