use Rattle.elan_parser.proofs.Marks.{name_passed}
use Rattle.elan_parser.proofs.texts.pass_name.Goals as goal

pub returns : goal.returns
returns c = name_passed _ _ _ _ c.passes_same-name.ensures
