use Rattle.elan_parser.proofs.Marks.{semicolon_passed, point_passed}
use Rattle.elan_parser.proofs.texts.pass_last_mark.Goals as goal

pub returns-then-passes_sign : goal.returns-then-passes_sign
returns-then-passes_sign c = semicolon_passed _ _ _ c.passes_sign.ensures c.if-passes_sign.true

pub returns : goal.returns
returns c = point_passed _ _ _ _ _ c.passes_sign.ensures c.if-passes_sign.false c.passes_sign-point.ensures
