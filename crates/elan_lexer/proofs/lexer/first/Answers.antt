use Rattle.std.proofs.Common.{◌≡◌, sym, subst}
use Rattle.elan_lexer.specs.declared.front.Front.{Front}
use Rattle.elan_lexer.specs.Scan.{scan, IsLongest}
use Rattle.elan_lexer.proofs.Forms.{longest_of}
use Rattle.elan_lexer.proofs.lexer.first.Goals as goal

pub returns : goal.returns
returns c =
    let e : c.in_ok-front.front ≡ scan c.args.text.now = c.in_ok-front.ensures in
    subst (λ (f : Front). IsLongest c.args.text.now f) (sym e) (longest_of c.args.text.now c.requires)
