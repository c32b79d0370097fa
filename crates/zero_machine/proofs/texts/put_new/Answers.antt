use Rattle.std.proofs.Common.{◌≡◌, subst}
use Rattle.eu_base.specs.Cells.{Word, Cells, HasText, Puts, written, cell_blocks}
use Rattle.zero_machine.proofs.Contents.{new_so}
use Rattle.zero_machine.proofs.texts.put_new.Goals as goal

pub returns-clause-puts : goal.returns-clause-puts
returns-clause-puts g c =
    let before = g.M.Memory.holds c.args.m.now in
    let between = g.M.Memory.holds c.set_cell.new.self in
    let after = g.M.Memory.holds c.set_text.new.self in
    new_so before between after (g.met.M.Memory.forgets c.set_cell.new.self) (g.met.M.Memory.empty c.set_cell.new.self)
    (g.met.M.Memory.forgets c.set_text.new.self) c.args.cell c.args.text.now c.in_ok-set.set c.requires
    (subst (λ a. (cells : Cells) → before cells → cell_blocks (cells a) ≡ 0 → between (written cells a (Word 0))) c.run_cell-at.ensures
    c.in_ok-set_cell.ensures.written)
    (subst (λ a. (cells : Cells) → between cells → HasText (cells a) → Puts after cells a c.args.text.now c.in_ok-set.set) c.run_cell-at.ensures
    c.in_ok-set.ensures.puts)
