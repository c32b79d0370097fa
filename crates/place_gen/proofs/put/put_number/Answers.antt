use Rattle.std.proofs.Common.{subst, Some}
use Rattle.std.proofs.lemmas.Int.{to_z-of_z}
use Rattle.code_form.specs.declared.instr.Instr.TheVariants.{Number}
use Rattle.place_gen.specs.Adds.{left}
use Rattle.place_gen.specs.Stretch.{one}
use Rattle.place_gen.specs.Makes.{Makes}
use Rattle.place_gen.proofs.put.put_number.Goals as goal

pub returns : goal.returns
returns c =
    let fits = c.ranges.number in
    subst (λ k. Makes (one (Number c.args.number) (left 0 (Some k))) c.args.out.now c.add.new.self) c.cell_value.ensures (simp to_z-of_z at c.add.ensures)
