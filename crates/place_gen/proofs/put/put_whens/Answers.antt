use Rattle.std.proofs.Common.{rules, ◌≡◌, ◌+◌, ◌<◌, refl, [], ◌∷◌, drop, length, get_or, sym, subst, arith, add-one, drop-cons, pos}
use Rattle.std.proofs.lemmas.List.{drop_all}
use Rattle.std.proofs.lemmas.Int.{to_z-of_z}
use Rattle.std.specs.Int.{w16}
use Rattle.std.specs.Int.RustNames.{FitsSigned}
use Rattle.code_form.specs.declared.instr.Instr.TheVariants.{When}
use Rattle.place_gen.specs.Stretch.{one, keeps, whens_code}
use Rattle.place_gen.specs.Makes.{Makes}
use Rattle.place_gen.proofs.Makes.{whens_makes, no_whens}
use Rattle.place_gen.proofs.put.put_whens.Goals as goal

pub loop-label-init : goal.loop-label-init
loop-label-init c new m = m

pub loop-label-preserved : goal.loop-label-preserved
loop-label-preserved c new m =
    let i = c.loop-label.label-index in
    let rest : drop i c.args.labels.now ≡ get_or c.args.labels.now i (pos 0) ∷ drop (i + 1) c.args.labels.now = let within : i < length c.args.labels.now =
    omega arith in rw (add-one, drop-cons c.args.labels.now i (pos 0) within) refl in
    let z = get_or c.args.labels.now i (pos 0) in
    let h : Makes (one (When z c.args.to) keeps) c.loop-label.out c.add.new.self = let fits : FitsSigned w16 z = search rules in
    simp to_z-of_z at c.add.ensures in
    c.loop-label.invariant new
    (subst (λ zs. Makes (whens_code zs c.args.to) c.loop-label.out new) (sym rest) (whens_makes z (drop (i + 1) c.args.labels.now) c.args.to h m))

pub returns : goal.returns
returns c =
    let none : drop c.loop-label.label-index c.args.labels.now ≡ [] = drop_all c.loop-label.label-index c.args.labels.now (omega arith) in
    c.loop-label.invariant c.loop-label.out (subst (λ zs. Makes (whens_code zs c.args.to) c.loop-label.out c.loop-label.out) (sym none) (no_whens c.args.to))
