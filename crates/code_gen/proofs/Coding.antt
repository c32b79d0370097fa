-- Code that does what is reached does what the command does. A command has one code.
use Rattle.std.proofs.Common.{◌≡◌, ℕ, Bool, List, Option, Some, None, Result, Ok, Err, refl, sym, ap, ◌∙◌, subst}
use Rattle.std.specs.Prelude.{slice_get, IfOk}
use Rattle.code_form.specs.Program.{Program}
use Rattle.code_form.specs.Machine.{start}
use Rattle.elan_types.specs.declared.core_phrase.Body.{Body}
use Rattle.elan_types.specs.declared.core_phrase.Core.{Core}
use Rattle.elan_types.specs.Eval.{World}
use Rattle.elan_types.specs.Command.{call_kinds, first_kinds, evaluate_from}
use Rattle.place_gen.specs.Correct.{Shows, Comes, scene_of}
use Rattle.elan_types.specs.Typing.{IsWellTyped}
use Rattle.code_gen.specs.Correct.{Behaves}
use Rattle.code_gen.specs.Program.{program_of}
use Rattle.code_gen.proofs.Whole.{behaves}
use Rattle.code_gen.specs.Reached.{IsReached, at_start, with_bodies}
use Rattle.code_gen.specs.walks.Marks.{AreMarks, AreLeft, left_from}
use Rattle.code_gen.proofs.Left.{kept, each}
use Rattle.code_gen.proofs.Levels.{evaluate_same}
use Rattle.code_gen.proofs.Typed.{well_typed}
use Rattle.code_gen.specs.Codes.{IsCodeOf}

pub reached_behaves : (core : Core) (bodies : List Body) (p : Program) → ((n : ℕ) → IsReached core n → slice_get bodies n ≡ slice_get core.bodies n)
    → ((w : World) → evaluate_from (with_bodies core bodies) w ≡ evaluate_from core w) → Behaves (with_bodies core bodies) p → Behaves core p
reached_behaves core bodies p kept same b = record {
  packets = b.packets;
  inserted = b.inserted;
  first = b.first ∙ first core.start refl;
  ends = λ w m h. subst (Comes p (start p) (scene_of w m)) (same w) (b.ends w m h);
  only = λ w m n r h e. subst (λ e. Shows p e r) (same w) (b.only w m n r h e);
}
  where
    first : (o : Option ℕ) → core.start ≡ o → first_kinds o (with_bodies core bodies) ≡ first_kinds o core
    first None e = refl
    first (Some q) e = ap call_kinds (kept q (at_start q e))

-- A command has one code, which does what the command does.
pub code_behaves : (core : Core) (p : Program) → IsCodeOf core p → Behaves core p
code_behaves core p i =
    let made : List Body = left_from 0 i.marks core.bodies in
    let kept_there = kept core i.marks i.are_marks made refl in
    let typed = well_typed core made kept_there (each core i.marks i.are_marks made refl) i.typed in
    reached_behaves core made p kept_there (evaluate_same core made kept_there) (subst (λ q. Behaves (with_bodies core made) q) (sym i.is) (behaves (with_bodies core made) typed))

abbrev pub OneLeft : Type 0
OneLeft = (core : Core) (a b : List Bool) → AreMarks core a → AreMarks core b → left_from 0 a core.bodies ≡ left_from 0 b core.bodies

pub one_code : OneLeft → (core : Core) (p q : Program) → IsCodeOf core p → IsCodeOf core q → p ≡ q
one_code one core p q i j =
    i.is ∙ ap (λ (bodies : List Body). program_of (with_bodies core bodies)) (one core i.marks j.marks i.are_marks j.are_marks) ∙ sym j.is

pub is_code : {E : Type 0} (core : Core) (bodies : List Body) (r : Result Program E) → IsWellTyped core → AreLeft core bodies
    → IfOk r (λ p. p ≡ program_of (with_bodies core bodies)) → IfOk r (IsCodeOf core)
is_code core bodies (Ok p) typed left is = record {
  typed = typed;
  marks = left.0;
  are_marks = left.1;
  is = is ∙ ap (λ (made : List Body). program_of (with_bodies core made)) left.2;
}
is_code core bodies (Err e) typed left is = tt
