-- Operands of the same kinds fit code, and there is room for less.
use Rattle.std.proofs.Common.{◌≡◌, ℕ, ◌≤◌, true, List, [], ◌∷◌, map, length, refl, ap, ◌∙◌, sym, arith}
use Rattle.std.proofs.lemmas.Bool.{le-leb, leb-true}
use Rattle.eu_base.specs.declared.value.TheConstants.{OPERAND_BYTES}
use Rattle.eu_base.specs.declared.value.Kind.{Kind}
use Rattle.eu_base.specs.declared.value.Value.{Value}
use Rattle.eu_base.specs.Values.{kind_of}
use Rattle.eu_base.specs.Shapes.{cell_kinds}
use Rattle.eu_base.specs.Room.{bytes_fit}
use Rattle.code_form.specs.declared.operand.Operand.{Operand}
use Rattle.code_form.specs.declared.operand.Operand.TheVariants.{Value as Of, Place as At, Aggregate}
use Rattle.code_form.specs.declared.operand.OperandKind.{OperandKind}
use Rattle.code_form.specs.declared.operand.OperandKind.TheVariants.{Value as OfKind, Place as AtKind}
use Rattle.code_form.specs.Program.{Program}
use Rattle.code_form.specs.Machine.{Position, free, operand_of, operand_bytes, bytes_on, bytes_of}
use Rattle.code_form.specs.Valid.{HasKinds, IsPlace, FitsKind, FitsKinds, Fits}
use Rattle.code_form.proofs.Frames.{has_values}
use Rattle.zero_state.specs.Stepping.{IsLike, AreLike}

-- there is room for less
pub less_fits : (m n : ℕ) → m ≤ n → bytes_fit n ≡ true → bytes_fit m ≡ true
less_fits m n le e = le-leb m OPERAND_BYTES (omega (arith, le, leb-true n OPERAND_BYTES e))

-- operands are like themselves
pub same_like : (ops : List Operand) → AreLike ops ops
same_like [] = tt
same_like (Of v ∷ ops) = ((refl, omega arith), same_like ops)
same_like (At a ∷ ops) = ((λ cell. cell), same_like ops)
same_like (Aggregate vs ∷ ops) = ((refl, omega arith), same_like ops)

pub like_length : (ops qs : List Operand) → AreLike ops qs → length qs ≡ length ops
like_length [] [] like = refl
like_length [] (q ∷ qs) like = absurd like
like_length (o ∷ ops) [] like = absurd like
like_length (o ∷ ops) (q ∷ qs) like = let rest = like_length ops qs like.1 in omega (arith, rest)

like_byte : (o q : Operand) → IsLike o q → operand_bytes q ≤ operand_bytes o
like_byte (Of v) (Of w) like = like.1
like_byte (Of v) (At b) like = absurd like
like_byte (Of v) (Aggregate ws) like = absurd like
like_byte (At a) (Of w) like = absurd like
like_byte (At a) (At b) like = omega arith
like_byte (At a) (Aggregate ws) like = absurd like
like_byte (Aggregate vs) (Of w) like = absurd like
like_byte (Aggregate vs) (At b) like = absurd like
like_byte (Aggregate vs) (Aggregate ws) like = like.1

like_bytes : (ops qs : List Operand) (held : ℕ) → AreLike ops qs → bytes_on qs held ≤ bytes_on ops held
like_bytes [] [] held like = omega arith
like_bytes [] (q ∷ qs) held like = absurd like
like_bytes (o ∷ ops) [] held like = absurd like
like_bytes (o ∷ ops) (q ∷ qs) held like =
    let rest = like_bytes ops qs held like.1 in let here = like_byte o q like.0 in omega (arith, rest, here)

-- they are values of the same kinds
kinds_kept : (vs ws us : List Value) → Aggregate vs ≡ operand_of us → map kind_of vs ≡ map kind_of ws → Aggregate ws ≡ operand_of ws
kinds_kept vs ws (u ∷ []) e same = absurd (cc e)
kinds_kept vs [] us e same = refl
kinds_kept vs (w ∷ x ∷ ws) us e same = refl
kinds_kept vs (w ∷ []) [] e same =
    let none : vs ≡ [] = cc e in let f : map kind_of [] ≡ kind_of w ∷ [] = ap (map kind_of) (sym none) ∙ same in absurd (cc f)
kinds_kept vs (w ∷ []) (u ∷ y ∷ us) e same =
    let more : vs ≡ u ∷ y ∷ us = cc e in
    let f : kind_of u ∷ kind_of y ∷ map kind_of us ≡ kind_of w ∷ [] = ap (map kind_of) (sym more) ∙ same in absurd (cc f)

like_kinds_of : (o q : Operand) (ks : List Kind) → IsLike o q → HasKinds o ks → HasKinds q ks
like_kinds_of (Of v) (Of w) ks like fits = record { values = w ∷ []; is = refl; kinds = ap (λ k. k ∷ []) (sym like.0) ∙ has_values (Of v) ks fits }
like_kinds_of (Of v) (At b) ks like fits = absurd like
like_kinds_of (Of v) (Aggregate ws) ks like fits = absurd like
like_kinds_of (At a) q ks like fits = absurd (has_values (At a) ks fits)
like_kinds_of (Aggregate vs) (Of w) ks like fits = absurd like
like_kinds_of (Aggregate vs) (At b) ks like fits = absurd like
like_kinds_of (Aggregate vs) (Aggregate ws) ks like fits = record {
  values = ws;
  is = kinds_kept vs ws fits.values fits.is like.0;
  kinds = sym like.0 ∙ has_values (Aggregate vs) ks fits;
}

like_place : (o q : Operand) → IsLike o q → IsPlace o → IsPlace q
like_place (Of v) q like fits = absurd fits
like_place (Aggregate vs) q like fits = absurd fits
like_place (At a) (Of w) like fits = absurd like
like_place (At a) (At b) like fits = like fits
like_place (At a) (Aggregate ws) like fits = absurd like

like_kind : (o q : Operand) (k : OperandKind) → IsLike o q → FitsKind o k → FitsKind q k
like_kind o q (OfKind s) like fits = like_kinds_of o q (cell_kinds s) like fits
like_kind o q (AtKind s) like fits = like_place o q like fits

like_kinds : (ops qs : List Operand) (ks : List OperandKind) → AreLike ops qs → FitsKinds ops ks → FitsKinds qs ks
like_kinds [] [] ks like fits = fits
like_kinds [] (q ∷ qs) ks like fits = absurd like
like_kinds (o ∷ ops) [] ks like fits = absurd like
like_kinds (o ∷ ops) (q ∷ qs) [] like fits = absurd fits
like_kinds (o ∷ ops) (q ∷ qs) (k ∷ ks) like fits = (like_kind o q k like.0 fits.0, like_kinds ops qs ks like.1 fits.1)

-- so they fit code where the others do
pub like_fits : (p : Program) (c : Position) (ops : List Operand) → AreLike c.ops ops → Fits p (free c) → Fits p (free (record c { ops = ops }))
like_fits p c ops like f = record {
  kinds = f.kinds;
  spot = f.spot;
  floor = f.floor;
  next = f.next;
  operands = like_kinds c.ops ops f.kinds like f.operands;
  frames = f.frames;
  used = f.used;
  asks = f.asks;
  cells = f.cells;
  bytes = less_fits (bytes_on ops (bytes_of c.frames)) (bytes_on c.ops (bytes_of c.frames)) (like_bytes c.ops ops (bytes_of c.frames) like) f.bytes;
}
