-- Where the machine stands, from what is kept of it and the tables of the code; none where it does not fit the code.
use Rattle.std.specs.Prelude.{◌≡◌, ℕ, zero, suc, ◌+◌, Bool, true, false, not, ◌&&◌, ◌||◌, cond, nat_eq, nat_le, nat_lt, List, [], ◌∷◌, ◌++◌, map, drop, flat_map, length, reverse, Option, Some, None, slice_get}
use Rattle.eu_base.specs.declared.value.Kind.{Kind}
use Rattle.eu_base.specs.declared.address.TheConstants.{CELLS}
use Rattle.eu_base.specs.Values.{kind_of, same_kind}
use Rattle.eu_base.specs.Shapes.{cell_kinds}
use Rattle.eu_base.specs.Room.{cells_fit, bytes_fit}
use Rattle.code_form.specs.declared.instr.Instr.{Instr}
use Rattle.code_form.specs.declared.instr.Instr.TheVariants.{Call, Refer}
use Rattle.code_form.specs.declared.code.Line.{Line}
use Rattle.code_form.specs.declared.code.Entry.{Entry}
use Rattle.code_form.specs.declared.code.Layout.{Layout}
use Rattle.code_form.specs.declared.code.Layout.TheVariants.{Own, Of as RefinesOf, Level}
use Rattle.code_form.specs.declared.operand.Operand.{Operand}
use Rattle.code_form.specs.declared.operand.Operand.TheVariants.{Value as Of, Place as At, Aggregate}
use Rattle.code_form.specs.declared.operand.OperandKind.{OperandKind}
use Rattle.code_form.specs.declared.operand.OperandKind.TheVariants.{Value, Place}
use Rattle.code_form.specs.Program.{Program, instr_of, cell_uses}
use Rattle.code_form.specs.Machine.{Frame, Control, base_of, bytes_on, bytes_of}
use Rattle.code_form.specs.Valid.{is_ask, is_asking, is_refused}
use Rattle.zero_state.specs.Stacked.{Stacked}
use Rattle.state_spelling.specs.declared.kept.KeptFrame.{KeptFrame}
use Rattle.state_spelling.specs.declared.kept.Kept.{Kept}
use Rattle.byte_spelling.specs.Spelling.{◌>>=◌}
use Rattle.state_spelling.specs.Standing.{held_used}

-- ---- operands

abbrev pub same_kinds : List Kind → List Kind → Bool
same_kinds [] [] = true
same_kinds (k ∷ ks) (j ∷ js) = same_kind k j && same_kinds ks js
same_kinds _ _ = false

-- a list of one value is that value
abbrev pub is_single : {A : Type 0} → List A → Bool
is_single (a ∷ []) = true
is_single _ = false

abbrev pub has_kinds : Operand → List Kind → Bool
has_kinds (Of v) ks = same_kinds (kind_of v ∷ []) ks
has_kinds (At a) ks = false
has_kinds (Aggregate vs) ks = not (is_single vs) && same_kinds (map kind_of vs) ks

abbrev pub is_place : Operand → Bool
is_place (At a) = nat_lt a.cell CELLS
is_place _ = false

abbrev pub fits_kind : Operand → OperandKind → Bool
fits_kind o (Value s) = has_kinds o (cell_kinds s)
fits_kind o (Place s) = is_place o

-- the next operand, where it is of a kind and has room
abbrev pub next_operand : OperandKind → ℕ → List Operand × List Operand → Option (List Operand × List Operand)
next_operand k held (ops, []) = None
next_operand k held (ops, o ∷ left) = cond (fits_kind o k && bytes_fit (bytes_on (o ∷ ops) held)) (Some (o ∷ ops, left)) None

-- operands of these kinds, of which the newest stands first, and those that are left. Some are pending below already
unfoldable pub taken : List OperandKind → ℕ → List Operand → Option (List Operand × List Operand)
taken [] held left = Some ([], left)
taken (k ∷ ks) held left = taken ks held left >>= next_operand k held

-- ---- frames

-- the body of the innermost frame, the cells that are in use without its limits, the frames, and the operands that are left
pub record Walk : Type 0 where
  pub body : Option ℕ
  pub floor : ℕ
  pub frames : List Frame
  pub left : List Operand

abbrev pub same_body : Option ℕ → Option ℕ → Bool
same_body None None = true
same_body (Some m) (Some n) = nat_eq m n
same_body _ _ = false

-- a frame was made, where the cells that it names are those that the step uses
abbrev pub enters_if : Bool → Bool → ℕ → ℕ → KeptFrame → List OperandKind → Walk → Option Walk
enters_if cells refines n floor f ks w =
    cond cells
    (taken ks (bytes_of w.frames) w.left >>= λ r. Some (record {
      body = Some n;
      floor = floor;
      frames = record { back = f.back; base = f.base; used = f.used; refines = refines; body = n; ops = r.0 } ∷ w.frames;
      left = r.1;
    }))
    None

abbrev pub called : Layout → ℕ → List OperandKind → KeptFrame → Walk → Option Walk
called (Own parameters variables) n ks f w =
    enters_if (nat_eq f.base (f.used + 2)) false n (f.base + length (flat_map cell_uses parameters) + length variables) f (drop (length parameters) ks) w
called _ n ks f w = None

abbrev pub referred : Layout → ℕ → List OperandKind → KeptFrame → Walk → Option Walk
referred (Own parameters variables) n ks f w = None
referred _ n ks f w = enters_if (nat_eq f.base (base_of w.frames)) true n (f.used + 2) f ks w

abbrev pub called_by : Option Entry → ℕ → List OperandKind → KeptFrame → Walk → Option Walk
called_by None n ks f w = None
called_by (Some e) n ks f w = called e.layout n ks f w

abbrev pub referred_by : Option Entry → ℕ → List OperandKind → KeptFrame → Walk → Option Walk
referred_by None n ks f w = None
referred_by (Some e) n ks f w = referred e.layout n ks f w

abbrev pub made_by : Program → Instr → List OperandKind → KeptFrame → Walk → Option Walk
made_by p (Call n) ks f w = called_by (slice_get p.bodies n) n ks f w
made_by p (Refer n) ks f w = referred_by (slice_get p.bodies n) n ks f w
made_by p _ ks f w = None

abbrev pub made_at : Program → Option Line → KeptFrame → Walk → Option Walk
made_at p None f w = None
made_at p (Some l) f w = cond (same_body l.spot.body w.body && nat_eq f.used (w.floor + l.spot.limits)) (made_by p l.instr l.operands f w) None

-- the instruction before the one to which a frame returns made it
abbrev pub maker : Program → ℕ → Option Line
maker p zero = None
maker p (suc pc) = slice_get p.lines pc

abbrev pub walk_step : Program → KeptFrame → Walk → Option Walk
walk_step p f w = made_at p (maker p f.back) f w

unfoldable pub walk : Program → Walk → List KeptFrame → Option Walk
walk p w [] = Some w
walk p w (f ∷ fs) = walk_step p f w >>= λ next. walk p next fs

abbrev pub first_walk : Program → List Operand → Walk
first_walk p left = record { body = None; floor = length p.variables; frames = []; left = left }

-- ---- all of it

abbrev pub may_wait : Kept → Instr → Bool
may_wait k i = (not (is_asking k.waits) || is_ask (Some i)) && (is_refused k.waits || cells_fit k.used)

abbrev pub stands : Kept → ℕ → Walk → List Operand × List Operand → Option Control
stands k used w (ops, []) = Some (record { position = record { pc = k.pc; ops = ops; used = used; frames = w.frames }; waits = k.waits })
stands k used w (ops, o ∷ left) = None

abbrev pub stands_at : Kept → Option Line → Walk → Option Control
stands_at k None w = None
stands_at k (Some l) w =
    cond (same_body l.spot.body w.body && nat_eq k.used (held_used (w.floor + l.spot.limits)) && may_wait k l.instr)
    (taken l.operands (bytes_of w.frames) w.left >>= stands k (w.floor + l.spot.limits) w) None

unfoldable pub revived : Program → Kept → Option Control
revived p k = walk p (first_walk p k.operands) k.frames >>= stands_at k (slice_get p.lines k.pc)

abbrev pub is_own : Layout → Bool
is_own (Own parameters variables) = true
is_own _ = false
