-- A BOUND variable is bound to a data space.
use Rattle.std.proofs.Common.{◌≡◌, ℕ, zero, suc, ◌+◌, ◌<◌, ◌≤◌, Bool, true, false, cond, nat_eq, List, [], ◌∷◌, length, drop, Option, Some, None, refl, sym, ap, ◌∙◌, subst, arith, eqb-true}
use Rattle.std.proofs.Common.{◌⊎◌, inl, inr, ⊎_elim}
use Rattle.std.proofs.lemmas.Bool.{cases_eq, leb-true}
use Rattle.std.specs.Map.{lookup, set_value}
use Rattle.std.specs.Option.{IsSome}
use Rattle.std.specs.Prelude.{Ok, Err, ◌&&◌, ◌==◌, if◌then◌else◌}
use Rattle.eu_base.specs.declared.address.Addr.{Addr}
use Rattle.eu_base.specs.declared.address.Area.{Area}
use Rattle.eu_base.specs.declared.address.Area.TheVariants as areas
use Rattle.eu_base.specs.declared.address.TheConstants.{CELLS}
use Rattle.eu_base.specs.declared.shape.Shape.{Shape}
use Rattle.eu_base.specs.declared.stop.Stop.{Stop}
use Rattle.eu_base.specs.declared.stop.Stop.TheVariants.{NoSpace, WrongShape, CellRoom}
use Rattle.eu_base.specs.declared.value.Kind.{Kind}
use Rattle.eu_base.specs.declared.value.Kind.TheVariants as kinds
use Rattle.eu_base.specs.declared.value.Value.TheVariants as item
use Rattle.eu_base.specs.Values.{SpaceNo, space_in}
use Rattle.eu_base.specs.Room.{cells_fit}
use Rattle.eu_base.specs.Shapes.{cell_kinds, cell_count, same_shape}
use Rattle.eu_base.specs.Cells.{Cell, Free, Word, Letters, Cells, AreBare, held_of, written, cell_blocks, area_cell, same_area}
use Rattle.eu_base.specs.DataSpaces.{Head, Heads, SpaceChange, Fills, is_live, IsLive, the_head, heads_by}
use Rattle.eu_base.specs.SpaceCells.{IsThere, blank_cells, cells_by}
use Rattle.eu_base.specs.SpacePlaces.{shaped_kinds, kinds_of, begin_with, lies_in}
use Rattle.eu_base.specs.SpaceOperations.{Plan, unless, for_one, life_refusal, fitting_plan, bind_plan}
use Rattle.space_calls.specs.Below.code_form.specs.declared.operand.Operand.{Operand}
use Rattle.space_calls.specs.Below.code_form.specs.Machine.{Mem, Position, Move, Halts, Unknown, goes, is_free, takes_number, with_cells, mem_by, mem_after, are_unknown, can_all_change, fills, keeps_space, binds}
use Rattle.zero_state.specs.declared.next.Next.{Next}
use Rattle.zero_state.specs.Stepping.{mem_of}
use Rattle.zero_state.proofs.Blocks.{number_bare}
use Rattle.space_calls.specs.Planned.{IsStop}
use Rattle.space_calls.specs.Assigned.{Act, Assigned, Refused, Shaped}
use Rattle.space_calls.proofs.Counts.{kinds_counted}

-- nothing is known of so many cells, so they are bare
free_bare : (x : Cell) → is_free x ≡ true → cell_blocks x ≡ 0
free_bare Free e = refl
free_bare (Word n) e = refl
free_bare (Letters t) e = absurd (cc e)

both : (a b : Bool) → (a && b) ≡ true → (a ≡ true) × (b ≡ true)
both true b e = (refl, e)
both false b e = absurd (cc e)

unknown_bare : (area : Area) (n at : ℕ) (cells : Cells) → are_unknown area at n cells ≡ true → AreBare area at n cells
unknown_bare area zero at cells e k le lt = absurd (omega (arith, le, lt))
unknown_bare area (suc n) at cells e k le lt =
    let b = both (is_free (cells (area_cell area at))) (are_unknown area (suc at) n cells) e in
    ⊎_elim
    (λ (is : at ≡ k). ap (λ (j : ℕ). cell_blocks (cells (area_cell area j))) (sym is) ∙ free_bare (cells (area_cell area at)) b.0)
    (λ (ne : at ≡ k → ⊥). unknown_bare area n (suc at) cells b.1 k (grind (arith, le, ne)) (omega (arith, lt)))
    (cases_eq at k)

none_known : (area : Area) (n at : ℕ) → are_unknown area at n (λ _. Free) ≡ true
none_known area zero at = refl
none_known area (suc n) at = none_known area n (suc at)

module _ (before after : Cells → Type 0) (had has : Heads) (a : Addr) (shape : Shape) (space : Option SpaceNo) where
  abbrev act : Act
  act c ops m = binds c shape space a ops m

  abbrev rest : Position → List Operand → Mem → Move
  rest c ops m = fills (bind_plan shape space m.heads) m (λ s m'. keeps_space a s m' (goes c ops))

  abbrev inner : Position → List Operand → Mem → Move
  inner c ops m = cond (cells_fit (length (cell_kinds shape))) (rest c ops m) (Halts CellRoom)

  -- a stop that does not ask what cells hold
  refused_so : (stop : Stop) (next : Next) → IsStop next stop → ((c : Position) (ops : List Operand) (cells : Cells) → act c ops (mem_of had cells) ≡ Halts stop)
      → has ≡ had → ((cells : Cells) → before cells → after cells) → Refused before after had has act next
  refused_so stop next stops halts heads kept = record {
    stop = stop;
    stops = stops;
    known = λ c ops cells h. inr (halts c ops cells);
    seen = mem_of had (λ _. Free);
    is = λ c ops. halts c ops (λ _. Free);
    heads = heads;
    kept = kept;
  }

  pub away_so : (next : Next) → IsStop next NoSpace → lies_in (kinds.Space ∷ []) a.area a.cell had ≡ false → has ≡ had
      → ((cells : Cells) → before cells → after cells) → Refused before after had has act next
  away_so next stops gone =
      refused_so NoSpace next stops (λ c ops cells. ap (λ (b : Bool). cond b (inner c ops (mem_of had cells)) (Halts NoSpace)) gone)

  module _ (here : lies_in (kinds.Space ∷ []) a.area a.cell had ≡ true) where
    entered : (c : Position) (ops : List Operand) (cells : Cells) → act c ops (mem_of had cells) ≡ inner c ops (mem_of had cells)
    entered c ops cells = ap (λ (b : Bool). cond b (inner c ops (mem_of had cells)) (Halts NoSpace)) here

    pub large_so : (next : Next) → IsStop next CellRoom → cells_fit (length (cell_kinds shape)) ≡ false → has ≡ had
        → ((cells : Cells) → before cells → after cells) → Refused before after had has act next
    large_so next stops full =
        refused_so CellRoom next stops
        (λ c ops cells. entered c ops cells ∙ ap (λ (b : Bool). cond b (rest c ops (mem_of had cells)) (Halts CellRoom)) full)

    module _ (room : cells_fit (length (cell_kinds shape)) ≡ true) where
      opened : (c : Position) (ops : List Operand) (cells : Cells) → act c ops (mem_of had cells) ≡ rest c ops (mem_of had cells)
      opened c ops cells = entered c ops cells ∙ ap (λ (b : Bool). cond b (rest c ops (mem_of had cells)) (Halts CellRoom)) room

      pub plan_stops : (stop : Stop) (next : Next) → IsStop next stop → bind_plan shape space had ≡ Err stop → has ≡ had
          → ((cells : Cells) → before cells → after cells) → Refused before after had has act next
      plan_stops stop next stops plan =
          refused_so stop next stops
          (λ c ops cells. opened c ops cells
          ∙ ap (λ (q : Plan SpaceNo). fills q (mem_of had cells) (λ s m'. keeps_space a s m' (goes c ops))) plan)

      -- what a plan leads to
      planned_to : (s : SpaceNo) (list : List SpaceChange) → bind_plan shape space had ≡ Ok (s, list) → (c : Position) (ops : List Operand) (cells : Cells)
          → act c ops (mem_of had cells)
          ≡ cond (can_all_change list cells) (keeps_space a s (mem_after list (mem_of had cells)) (goes c ops)) Unknown
      planned_to s list plan c ops cells =
          opened c ops cells ∙ ap (λ (q : Plan SpaceNo). fills q (mem_of had cells) (λ s m'. keeps_space a s m' (goes c ops))) plan

-- no plan, or a stop
pub nil_plan : (shape : Shape) (space : Option SpaceNo) (heads : Heads) → space ≡ None → bind_plan shape space heads ≡ Err NoSpace
nil_plan shape space heads e = ap (λ (o : Option SpaceNo). bind_plan shape o heads) e

pub dead_plan : (shape : Shape) (s : SpaceNo) (heads : Heads) → is_live s heads ≡ false → bind_plan shape (Some s) heads ≡ Err NoSpace
dead_plan shape s heads e =
    ap (λ (b : Bool). unless (cond b None (Some NoSpace)) (fitting_plan shape s (the_head s heads).shape)) e

live_plan : (shape : Shape) (s : SpaceNo) (heads : Heads) → is_live s heads ≡ true → bind_plan shape (Some s) heads ≡ fitting_plan shape s (the_head s heads).shape
live_plan shape s heads e =
    ap (λ (b : Bool). unless (cond b None (Some NoSpace)) (fitting_plan shape s (the_head s heads).shape)) e

pub other_plan : (shape : Shape) (s : SpaceNo) (heads : Heads) → is_live s heads ≡ true → Shaped shape (the_head s heads).shape (Some false)
    → bind_plan shape (Some s) heads ≡ Err WrongShape
other_plan shape s heads live x =
    live_plan shape s heads live ∙ ap (fitting_plan shape s) x.1.0 ∙ ap (λ (b : Bool). cond b (Ok (s, [])) (Err WrongShape)) (sym x.1.1)

same_plan : (shape : Shape) (s : SpaceNo) (heads : Heads) → is_live s heads ≡ true → Shaped shape (the_head s heads).shape (Some true)
    → bind_plan shape (Some s) heads ≡ Ok (s, [])
same_plan shape s heads live x =
    live_plan shape s heads live ∙ ap (fitting_plan shape s) x.1.0 ∙ ap (λ (b : Bool). cond b (Ok (s, [])) (Err WrongShape)) (sym x.1.1)

new_plan : (shape : Shape) (s : SpaceNo) (heads : Heads) → is_live s heads ≡ true → (the_head s heads).shape ≡ None
    → bind_plan shape (Some s) heads ≡ Ok (s, Fills s shape ∷ [])
new_plan shape s heads live empty = live_plan shape s heads live ∙ ap (fitting_plan shape s) empty

-- a cell of a data space in which nothing stands is not there
nothing_there : (n : ℕ) → begin_with (kinds.Space ∷ []) (drop n []) ≡ false
nothing_there zero = refl
nothing_there (suc n) = refl

elsewhere : (area : Area) (x : ℕ) (s : SpaceNo) (heads : Heads) → lies_in (kinds.Space ∷ []) area x heads ≡ true → (the_head s heads).shape ≡ None
    → same_area area (areas.Space s) ≡ false
elsewhere areas.Run x s heads here empty = refl
elsewhere areas.Packets x s heads here empty = refl
elsewhere (areas.Space t) x s heads here empty = by (t.0 == s.0) refl
  where
    by : (b : Bool) → (t.0 == s.0) ≡ b → b ≡ false
    by false e = refl
    by true e =
        let same : t ≡ s = ap (λ (n : ℕ). record { 0 = n }) (eqb-true t.0 s.0 e) in
        let none : kinds_of t heads ≡ [] = ap (λ (u : SpaceNo). kinds_of u heads) same ∙ ap shaped_kinds empty in
        let begins : begin_with (kinds.Space ∷ []) (drop x (kinds_of t heads)) ≡ true =
        (both (is_live t heads) _ (both (cells_fit (x + 1)) _ here).1).1 in
        let f : true ≡ false = sym begins ∙ ap (λ (ks : List Kind). begin_with (kinds.Space ∷ []) (drop x ks)) none ∙ nothing_there x in
        f

-- an area is there still where something stands in a data space then
module _ (test other : ℕ → Bool) (new : Head) where
  passes : (b : Bool) (x y : Head) (o o' : Option Head) → IsSome (cond b (Some x) o) → (IsSome o → IsSome o') → IsSome (cond b (Some y) o')
  passes true x y o o' h more = refl
  passes false x y o o' h more = more h

  passes_first : (b : Bool) (x y : Head) (o : Option Head) → IsSome (cond b (Some x) o) → IsSome (cond b (Some y) o)
  passes_first b x y o h = passes b x y o o h (λ i. i)

  step : (u : Bool) (e : ℕ × Head) (live : List (ℕ × Head)) → IsSome (lookup test (e ∷ live))
      → (IsSome (lookup test live) → IsSome (lookup test (set_value other live new)))
      → IsSome (lookup test (cond u ((e.0, new) ∷ live) (e ∷ set_value other live new)))
  step true e live h more = passes_first (test e.0) e.1 new (lookup test live) h
  step false e live h more = passes (test e.0) e.1 e.1 (lookup test live) (lookup test (set_value other live new)) h more

  found_set : (live : List (ℕ × Head)) → IsSome (lookup test live) → IsSome (lookup test (set_value other live new))
  found_set [] h = h
  found_set (e ∷ live) h = step (other e.0) e live h (found_set live)

pub still_filled : (s : SpaceNo) (shape : Shape) (had has : Heads) (area : Area) → has ≡ heads_by (Fills s shape) had → IsThere had area → IsThere has area
still_filled s shape had has area e h = subst (λ (heads : Heads). IsThere heads area) (sym e) (by area h)
  where
    by : (area : Area) → IsThere had area → IsThere (heads_by (Fills s shape) had) area
    by areas.Run h = tt
    by areas.Packets h = tt
    by (areas.Space t) h = found_set (nat_eq t.0) (nat_eq s.0) (record (the_head s had) { shape = Some shape }) had.live h

-- what fits in the room of a shape's kinds is as many cells
pub few_cells : (shape : Shape) → cells_fit (length (cell_kinds shape)) ≡ true → cell_count shape ≤ CELLS
few_cells shape e = subst (λ n. n ≤ CELLS) (kinds_counted shape) (leb-true (length (cell_kinds shape)) CELLS e)

module _ (before after : Cells → Type 0) (had has : Heads) (a : Addr) (shape : Shape) (s : SpaceNo)
    (here : lies_in (kinds.Space ∷ []) a.area a.cell had ≡ true) (room : cells_fit (length (cell_kinds shape)) ≡ true) (live : is_live s had ≡ true) where
  abbrev acts : Act
  acts c ops m = binds c shape (Some s) a ops m

  abbrev held : Cell
  held = held_of (item.Space (Some s))

  -- its number is put into the cell
  abbrev put : Mem → Mem
  put m = with_cells (written m.cells a held) m

  pub same_so : Shaped shape (the_head s had).shape (Some true) → has ≡ had
      → ((cells : Cells) → before cells → cell_blocks (cells a) ≡ 0 → after (written cells a held)) → Assigned before after had has acts
  same_so same heads kept = record {
    known = λ c ops cells h. by c ops cells h (takes_number (cells a)) refl;
    seen = mem_of had (λ _. Free);
    now = put (mem_of had (λ _. Free));
    is = λ c ops. leads c ops (λ _. Free);
  }
    where
      leads : (c : Position) (ops : List Operand) (cells : Cells)
          → acts c ops (mem_of had cells) ≡ cond (takes_number (cells a)) (goes c ops (put (mem_of had cells))) Unknown
      leads c ops cells = planned_to before after had has a shape (Some s) here room s [] (same_plan shape s had live same) c ops cells

      by : (c : Position) (ops : List Operand) (cells : Cells) → before cells → (b : Bool) → takes_number (cells a) ≡ b
          → (acts c ops (mem_of had cells) ≡ Unknown)
          ⊎ ((now : Cells) × (after now × (acts c ops (mem_of had cells) ≡ goes c ops (mem_of has now))))
      by c ops cells h false e = inl (leads c ops cells ∙ ap (λ (b : Bool). cond b (goes c ops (put (mem_of had cells))) Unknown) e)
      by c ops cells h true e = inr (
        written cells a held,
        (
          kept cells h (number_bare (cells a) e),
          leads c ops cells ∙ ap (λ (b : Bool). cond b (goes c ops (put (mem_of had cells))) Unknown) e
              ∙ ap (λ (u : Heads). goes c ops (mem_of u (written cells a held))) (sym heads),
        ),
      )

  abbrev filled : Cells → Mem
  filled cells = mem_by (Fills s shape) (mem_of had cells)

  abbrev told : Position → List Operand → Cells → Move
  told c ops cells = cond (takes_number ((filled cells).cells a)) (goes c ops (put (filled cells))) Unknown

  pub new_so : (the_head s had).shape ≡ None → has ≡ heads_by (Fills s shape) had
      → ((cells : Cells) → before cells → AreBare (areas.Space s) 0 (cell_count shape) cells → cell_blocks (cells_by (Fills s shape) had cells a) ≡ 0
      → after (written (cells_by (Fills s shape) had cells) a held)) → Assigned before after had has acts
  new_so empty heads kept = record {
    known = λ c ops cells h. by c ops cells h (are_unknown (areas.Space s) 0 (length (cell_kinds shape)) cells) refl (takes_number ((filled cells).cells a)) refl;
    seen = mem_of had (λ _. Free);
    now = put (filled (λ _. Free));
    is = λ c ops.
        leads c ops (λ _. Free) ∙ ap (λ (b : Bool). cond (b && true) (told c ops (λ _. Free)) Unknown) (none_known (areas.Space s) (length (cell_kinds shape)) 0)
        ∙ ap (λ (b : Bool). cond (takes_number (cond b (blank_cells s (cell_kinds shape) (λ _. Free) a.cell) Free)) (goes c ops (put (filled (λ _. Free)))) Unknown)
        (elsewhere a.area a.cell s had here empty);
  }
    where
      leads : (c : Position) (ops : List Operand) (cells : Cells) → acts c ops (mem_of had cells)
          ≡ cond (are_unknown (areas.Space s) 0 (length (cell_kinds shape)) cells && true) (told c ops cells) Unknown
      leads c ops cells = planned_to before after had has a shape (Some s) here room s (Fills s shape ∷ []) (new_plan shape s had live empty) c ops cells

      by : (c : Position) (ops : List Operand) (cells : Cells) → before cells → (u : Bool)
          → are_unknown (areas.Space s) 0 (length (cell_kinds shape)) cells ≡ u → (b : Bool) → takes_number ((filled cells).cells a) ≡ b
          → (acts c ops (mem_of had cells) ≡ Unknown)
          ⊎ ((now : Cells) × (after now × (acts c ops (mem_of had cells) ≡ goes c ops (mem_of has now))))
      by c ops cells h false e b t = inl (leads c ops cells ∙ ap (λ (u : Bool). cond (u && true) (told c ops cells) Unknown) e)
      by c ops cells h true e false t =
          inl (leads c ops cells ∙ ap (λ (u : Bool). cond (u && true) (told c ops cells) Unknown) e
          ∙ ap (λ (b : Bool). cond b (goes c ops (put (filled cells))) Unknown) t)
      by c ops cells h true e true t = inr (
        written (filled cells).cells a held,
        (
          kept cells h
              (subst (λ (n : ℕ). AreBare (areas.Space s) 0 n cells) (kinds_counted shape)
              (unknown_bare (areas.Space s) (length (cell_kinds shape)) 0 cells e))
              (number_bare ((filled cells).cells a) t),
          leads c ops cells ∙ ap (λ (u : Bool). cond (u && true) (told c ops cells) Unknown) e
              ∙ ap (λ (b : Bool). cond b (goes c ops (put (filled cells))) Unknown) t
              ∙ ap (λ (u : Heads). goes c ops (mem_of u (written (filled cells).cells a held))) (sym heads),
        ),
      )
