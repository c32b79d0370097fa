-- A DATASPACE variable gets a copy.
use Rattle.std.proofs.Common.{◌≡◌, ℕ, ◌+◌, Bool, true, false, cond, List, [], ◌∷◌, Option, Some, None, refl, sym, ap, ◌∙◌, subst, ◌⊎◌, inl, inr}
use Rattle.std.specs.Prelude.{Ok, Err, ◌&&◌}
use Rattle.eu_base.specs.declared.address.Addr.{Addr}
use Rattle.eu_base.specs.declared.address.Area.{Area}
use Rattle.eu_base.specs.declared.address.Area.TheVariants as areas
use Rattle.eu_base.specs.declared.stop.Stop.{Stop}
use Rattle.eu_base.specs.declared.stop.Stop.TheVariants.{NoSpace}
use Rattle.eu_base.specs.declared.value.Kind.TheVariants as kinds
use Rattle.eu_base.specs.declared.value.Value.TheVariants as item
use Rattle.eu_base.specs.Values.{SpaceNo, cell_of, space_in}
use Rattle.eu_base.specs.Cells.{Cell, Free, Word, Letters, Cells, held_of, written, cell_blocks, same_area}
use Rattle.eu_base.specs.DataSpaces.{Heads, SpaceChange, Makes, next_number, heads_by, heads_after, head_from, is_live}
use Rattle.eu_base.specs.SpaceCells.{IsThere, cells_from, cells_by}
use Rattle.eu_base.specs.Room.{cells_fit}
use Rattle.eu_base.specs.SpacePlaces.{lies_in, is_in}
use Rattle.eu_base.specs.SpaceOperations.{Plan, unless, copy_refusal, room_refusal, copy_plan, forgetting}
use Rattle.space_calls.specs.Below.code_form.specs.declared.operand.Operand.{Operand}
use Rattle.space_calls.specs.Below.code_form.specs.Machine.{Mem, Position, Move, Halts, Unknown, goes, if_there, on_word, takes_number, with_cells, mem_by, mem_after, changes, keeps_space, without_held, copies}
use Rattle.zero_state.specs.declared.next.Next.{Next}
use Rattle.zero_state.specs.Stepping.{mem_of}
use Rattle.zero_state.proofs.Blocks.{number_bare}
use Rattle.space_calls.specs.Planned.{cells_after, IsStop}
use Rattle.space_calls.proofs.Plans.{still_lives}
use Rattle.space_calls.specs.Assigned.{Act, Assigned, Refused}

-- a memory after changes has the data spaces after them
mem_is : (list : List SpaceChange) (m : Mem) → mem_after list m ≡ mem_of (heads_after list m.heads) (mem_after list m).cells
mem_is [] m = refl
mem_is (change ∷ list) m = mem_is list (mem_by change m)

module _ (before after : Cells → Type 0) (had has : Heads) (a : Addr) (from : Option SpaceNo) where
  abbrev act : Act
  act c ops m = copies c from a ops m

  -- what follows the number of the data space that the variable holds
  abbrev rest : Position → List Operand → Mem → ℕ → Move
  rest c ops m held =
      changes (copy_plan None from m.heads) m (λ s m'. keeps_space a s m' (λ m''. goes c ops (without_held (space_in held) m'')))

  -- the variable is not there
  pub gone_so : (next : Next) → IsStop next NoSpace → lies_in (kinds.Space ∷ []) a.area a.cell had ≡ false → has ≡ had
      → ((cells : Cells) → before cells → after cells) → Refused before after had has act next
  gone_so next stops gone heads kept = record {
    stop = NoSpace;
    stops = stops;
    known = λ c ops cells h. inr (ap (λ (b : Bool). cond b (on_word (cells a) (rest c ops (mem_of had cells))) (Halts NoSpace)) gone);
    seen = mem_of had (λ _. Free);
    is = λ c ops. ap (λ (b : Bool). cond b Unknown (Halts NoSpace)) gone;
    heads = heads;
    kept = kept;
  }

  module _ (n : ℕ) (here : lies_in (kinds.Space ∷ []) a.area a.cell had ≡ true) where
    opened : (c : Position) (ops : List Operand) (cells : Cells) → act c ops (mem_of had cells) ≡ on_word (cells a) (rest c ops (mem_of had cells))
    opened c ops cells = ap (λ (b : Bool). cond b (on_word (cells a) (rest c ops (mem_of had cells))) (Halts NoSpace)) here

    -- the plan stops
    stops_so : (stop : Stop) (next : Next) → IsStop next stop → copy_plan None from had ≡ Err stop → has ≡ had
        → ((cells : Cells) → before cells → after cells) → Refused before after had has act next
    stops_so stop next stops plan heads kept = record {
      stop = stop;
      stops = stops;
      known = λ c ops cells h. by c ops cells (cells a) refl;
      seen = mem_of had (λ _. Word 0);
      is = λ c ops. opened c ops (λ _. Word 0) ∙ halted c ops (λ _. Word 0) 0;
      heads = heads;
      kept = kept;
    }
      where
        halted : (c : Position) (ops : List Operand) (cells : Cells) (m : ℕ) → rest c ops (mem_of had cells) m ≡ Halts stop
        halted c ops cells m =
            ap (λ (p : Plan SpaceNo). changes p (mem_of had cells) (λ s m'. keeps_space a s m' (λ m''. goes c ops (without_held (space_in m) m'')))) plan

        by : (c : Position) (ops : List Operand) (cells : Cells) (x : Cell) → cells a ≡ x
            → (act c ops (mem_of had cells) ≡ Unknown) ⊎ (act c ops (mem_of had cells) ≡ Halts stop)
        by c ops cells Free e = inl (opened c ops cells ∙ ap (λ (x : Cell). on_word x (rest c ops (mem_of had cells))) e)
        by c ops cells (Letters t) e = inl (opened c ops cells ∙ ap (λ (x : Cell). on_word x (rest c ops (mem_of had cells))) e)
        by c ops cells (Word m) e = inr (opened c ops cells ∙ ap (λ (x : Cell). on_word x (rest c ops (mem_of had cells))) e ∙ halted c ops cells m)

    pub unfit_so : (stop : Stop) (next : Next) → IsStop next stop → copy_refusal from had ≡ Some stop → has ≡ had
        → ((cells : Cells) → before cells → after cells) → Refused before after had has act next
    unfit_so stop next stops e =
        stops_so stop next stops
        (ap (λ (r : Option Stop). unless r (unless (room_refusal had) (Ok (next_number had, Makes from ∷ [])))) e)

    pub full_so : (stop : Stop) (next : Next) → IsStop next stop → copy_refusal from had ≡ None → room_refusal had ≡ Some stop → has ≡ had
        → ((cells : Cells) → before cells → after cells) → Refused before after had has act next
    full_so stop next stops e f =
        stops_so stop next stops
        (ap (λ (r : Option Stop). unless r (unless (room_refusal had) (Ok (next_number had, Makes from ∷ [])))) e
        ∙ ap (λ (r : Option Stop). unless r (Ok (next_number had, Makes from ∷ []))) f)

    -- it goes on: a copy is made, its number is put into the cell, and what the cell held is forgotten
    module _ (fit : copy_refusal from had ≡ None) (room : room_refusal had ≡ None) (number : (cells : Cells) (m : ℕ) → before cells → cells a ≡ Word m → n ≡ m) where
      plan_is : copy_plan None from had ≡ Ok (next_number had, Makes from ∷ [])
      plan_is =
          ap (λ (r : Option Stop). unless r (unless (room_refusal had) (Ok (next_number had, Makes from ∷ [])))) fit
          ∙ ap (λ (r : Option Stop). unless r (Ok (next_number had, Makes from ∷ []))) room

      abbrev made : Cells → Mem
      made cells = mem_by (Makes from) (mem_of had cells)

      abbrev held : Cell
      held = held_of (item.Space (Some (next_number had)))

      abbrev put : Cells → Mem
      put cells = with_cells (written (made cells).cells a held) (made cells)

      abbrev left : Cells → Mem
      left cells = without_held (space_in n) (put cells)

      goes_rest : (c : Position) (ops : List Operand) (cells : Cells) → rest c ops (mem_of had cells) n
          ≡ cond (takes_number ((made cells).cells a)) (goes c ops (left cells)) Unknown
      goes_rest c ops cells =
          ap (λ (p : Plan SpaceNo). changes p (mem_of had cells) (λ s m'. keeps_space a s m' (λ m''. goes c ops (without_held (space_in n) m'')))) plan_is

      -- from cells that hold one number
      seen_takes : (b : Bool) (f : Option SpaceNo) → takes_number (cond b (cells_from f (λ _. Word n) a.cell) (Word n)) ≡ true
      seen_takes true None = refl
      seen_takes true (Some s) = refl
      seen_takes false f = refl

      pub copied_so : has ≡ heads_after (forgetting (space_in n) (heads_by (Makes from) had)) (heads_by (Makes from) had)
          → ((cells : Cells) → before cells → cell_blocks ((made cells).cells a) ≡ 0 → after (left cells).cells) → Assigned before after had has act
      copied_so heads kept = record {
        known = λ c ops cells h. by c ops cells h (cells a) refl (takes_number ((made cells).cells a)) refl;
        seen = mem_of had (λ _. Word n);
        now = left (λ _. Word n);
        is = λ c ops.
            opened c ops (λ _. Word n) ∙ goes_rest c ops (λ _. Word n)
            ∙ ap (λ (b : Bool). cond b (goes c ops (left (λ _. Word n))) Unknown) (seen_takes (same_area a.area (areas.Space (next_number had))) from);
      }
        where
          left_is : (cells : Cells) → left cells ≡ mem_of has (left cells).cells
          left_is cells =
              mem_is (forgetting (space_in n) (heads_by (Makes from) had)) (put cells) ∙ ap (λ (h : Heads). mem_of h (left cells).cells) (sym heads)

          told : (c : Position) (ops : List Operand) (cells : Cells) → before cells → (b : Bool) → takes_number ((made cells).cells a) ≡ b
              → rest c ops (mem_of had cells) n ≡ act c ops (mem_of had cells)
              → (act c ops (mem_of had cells) ≡ Unknown)
              ⊎ ((now : Cells) × (after now × (act c ops (mem_of had cells) ≡ goes c ops (mem_of has now))))
          told c ops cells h false e is =
              inl (sym is ∙ goes_rest c ops cells ∙ ap (λ (b : Bool). cond b (goes c ops (left cells)) Unknown) e)
          told c ops cells h true e is = inr (
            (left cells).cells,
            (
              kept cells h (number_bare ((made cells).cells a) e),
              sym is ∙ goes_rest c ops cells ∙ ap (λ (b : Bool). cond b (goes c ops (left cells)) Unknown) e ∙ ap (λ (m : Mem). goes c ops m) (left_is cells),
            ),
          )

          by : (c : Position) (ops : List Operand) (cells : Cells) → before cells → (x : Cell) → cells a ≡ x → (b : Bool)
              → takes_number ((made cells).cells a) ≡ b
              → (act c ops (mem_of had cells) ≡ Unknown)
              ⊎ ((now : Cells) × (after now × (act c ops (mem_of had cells) ≡ goes c ops (mem_of has now))))
          by c ops cells h Free e b t = inl (opened c ops cells ∙ ap (λ (x : Cell). on_word x (rest c ops (mem_of had cells))) e)
          by c ops cells h (Letters u) e b t = inl (opened c ops cells ∙ ap (λ (x : Cell). on_word x (rest c ops (mem_of had cells))) e)
          by c ops cells h (Word m) e b t =
              told c ops cells h b t
              (ap (rest c ops (mem_of had cells)) (number cells m h e)
              ∙ sym (opened c ops cells ∙ ap (λ (x : Cell). on_word x (rest c ops (mem_of had cells))) e))

-- an area is there still where a data space more is made
pub still_area : (from : Option SpaceNo) (had has : Heads) (area : Area) → has ≡ heads_by (Makes from) had → IsThere had area → IsThere has area
still_area from had has area e h = subst (λ (heads : Heads). IsThere heads area) (sym e) (by area h)
  where
    by : (area : Area) → IsThere had area → IsThere (heads_by (Makes from) had) area
    by areas.Run h = tt
    by areas.Packets h = tt
    by (areas.Space s) h = still_lives s (head_from from had) had h

-- where cells stand, their area is there
pub area_of : (area : Area) (x : ℕ) (heads : Heads) → lies_in (kinds.Space ∷ []) area x heads ≡ true → IsThere heads area
area_of area x heads e = by area (second (cells_fit (x + 1)) (is_in (kinds.Space ∷ []) area x heads) e)
  where
    second : (a b : Bool) → (a && b) ≡ true → b ≡ true
    second true b e = e
    second false b e = absurd (cc e)

    first : (a b : Bool) → (a && b) ≡ true → a ≡ true
    first true b e = refl
    first false b e = absurd (cc e)

    by : (area : Area) → is_in (kinds.Space ∷ []) area x heads ≡ true → IsThere heads area
    by areas.Run e = tt
    by areas.Packets e = tt
    by (areas.Space s) e = first (is_live s heads) _ e
