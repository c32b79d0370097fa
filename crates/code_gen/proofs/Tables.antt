-- The tables of a whole program agree.
use Rattle.std.proofs.Common.{◌≡◌, ℕ, zero, suc, ◌+◌, List, [], ◌∷◌, map, length, Some, None, refl, sym, ap, ◌∙◌, subst, arith, length-append}
use Rattle.std.specs.Prelude.{slice_get, Option}
use Rattle.code_form.specs.declared.instr.Instr.TheVariants.{End}
use Rattle.code_form.specs.declared.code.Start.{Start}
use Rattle.code_form.specs.declared.code.Line.{Line}
use Rattle.code_form.specs.declared.code.Entry.{Entry}
use Rattle.code_form.specs.declared.code.Layout.{Layout}
use Rattle.code_form.specs.declared.code.Layout.TheVariants as layouts
use Rattle.code_form.specs.Program.{Program, spot_at, at_level, in_body}
use Rattle.code_form.specs.Valid.{Next, IsFine, IsCalled, IsOwned, StartsSo, IsValid}
use Rattle.elan_types.specs.declared.core_phrase.Scope.{Scope}
use Rattle.elan_types.specs.declared.core_phrase.Scope.TheVariants as scopes
use Rattle.elan_types.specs.declared.core_phrase.Body.{Body}
use Rattle.elan_types.specs.declared.core_phrase.Core.{Core}
use Rattle.elan_types.specs.declared.core_phrase.Content.TheVariants.{Units}
use Rattle.elan_types.specs.Typing as typing
use Rattle.elan_types.specs.Typing.{outside_of, IsScope, IsStart, IsWellTyped}
use Rattle.place_gen.specs.Stretch.{Stretch, one, keeps, all_code, action_code, content_code}
use Rattle.place_gen.proofs.Lines.{HasAt, has_front, has_rest, has_all, join_sized}
use Rattle.place_gen.specs.Layouts.{parameter_kind, layout_of}
use Rattle.place_gen.proofs.Homes.{Agrees}
use Rattle.place_gen.proofs.Tables.{Each, each_rest, ends_good, ActionTable}
use Rattle.place_gen.proofs.TableTree.{IsGood, all_are, content_is}
use Rattle.code_gen.specs.Program.{level_code, call_code, started_size, started_lines, started_at, size_from, lines_from, start_from, entry_of, entries, body_lines, program_of}

-- each body has an entry, and each entry is that of a body
pub entry_at : (bs : List Body) (at n : ℕ) (b : Body) → slice_get bs n ≡ Some b → (first : ℕ) × (slice_get (entries bs at) n ≡ Some (entry_of b first))
entry_at [] at n b e = let f : ⊥ = cc in absurd f
entry_at (x ∷ bs) at zero b e = let f : x ≡ b = cc in (at, ap (λ b. Some (entry_of b at)) f)
entry_at (x ∷ bs) at (suc n) b e = entry_at bs (at + (content_code x.content).size) n b e

pub entry_from : (bs : List Body) (at n : ℕ) (e : Entry) → slice_get (entries bs at) n ≡ Some e
    → (b : Body) × ((first : ℕ) × (slice_get bs n ≡ Some b) × (e ≡ entry_of b first))
entry_from [] at n e h = let f : ⊥ = cc in absurd f
entry_from (x ∷ bs) at zero e h = let f : e ≡ entry_of x at = cc in (x, (at, refl, f))
entry_from (x ∷ bs) at (suc n) e h = entry_from bs (at + (content_code x.content).size) n e h

each_get : (p : Program) (at : ℕ) (ls : List Line) → Each p at ls → (j : ℕ) (l : Line) → slice_get ls j ≡ Some l → IsFine p (at + j) l.instr l.operands l.spot
each_get p at [] e j l h = let f : ⊥ = cc in absurd f
each_get p at (x ∷ ls) e zero l h =
    let f : x ≡ l = cc in
    let z : at ≡ at + 0 = omega arith in
    subst (λ n. IsFine p n l.instr l.operands l.spot) z (subst (λ (x : Line). IsFine p at x.instr x.operands x.spot) f e.0)
each_get p at (x ∷ ls) e (suc j) l h =
    let z : at + 1 + j ≡ at + suc j = omega arith in subst (λ n. IsFine p n l.instr l.operands l.spot) z (each_get p (at + 1) ls e.1 j l h)

module _ (core : Core) (typed : IsWellTyped core) where
  abbrev p : Program
  p = program_of core

  abbrev behind : ℕ
  behind = size_from core.start core

  pub agrees : Agrees p (outside_of core) core.bodies
  agrees = record {
    level = refl;
    packets = refl;
    each =
        λ n b is. let e = entry_at core.bodies behind n b is in record { entry = entry_of b e.0; has = e.1; layout = refl; delivers = refl };
  }

  content_good : (n : ℕ) (b : Body) (is : slice_get core.bodies n ≡ Some b)
      → IsGood p (outside_of core) core.bodies agrees (Some n) (b, is) (content_code b.content)
  content_good n b is =
      let e = agrees.each n b is in content_is p (outside_of core) core.bodies agrees (Some n) (b, is) b.content (typed.bodies n b is) (e.entry, e.has, e.delivers)

  -- the bodies from one on
  pub record Bodies (bs : List Body) (n at : ℕ) : Type 0 where
    pub each : Each p at (body_lines bs n at)
    pub first : (j : ℕ) (e : Entry) → slice_get (entries bs at) j ≡ Some e → Next p.lines e.first [] (in_body (n + j))

  bodies_are : (bs : List Body) (n at : ℕ) → ((j : ℕ) (b : Body) → slice_get bs j ≡ Some b → slice_get core.bodies (n + j) ≡ Some b)
      → HasAt p.lines at (body_lines bs n at) → Bodies bs n at
  bodies_are [] n at is has = record { each = tt; first = λ j e h. let f : ⊥ = cc in absurd f }
  bodies_are (b ∷ bs) n at is has =
      let f = content_code b.content in
      let z : n + 0 ≡ n = omega arith in
      let i = content_good n b (ap (slice_get core.bodies) (sym z) ∙ is 0 b refl) in
      let r = i.good at (in_body n) refl (has_front p.lines at (f.lines [] (in_body n) at) _ has) in
      let more =
      bodies_are bs (suc n) (at + f.size) (λ j c h. let s : suc n + j ≡ n + suc j = omega arith in ap (slice_get core.bodies) s ∙ is (suc j) c h)
      (has_rest p.lines at f.size (f.lines [] (in_body n) at) _ (i.sized [] (in_body n) at) has) in
      record {
        each = each_rest p at f.size (f.lines [] (in_body n) at) (body_lines bs (suc n) (at + f.size)) (i.sized [] (in_body n) at) r.1 more.each;
        first = first_of r.0 more.first;
      }
    where
      first_of : Next p.lines at [] (in_body n)
          → ((j : ℕ) (e : Entry) → slice_get (entries bs (at + (content_code b.content).size)) j ≡ Some e → Next p.lines e.first [] (in_body (suc n + j)))
          → (j : ℕ) (e : Entry) → slice_get (entries (b ∷ bs) at) j ≡ Some e → Next p.lines e.first [] (in_body (n + j))
      first_of here more zero e h =
          let f : at ≡ e.first = cc in
          let z : n ≡ n + 0 = omega arith in
          subst (λ n. Next p.lines e.first [] (in_body n)) z (subst (λ a. Next p.lines a [] (in_body n)) f here)
      first_of here more (suc j) e h = let z : suc n + j ≡ n + suc j = omega arith in subst (λ n. Next p.lines e.first [] (in_body n)) z (more j e h)

  owned_by : (l : Layout) (s : Scope) → l ≡ layout_of s → IsScope core.bodies s → IsOwned p l
  owned_by (layouts.Own ps vs) s e is = tt
  owned_by layouts.Level s e is = tt
  owned_by (layouts.Of q) (scopes.Own ps vs) e is = let f : ⊥ = cc in absurd f
  owned_by (layouts.Of q) scopes.Level e is = let f : ⊥ = cc in absurd f
  owned_by (layouts.Of q) (scopes.Of r) e is =
      let f : r ≡ q = cc in
      let g = entry_at core.bodies behind q is.0 (subst (λ n. slice_get core.bodies n ≡ Some is.0) f is.1.1.1) in
      (entry_of is.0 g.0, (map parameter_kind is.1.0, (is.1.1.0, g.1, ap layout_of is.1.1.2)))

  abbrev units : Stretch
  units = all_code (map action_code core.units)

  units_are : ActionTable p None units
  units_are = all_are p (outside_of core) core.bodies agrees None tt core.units typed.typed

  -- lines that the command begins with, where they stand at the front
  pub record Begins (ls : List Line) (size : ℕ) (o : Option Start) : Type 0 where
    pub sized : length ls ≡ size
    pub here : HasAt p.lines 0 ls → Next p.lines 0 [] (spot_at o)
    pub each : HasAt p.lines 0 ls → Each p 0 ls
    pub starts : HasAt p.lines 0 ls → StartsSo p o

  abbrev First : Option ℕ → Type 0
  First o = Begins (lines_from o core) (size_from o core) (start_from o core)

  abbrev Started : ℕ → Option Body → Type 0
  Started q o = Begins (started_lines q o) (started_size o) (started_at q o)

  level_first : First None
  level_first =
      let good = λ (has : HasAt p.lines 0 ((level_code core).lines [] at_level 0)). ends_good p None End keeps units_are 0 [] at_level refl (λ q. tt) has in record {
        sized = join_sized units (one End keeps) units_are.sized (λ ks m pc. refl) [] at_level 0;
        here = λ has. (good has).0;
        each = λ has. (good has).1;
        starts = λ has. tt;
      }

  -- the call of a start procedure finds what it takes
  module _ (q : ℕ) (is : IsStart core q) where
    abbrev b : Body
    b = record { scope = scopes.Own [] is.variables; content = Units is.units }

    abbrev f : Stretch
    f = content_code b.content

    abbrev first_lines : List Line
    first_lines = started_lines q (Some b)

    i : IsGood p (outside_of core) core.bodies agrees (Some q) (b, is.body) f
    i = content_good q b is.body

    call_has : HasAt p.lines 0 first_lines → HasAt p.lines f.size ((call_code q).lines [] at_level f.size)
    call_has has =
        let n : 0 + f.size ≡ f.size = omega arith in
        subst (λ n. HasAt p.lines n ((call_code q).lines [] at_level f.size)) n (has_rest p.lines 0 f.size (f.lines [] (in_body q) 0) _ (i.sized [] (in_body q) 0) has)

    called : HasAt p.lines 0 first_lines → IsCalled p f.size q [] at_level
    called has =
        let e = entry_at core.bodies behind q b is.body in record {
          entry = entry_of b e.0;
          has = e.1;
          parameters = [];
          variables = is.variables;
          own = refl;
          rest = [];
          taken = refl;
          next = (End, (call_has has).1.0);
        }

    call_each : HasAt p.lines 0 first_lines → Each p (0 + f.size) ((call_code q).lines [] at_level f.size)
    call_each has =
        let n : f.size ≡ 0 + f.size = omega arith in subst (λ n. Each p n ((call_code q).lines [] at_level f.size)) n (called has, (tt, tt))

    of_body : Started q (Some b)
    of_body = record {
      sized = length-append (f.lines [] (in_body q) 0) _ ∙ ap (λ n. n + 2) (i.sized [] (in_body q) 0);
      here = λ has. (i.good 0 (in_body q) refl (has_front p.lines 0 (f.lines [] (in_body q) 0) _ has)).0;
      each = λ has.
          each_rest p 0 f.size (f.lines [] (in_body q) 0) _ (i.sized [] (in_body q) 0)
          (i.good 0 (in_body q) refl (has_front p.lines 0 (f.lines [] (in_body q) 0) _ has)).1 (call_each has);
      starts = λ has.
          let e = entry_at core.bodies behind q b is.body in record {
            entry = entry_of b e.0;
            has = e.1;
            variables = is.variables;
            own = refl;
            delivers = refl;
            pc = f.size;
            back = refl;
            call = (call_has has).0;
            level = is.level;
          };
    }

  first_is : (o : Option ℕ) → typing.StartsSo core o → First o
  first_is None is = level_first
  first_is (Some q) is = subst (Started q) (sym is.body) (of_body q is)

  -- where it stands, and the bodies
  pub has_first : HasAt p.lines 0 (lines_from core.start core)
  has_first = has_front p.lines 0 (lines_from core.start core) _ (has_all p.lines [])

  abbrev first : First core.start
  first = first_is core.start typed.starts

  pub has_bodies : HasAt p.lines behind (body_lines core.bodies 0 behind)
  has_bodies =
      let n : 0 + behind ≡ behind = omega arith in
      subst (λ n. HasAt p.lines n (body_lines core.bodies 0 behind)) n
      (has_rest p.lines 0 behind (lines_from core.start core) _ first.sized (has_all p.lines []))

  pub valid : IsValid p
  valid =
      let more = bodies_are core.bodies 0 behind (λ j b h. let s : 0 + j ≡ j = omega arith in ap (slice_get core.bodies) s ∙ h) has_bodies in
      let each =
      each_rest p 0 behind (lines_from core.start core) (body_lines core.bodies 0 behind) first.sized (first.each has_first)
      (let n : behind ≡ 0 + behind = omega arith in subst (λ n. Each p n (body_lines core.bodies 0 behind)) n more.each) in
      record {
        first = first.here has_first;
        starts = first.starts has_first;
        bodies = λ n e h. let z : 0 + n ≡ n = omega arith in subst (λ n. Next p.lines e.first [] (in_body n)) z (more.first n e h);
        owned =
            λ n e h. let b = entry_from core.bodies behind n e h in owned_by e.layout b.0.scope (ap (λ (e : Entry). e.layout) b.1.2) (typed.scopes n b.0 b.1.1);
        each = λ pc l e. let z : 0 + pc ≡ pc = omega arith in subst (λ n. IsFine p n l.instr l.operands l.spot) z (each_get p 0 p.lines each pc l e);
      }
