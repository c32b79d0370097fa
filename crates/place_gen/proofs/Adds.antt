-- What several steps of the making of code add together.
use Rattle.std.proofs.Common.{◌≡◌, ℕ, ◌+◌, List, [], ◌∷◌, ◌++◌, length, drop, Some, ap, ◌∙◌, arith, append_assoc, sym}
use Rattle.eu_base.specs.declared.shape.Shape.{Shape}
use Rattle.code_form.specs.declared.operand.OperandKind.{OperandKind}
use Rattle.code_form.specs.declared.operand.OperandKind.TheVariants.{Value}
use Rattle.code_form.specs.declared.instr.Instr.TheVariants.{Mark, Jump, False}
use Rattle.code_form.specs.Program.{line_of}
use Rattle.elan_types.specs.Eval.{Labelled}
use Rattle.place_gen.specs.declared.draft.Draft.{Draft}
use Rattle.place_gen.specs.Stretch.{Stretch, one, keeps, pushes, never_code, join, if_code, whens, whens_code, arm_code, Exit, exit_join, until_code, turns_code}
use Rattle.place_gen.specs.Adds.{Adds, AddsExit, AddsArm, Restores, Turns}

-- two stretches, one after the other
pub join_adds : (f g : Stretch) (a b c : Draft) → Adds f a b → Adds g b c → Adds (join f g) a c
join_adds f g a b c x y =
    let n : length b.lines ≡ length a.lines + f.size = x.1 in
    let flat : (a.lines ++ f.lines a.pending a.spot (length a.lines)) ++ g.lines (f.leaves a.pending) a.spot (length a.lines + f.size)
    ≡ a.lines ++ (f.lines a.pending a.spot (length a.lines) ++ g.lines (f.leaves a.pending) a.spot (length a.lines + f.size)) = simp append_assoc in
    let all : c.lines ≡ (a.lines ++ f.lines a.pending a.spot (length a.lines)) ++ g.lines (f.leaves a.pending) a.spot (length a.lines + f.size) = cc in
    (all ∙ flat, omega (arith, x.1, y.1), y.2 ∙ ap g.leaves x.2, y.3 ∙ x.3)

-- a stretch behind a step that adds nothing
pub same_adds : (f : Stretch) (a b c : Draft) → Restores a.pending a b → Adds f b c → Adds f a c
same_adds f a b c r x =
    let l : b.lines ≡ a.lines = r.0 in
    let p : b.pending ≡ a.pending = r.1 in
    let s : b.spot ≡ a.spot = r.2 in
    let n : length b.lines ≡ length a.lines = ap length l in
    let all : c.lines ≡ a.lines ++ f.lines a.pending a.spot (length a.lines) = cc in
    (all, omega (arith, x.1, n), x.2 ∙ ap f.leaves p, x.3 ∙ s)

pub if_adds : (f g h : Stretch) (ks : List OperandKind) (d0 d1 d2 d3 d4 d5 : Draft) → Adds f d0 d1 → Turns (False (length d1.lines + 1 + g.size + 1)) ks d1 d2
    → Adds g d2 d3 → Turns (Jump (length d3.lines + 1 + h.size)) ks d3 d4 → Adds h d4 d5 → ks ≡ d0.pending → Adds (if_code f g h) d0 d5
if_adds f g h ks d0 d1 d2 d3 d4 d5 x1 x2 x3 x4 x5 e =
    let at = length d0.lines in
    let p1 = at + f.size in
    let p2 = p1 + 1 + g.size in
    let l1 : length d1.lines ≡ p1 = x1.1 in
    let l2 : length d2.lines ≡ p1 + 1 = omega (arith, x1.1, x2.1) in
    let l3 : length d3.lines ≡ p2 = omega (arith, x3.1, l2) in
    let l4 : length d4.lines ≡ p2 + 1 = omega (arith, x4.1, l3) in
    let l5 : length d5.lines ≡ at + (f.size + (1 + (g.size + (1 + h.size)))) = omega (arith, x5.1, l4) in
    let f1 : length d1.lines + 1 + g.size + 1 ≡ p2 + 1 = omega (arith, l1) in
    let f2 : length d3.lines + 1 + h.size ≡ p2 + 1 + h.size = omega (arith, l3) in
    let m = d0.spot in
    let m1 : d1.spot ≡ m = x1.3 in
    let m2 : d2.spot ≡ m = x2.3 ∙ m1 in
    let m3 : d3.spot ≡ m = x3.3 ∙ m2 in
    let m4 : d4.spot ≡ m = x4.3 ∙ m3 in
    let k0 = d0.pending in
    let k1 : d1.pending ≡ f.leaves k0 = x1.2 in
    let k2 : d2.pending ≡ k0 = x2.2 ∙ e in
    let k3 : d3.pending ≡ g.leaves k0 = x3.2 ∙ ap g.leaves k2 in
    let k4 : d4.pending ≡ k0 = x4.2 ∙ e in
    let x = line_of (False (p2 + 1)) (f.leaves k0) m in
    let y = line_of (Jump (p2 + 1 + h.size)) (g.leaves k0) m in
    let a = f.lines k0 m at in
    let b = g.lines k0 m (p1 + 1) in
    let c = h.lines k0 m (p2 + 1) in
    let v1 : line_of (False (length d1.lines + 1 + g.size + 1)) d1.pending d1.spot ≡ x = cc in
    let v2 : line_of (Jump (length d3.lines + 1 + h.size)) d3.pending d3.spot ≡ y = cc in
    let w2 : d2.lines ≡ (d0.lines ++ a) ++ x ∷ [] =
    x2.0 ∙ ap (λ l. l ++ line_of (False (length d1.lines + 1 + g.size + 1)) d1.pending d1.spot ∷ []) x1.0 ∙ ap (λ i. (d0.lines ++ a) ++ i ∷ []) v1 in
    let b3 : g.lines d2.pending d2.spot (length d2.lines) ≡ b = cc in
    let w3 : d3.lines ≡ ((d0.lines ++ a) ++ x ∷ []) ++ b = x3.0 ∙ ap (λ l. d2.lines ++ l) b3 ∙ ap (λ l. l ++ b) w2 in
    let w4 : d4.lines ≡ (((d0.lines ++ a) ++ x ∷ []) ++ b) ++ y ∷ [] = x4.0 ∙ ap (λ i. d3.lines ++ i ∷ []) v2 ∙ ap (λ l. l ++ y ∷ []) w3 in
    let c5 : h.lines d4.pending d4.spot (length d4.lines) ≡ c = cc in
    let w5 : d5.lines ≡ ((((d0.lines ++ a) ++ x ∷ []) ++ b) ++ y ∷ []) ++ c = x5.0 ∙ ap (λ l. d4.lines ++ l) c5 ∙ ap (λ l. l ++ c) w4 in
    let flat : ((((d0.lines ++ a) ++ x ∷ []) ++ b) ++ y ∷ []) ++ c ≡ d0.lines ++ (a ++ x ∷ (b ++ y ∷ c)) = simp append_assoc in
    (w5 ∙ flat, l5, x5.2 ∙ ap h.leaves k4, x5.3 ∙ m4)

-- two parts of a turn, one after the other
pub exit_adds : (f g : Exit) (end : ℕ) (a b c : Draft) → AddsExit f end a b → AddsExit g end b c → AddsExit (exit_join f g) end a c
exit_adds f g end a b c x y =
    let n : length b.lines ≡ length a.lines + f.size = x.1 in
    let flat : (a.lines ++ f.lines end a.pending a.spot (length a.lines)) ++ g.lines end a.pending a.spot (length a.lines + f.size)
    ≡ a.lines ++ (f.lines end a.pending a.spot (length a.lines) ++ g.lines end a.pending a.spot (length a.lines + f.size)) = simp append_assoc in
    let all : c.lines ≡ (a.lines ++ f.lines end a.pending a.spot (length a.lines)) ++ g.lines end a.pending a.spot (length a.lines + f.size) = cc in
    (all ∙ flat, omega (arith, x.1, y.1), y.2 ∙ x.2, y.3 ∙ x.3)

pub until_adds : (f : Stretch) (end : ℕ) (ks : List OperandKind) (a b c d : Draft) → Adds f a b → Turns (False (length b.lines + 1 + 0 + 1)) ks b c
    → Adds (one (Jump end) keeps) c d → ks ≡ a.pending → AddsExit (until_code (Some f)) end a d
until_adds f end ks a b c d x y z e =
    let at = length a.lines in
    let n : length b.lines + 1 + 0 + 1 ≡ at + f.size + 1 + 1 = omega (arith, x.1) in
    let k : b.pending ≡ f.leaves a.pending = x.2 in
    let s : b.spot ≡ a.spot = x.3 in
    let k2 : c.pending ≡ a.pending = y.2 ∙ e in
    let s2 : c.spot ≡ a.spot = y.3 ∙ s in
    let first = line_of (False (at + f.size + 1 + 1)) (f.leaves a.pending) a.spot in
    let last = line_of (Jump end) a.pending a.spot in
    let lines = f.lines a.pending a.spot at in
    let v : line_of (False (length b.lines + 1 + 0 + 1)) b.pending b.spot ≡ first = cc in
    let w : line_of (Jump end) c.pending c.spot ≡ last = cc in
    let all : d.lines ≡ ((a.lines ++ lines) ++ first ∷ []) ++ last ∷ [] =
    z.0 ∙ ap (λ i. c.lines ++ i ∷ []) w ∙ ap (λ l. l ++ last ∷ []) (y.0 ∙ ap (λ i. b.lines ++ i ∷ []) v ∙ ap (λ l. l ++ first ∷ []) x.0) in
    let flat : ((a.lines ++ lines) ++ first ∷ []) ++ last ∷ [] ≡ a.lines ++ (lines ++ first ∷ (last ∷ [])) = simp append_assoc in
    (all ∙ flat, omega (arith, x.1, y.1, z.1), z.2 ∙ k2, z.3 ∙ s2)

-- a mark, a turn and the way back
pub turns_adds : (turn : Exit) (end top : ℕ) (a b c d : Draft) → Adds (one Mark keeps) a b → AddsExit turn end b c → Adds (one (Jump top) keeps) c d
    → top ≡ length a.lines → end ≡ length a.lines + (1 + (turn.size + 1)) → Adds (turns_code turn) a d
turns_adds turn end top a b c d x y z e e' =
    let at = length a.lines in
    let n : end ≡ at + 1 + turn.size + 1 = omega (arith, e') in
    let l : length b.lines ≡ at + 1 = x.1 in
    let k : b.pending ≡ a.pending = x.2 in
    let s : b.spot ≡ a.spot = x.3 in
    let k2 : c.pending ≡ a.pending = y.2 ∙ k in
    let s2 : c.spot ≡ a.spot = y.3 ∙ s in
    let mark = line_of Mark a.pending a.spot in
    let body = turn.lines (at + 1 + turn.size + 1) a.pending a.spot (at + 1) in
    let back = line_of (Jump at) a.pending a.spot in
    let v : turn.lines end b.pending b.spot (length b.lines) ≡ body = cc in
    let w : line_of (Jump top) c.pending c.spot ≡ back = cc in
    let all : d.lines ≡ ((a.lines ++ mark ∷ []) ++ body) ++ back ∷ [] =
    z.0 ∙ ap (λ i. c.lines ++ i ∷ []) w ∙ ap (λ l. l ++ back ∷ []) (y.0 ∙ ap (λ l. b.lines ++ l) v ∙ ap (λ l. l ++ body) x.0) in
    let flat : ((a.lines ++ mark ∷ []) ++ body) ++ back ∷ [] ≡ a.lines ++ mark ∷ (body ++ back ∷ []) = simp append_assoc in
    (all ∙ flat, omega (arith, x.1, y.1, z.1), z.2 ∙ k2, z.3 ∙ s2)

-- a mark and the way back to it
pub never_adds : (s : Shape) (top : ℕ) (a b c : Draft) → Adds (one Mark keeps) a b → Adds (one (Jump top) (pushes (Value s))) b c → top ≡ length a.lines
    → Adds (never_code s) a c
never_adds s top a b c x y e =
    let k : b.pending ≡ a.pending = x.2 in
    let s' : b.spot ≡ a.spot = x.3 in
    let mark = line_of Mark a.pending a.spot in
    let back = line_of (Jump (length a.lines)) a.pending a.spot in
    let w : line_of (Jump top) b.pending b.spot ≡ back = cc in
    let all : c.lines ≡ (a.lines ++ mark ∷ []) ++ back ∷ [] = y.0 ∙ ap (λ i. b.lines ++ i ∷ []) w ∙ ap (λ l. l ++ back ∷ []) x.0 in
    let flat : (a.lines ++ mark ∷ []) ++ back ∷ [] ≡ a.lines ++ mark ∷ (back ∷ []) = simp append_assoc in
    (all ∙ flat, omega (arith, x.1, y.1), y.2 ∙ ap (pushes (Value s)) k, y.3 ∙ s')

-- a part of a SELECT: tests, the way past it, the part, and the way to the end
pub arm_adds : (arm : Labelled Stretch) (end past : ℕ) (ks : List OperandKind) (a b c d e g h : Draft) → Adds (whens_code arm.labels past) a b
    → Adds (one (Jump (length b.lines + 1 + (arm.part.size + 1))) keeps) b c → Restores (drop 1 ks) c d → Adds arm.part d e → Adds (one (Jump end) keeps) e g
    → Restores ks g h → past ≡ length a.lines + (length arm.labels + 1) → a.pending ≡ ks → AddsArm arm end a h × (h.pending ≡ ks)
arm_adds arm end past ks a b c d e g h x y r z w r' p q =
    let zs = arm.labels in
    let f = arm.part in
    let at = length a.lines in
    let p' : past ≡ at + length zs + 1 = omega (arith, p) in
    let j : length b.lines + 1 + (f.size + 1) ≡ at + length zs + 1 + f.size + 1 = omega (arith, x.1) in
    let kb : b.pending ≡ a.pending = x.2 in
    let sb : b.spot ≡ a.spot = x.3 in
    let kd : d.pending ≡ drop 1 a.pending = r.1 ∙ ap (drop 1) (sym q) in
    let sd : d.spot ≡ a.spot = r.2 ∙ y.3 ∙ sb in
    let ld' : length d.lines ≡ length c.lines = ap length r.0 in
    let ld : length d.lines ≡ at + length zs + 1 = omega (arith, ld', y.1, x.1) in
    let ke : e.pending ≡ f.leaves (drop 1 a.pending) = z.2 ∙ ap f.leaves kd in
    let se : e.spot ≡ a.spot = z.3 ∙ sd in
    let tests = whens zs (at + length zs + 1) a.pending a.spot in
    let over = line_of (Jump (at + length zs + 1 + f.size + 1)) a.pending a.spot in
    let part = f.lines (drop 1 a.pending) a.spot (at + length zs + 1) in
    let last = line_of (Jump end) (f.leaves (drop 1 a.pending)) a.spot in
    let v1 : whens zs past a.pending a.spot ≡ tests = ap (λ n. whens zs n a.pending a.spot) p' in
    let v2 : line_of (Jump (length b.lines + 1 + (f.size + 1))) b.pending b.spot ≡ over = cc in
    let v3 : f.lines d.pending d.spot (length d.lines) ≡ part = cc in
    let v4 : line_of (Jump end) e.pending e.spot ≡ last = cc in
    let b1 : b.lines ≡ a.lines ++ tests = x.0 ∙ ap (λ l. a.lines ++ l) v1 in
    let d1 : d.lines ≡ (a.lines ++ tests) ++ over ∷ [] = r.0 ∙ y.0 ∙ ap (λ i. b.lines ++ i ∷ []) v2 ∙ ap (λ l. l ++ over ∷ []) b1 in
    let e1 : e.lines ≡ ((a.lines ++ tests) ++ over ∷ []) ++ part = z.0 ∙ ap (λ l. d.lines ++ l) v3 ∙ ap (λ l. l ++ part) d1 in
    let all : h.lines ≡ (((a.lines ++ tests) ++ over ∷ []) ++ part) ++ last ∷ [] = r'.0 ∙ w.0 ∙ ap (λ i. e.lines ++ i ∷ []) v4 ∙ ap (λ l. l ++ last ∷ []) e1 in
    let flat : (((a.lines ++ tests) ++ over ∷ []) ++ part) ++ last ∷ [] ≡ a.lines ++ (tests ++ (over ∷ (part ++ (last ∷ [])))) = simp append_assoc in
    let lh : length h.lines ≡ length g.lines = ap length r'.0 in
    ((all ∙ flat, omega (arith, lh, w.1, z.1, ld), r'.2 ∙ w.3 ∙ se), r'.1)

-- a part of a SELECT, and the rest of it
pub select_adds : (arm : Labelled Stretch) (rest : Stretch) (end : ℕ) (a b c : Draft) → AddsArm arm end a b → b.pending ≡ a.pending → Adds rest b c
    → end ≡ length b.lines + rest.size → Adds (arm_code arm.labels arm.part rest) a c
select_adds arm rest end a b c x q y p =
    let zs = arm.labels in
    let f = arm.part in
    let at = length a.lines in
    let lb : length b.lines ≡ at + length zs + 1 + f.size + 1 = omega (arith, x.1) in
    let p' : end ≡ at + length zs + 1 + f.size + 1 + rest.size = omega (arith, p, lb) in
    let s : b.spot ≡ a.spot = x.2 in
    let tests = whens zs (at + length zs + 1) a.pending a.spot in
    let over = line_of (Jump (at + length zs + 1 + f.size + 1)) a.pending a.spot in
    let part = f.lines (drop 1 a.pending) a.spot (at + length zs + 1) in
    let last = line_of (Jump (at + length zs + 1 + f.size + 1 + rest.size)) (f.leaves (drop 1 a.pending)) a.spot in
    let more = rest.lines a.pending a.spot (at + length zs + 1 + f.size + 1) in
    let v1 : line_of (Jump end) (f.leaves (drop 1 a.pending)) a.spot ≡ last = cc in
    let v2 : rest.lines b.pending b.spot (length b.lines) ≡ more = cc in
    let b1 : b.lines ≡ a.lines ++ (tests ++ (over ∷ (part ++ (last ∷ [])))) = x.0 ∙ ap (λ i. a.lines ++ (tests ++ (over ∷ (part ++ (i ∷ []))))) v1 in
    let all : c.lines ≡ (a.lines ++ (tests ++ (over ∷ (part ++ (last ∷ []))))) ++ more = y.0 ∙ ap (λ l. b.lines ++ l) v2 ∙ ap (λ l. l ++ more) b1 in
    let flat : (a.lines ++ (tests ++ (over ∷ (part ++ (last ∷ []))))) ++ more ≡ a.lines ++ (tests ++ (over ∷ (part ++ (last ∷ more)))) = simp append_assoc in
    (all ∙ flat, omega (arith, y.1, lb), y.2 ∙ ap rest.leaves q, y.3 ∙ s)
