-- What calls, references to refinements and LEAVE do, whatever the actuals are and whatever calls do.
use Rattle.std.proofs.Common.{◌≡◌, ℕ, ◌+◌, ◌≤◌, List, [], ◌∷◌, ◌++◌, length, drop, Option, Some, None, refl, sym, ap, ◌∙◌, subst, arith}
use Rattle.std.specs.Prelude.{slice_get}
use Rattle.std.proofs.lemmas.List.{append-nil}
use Rattle.eu_base.specs.declared.value.Kind.{Kind}
use Rattle.eu_base.specs.declared.value.Value.{Value}
use Rattle.eu_base.specs.declared.shape.Shape.{Shape}
use Rattle.code_form.specs.declared.operand.Operand.{Operand}
use Rattle.code_form.specs.declared.operand.OperandKind.{OperandKind}
use Rattle.code_form.specs.declared.operand.OperandKind.TheVariants as operand
use Rattle.code_form.specs.declared.instr.Instr.TheVariants.{Call}
use Rattle.code_form.specs.declared.code.Spot.{Spot}
use Rattle.code_form.specs.declared.code.Entry.{Entry}
use Rattle.code_form.specs.declared.code.Layout.TheVariants as layouts
use Rattle.code_form.specs.Program.{Program, owner, line_of}
use Rattle.code_form.specs.Machine.{Mem, Position, Move, at, base_of, bytes_on, bytes_of, on_result, instruction}
use Rattle.code_form.specs.Valid.{IsRefinement, with_result}
use Rattle.elan_types.specs.declared.core_phrase.Exit.{Exit}
use Rattle.elan_types.specs.declared.core_phrase.Exit.TheVariants as exits
use Rattle.elan_types.specs.Eval.{Place, World, Gives, Left, bind, Passed, AsValue, AsPlace, all_slots, holding_passed, actuals, delivered, Calls, Run}
use Rattle.place_gen.specs.Stretch.{Stretch, none, one, keeps, join, all_code, call_code, refer_code, leave_instr}
use Rattle.elan_types.specs.Command.{Ending}
use Rattle.place_gen.specs.Correct.{scene_of}
use Rattle.place_gen.proofs.Lines.{join_sized}
use Rattle.place_gen.proofs.Homes.{LeftBy}
use Rattle.place_gen.proofs.Cells.{Uses, Keeps}
use Rattle.place_gen.proofs.Carry.{P, Any, OfShape, Result, result_ops, way_out, reach, holds_operand, Ends, Exits, Carries, Takes, TakeAll, passed_operand, pushed_passed, on_move}
use Rattle.place_gen.proofs.Carry.{then_carries, none_carries, here, ends_at, join_carries}
use Rattle.place_gen.proofs.Forms.{keep, keep_place, Is, IsValue, IsPlace, IsAction}

-- the instruction that leaves a body
module _ (p : Program) where
  leave_move : (e : Exit) (k : Option Shape) (c : Position) (memory : Mem)
      → instruction p (Some (leave_instr e k)) c memory ≡ on_result k c.ops (λ result. way_out p e result c.used c.frames memory)
  leave_move exits.Body k c memory = refl
  leave_move exits.Around k c memory = refl

  result_taken : (k : Option Shape) (v : Option (List Value)) (ops : List Operand) (go : List Operand → Move) → Result k v
      → on_result k (result_ops v ++ ops) go ≡ go (result_ops v)
  result_taken None None ops go r = refl
  result_taken None (Some v) ops go r = absurd r
  result_taken (Some s) None ops go r = absurd r
  result_taken (Some s) (Some []) ops go r = refl
  result_taken (Some s) (Some (v ∷ [])) ops go r = refl
  result_taken (Some s) (Some (v ∷ u ∷ vs)) ops go r = refl

  pub leave_ends : (e : Exit) (k : Option Shape) (v : Option (List Value)) (L : Uses) (b pc : ℕ) (ks : List OperandKind) (m : Spot) (c : Position)
      (ops : List Operand) (l : Exit → Option (List Value) → World → Ending) → Result k v → LeftBy p m.body e k
      → slice_get p.lines pc ≡ Some (line_of (leave_instr e k) ks m) → c.used ≡ length L → Exits p L b m.body c.frames l → (w : World) → w.marks ≤ b
      → Ends p L (at c pc (result_ops v ++ ops)) w (l e v w)
  leave_ends e k v L b pc ks m c ops l r d has used hl w le = λ memory keeps.
      let now = at c pc (result_ops v ++ ops) in
      on_move p now (scene_of w memory) (way_out p e (result_ops v) c.used c.frames memory) (l e v w)
      (here p pc (leave_instr e k) ks m has c (result_ops v ++ ops) memory ∙ leave_move e k now memory
      ∙ result_taken k v ops (λ result. way_out p e result c.used c.frames memory) r)
      (hl.by e k d [] tt v w r le now (omega (arith, used)) memory (subst (λ U. Keeps (P p) U w memory) (sym (append-nil L)) keeps))

module _ (p : Program) (body : Option ℕ) where
  -- what a parameter is given, and what parameters are given
  abbrev push_passed : Passed → List Operand → List Operand
  push_passed a ops = passed_operand a ∷ ops

  abbrev pub IsActual : OperandKind → Run Passed → Stretch → Type 0
  IsActual k = Is p body (Takes p k) push_passed

  abbrev pub AreActuals : List OperandKind → List (Run Passed) → Stretch → Type 0
  AreActuals ks xs = Is p body (TakeAll p ks) (pushed_passed p) (actuals xs)

  pub value_actual : {x : Run (List Value)} {f : Stretch} (s : Shape) → IsValue p body s x f
      → IsActual (operand.Value s) (λ r w. bind (x r w) (λ vs. Gives (AsValue vs))) f
  value_actual {x} {f} s i = record {
    sized = i.sized;
    goes =
        λ calls n b pc L ks m c ops home le has.
        then_carries p b (at c pc ops) (x (reach calls n c ops)) (λ vs. at c (pc + f.size) (keep vs ops)) (λ vs. Gives (AsValue vs))
        (λ a. at c (pc + f.size) (push_passed a ops)) (i.goes calls n b pc L ks m c ops home le has)
        (λ vs ok. none_carries p b (AsValue vs) (λ a. at c (pc + f.size) (push_passed a ops)) (vs, refl, ok));
  }

  pub place_actual : {x : Run Place} {f : Stretch} (s : Shape) → IsPlace p body s x f
      → IsActual (operand.Place s) (λ r w. bind (x r w) (λ v. Gives (AsPlace v))) f
  place_actual {x} {f} s i = record {
    sized = i.sized;
    goes =
        λ calls n b pc L ks m c ops home le has.
        then_carries p b (at c pc ops) (x (reach calls n c ops)) (λ v. at c (pc + f.size) (keep_place v ops)) (λ v. Gives (AsPlace v))
        (λ a. at c (pc + f.size) (push_passed a ops)) (i.goes calls n b pc L ks m c ops home le has)
        (λ v ok. none_carries p b (AsPlace v) (λ a. at c (pc + f.size) (push_passed a ops)) (v, refl, ok));
  }

  pub no_actuals_are : AreActuals [] [] none
  no_actuals_are = record {
    sized = λ ks m pc. refl;
    goes =
        λ calls n b pc L ks m c ops home le has.
        ends_at p b (at c pc ops) c (Gives []) pc _ (λ ss. pushed_passed p ss ops) (omega arith)
        (none_carries p b [] (λ ss. at c pc (pushed_passed p ss ops)) tt);
  }

  -- what is pending with it
  held_passed : (calls : Calls) (n : ℕ) (c : Position) (ops : List Operand) (a : Passed)
      → reach calls n c (push_passed a ops) ≡ holding_passed a (reach calls n c ops)
  held_passed calls n c ops (AsValue vs) = sym (holds_operand calls n c vs ops)
  held_passed calls n c ops (AsPlace x) = refl

  pub more_actuals_are : (k : OperandKind) (ks' : List OperandKind) (x : Run Passed) (y : List (Run Passed)) {f g : Stretch} → IsActual k x f → AreActuals ks' y g
      → AreActuals (k ∷ ks') (x ∷ y) (join f g)
  more_actuals_are k ks' x y {f} {g} i j = record {
    sized = join_sized f g i.sized j.sized;
    goes =
        λ calls n b pc L ks m c ops home le has.
        join_carries p f g b pc ks m c ops (x (reach calls n c ops))
        (λ s w. bind (actuals y (holding_passed s (reach calls n c ops)) w) (λ ss. Gives (s ∷ ss))) (λ s. push_passed s ops) (λ ss. pushed_passed p ss ops)
        i.sized has (λ h. i.goes calls n b pc L ks m c ops home le h) (λ h s ok.
        let q = pc + f.size in
        let more = push_passed s ops in
        then_carries p b (at c q more) (actuals y (holding_passed s (reach calls n c ops))) (λ ss. at c (q + g.size) (pushed_passed p ss more))
        (λ ss. Gives (s ∷ ss)) (λ ss. at c (q + g.size) (pushed_passed p ss ops))
        (subst (λ r. Carries p L m.body c.frames (TakeAll p ks') b (at c q more) (actuals y r) (λ ss. at c (q + g.size) (pushed_passed p ss more)))
        (held_passed calls n c ops s) (j.goes calls n b q L (f.leaves ks) m c more home le h))
        (λ ss oks. none_carries p b (s ∷ ss) (λ ss. at c (q + g.size) (pushed_passed p ss ops)) (ok, oks)));
  }

  -- the result of a body that delivers a value, and of one that delivers none
  value_result : {L : Uses} {home : Option ℕ} (s : Shape) (d : Option Shape) (b z : ℕ) (c : Position) (ops : List Operand) (v : Option (List Value))
      → d ≡ Some s → Result d v
      → Carries p L home c.frames (OfShape s) b (at c z (result_ops v ++ ops)) (Gives (delivered v)) (λ vs. at c z (keep vs ops))
  value_result k d b z c ops None e ok = absurd (subst (λ d. Result d None) e ok)
  value_result k d b z c ops (Some v) e ok = none_carries p b v (λ vs. at c z (keep vs ops)) (subst (λ d. Result d (Some v)) e ok)

  no_result : {L : Uses} {home : Option ℕ} (d : Option Shape) (b z : ℕ) (c : Position) (ops : List Operand) (v : Option (List Value)) → d ≡ None → Result d v
      → Carries p L home c.frames Any b (at c z (result_ops v ++ ops)) (Gives (tt {0})) (λ _. at c z ops)
  no_result d b z c ops None e ok = none_carries p b tt (λ _. at c z ops) tt
  no_result d b z c ops (Some v) e ok = absurd (subst (λ d. Result d (Some v)) e ok)

  pub call_value_is : (q : ℕ) (e : Entry) (ks' : List OperandKind) (vs : List Kind) (s : Shape) (xs : List (Run Passed)) (fs : List Stretch)
      → slice_get p.bodies q ≡ Some e → e.layout ≡ layouts.Own ks' vs → e.delivers ≡ Some s → AreActuals ks' xs (all_code fs)
      → IsValue p body s (λ r w. bind (actuals xs r w) (λ ss w. bind (r.calls.call q (all_slots ss) r.held w) (λ v. Gives (delivered v))))
      (call_code q (Some s) fs)
  call_value_is q e ks' vs s xs fs has_body own gives i =
      let g = one (Call q) (λ (ks : List OperandKind). with_result (Some s) (drop (length fs) ks)) in record {
        sized = join_sized (all_code fs) g i.sized (λ ks m pc. refl);
        goes = λ calls n b pc L ks m c ops home le has.
            let held = bytes_on ops (bytes_of c.frames) in
            join_carries p (all_code fs) g b pc ks m c ops (actuals xs (reach calls n c ops)) (λ ss w. bind (calls.call q (all_slots ss) held w) (λ v. Gives (delivered v)))
            (λ ss. pushed_passed p ss ops) (λ vs. keep vs ops) i.sized has (λ h. i.goes calls n b pc L ks m c ops home le h) (λ h ss oks.
            let z = pc + (all_code fs).size in
            then_carries p b (at c z (pushed_passed p ss ops)) (calls.call q (all_slots ss) held) (λ v. at c (z + 1) (result_ops v ++ ops)) (λ v. Gives (delivered v))
            (λ vs. at c (z + 1) (keep vs ops)) (le.carry.call L b z q ((all_code fs).leaves ks) m c ops e ks' vs ss le.turns le.stands h.0 has_body own oks)
            (λ v ok.
            value_result s e.delivers b (z + 1) c ops v gives ok));
      }

  pub call_action_is : (q : ℕ) (e : Entry) (ks' : List OperandKind) (vs : List Kind) (xs : List (Run Passed)) (fs : List Stretch) → slice_get p.bodies q ≡ Some e
      → e.layout ≡ layouts.Own ks' vs → e.delivers ≡ None → AreActuals ks' xs (all_code fs)
      → IsAction p body (λ r w. bind (actuals xs r w) (λ ss w. bind (r.calls.call q (all_slots ss) r.held w) (λ _. Gives tt))) (call_code q None fs)
  call_action_is q e ks' vs xs fs has_body own gives i =
      let g = one (Call q) (λ (ks : List OperandKind). with_result None (drop (length fs) ks)) in record {
        sized = join_sized (all_code fs) g i.sized (λ ks m pc. refl);
        goes = λ calls n b pc L ks m c ops home le has.
            let held = bytes_on ops (bytes_of c.frames) in
            join_carries p (all_code fs) g b pc ks m c ops (actuals xs (reach calls n c ops)) (λ ss w. bind (calls.call q (all_slots ss) held w) (λ _. Gives (tt {0})))
            (λ ss. pushed_passed p ss ops) (λ _. ops) i.sized has (λ h. i.goes calls n b pc L ks m c ops home le h) (λ h ss oks.
            let z = pc + (all_code fs).size in
            then_carries p b (at c z (pushed_passed p ss ops)) (calls.call q (all_slots ss) held) (λ v. at c (z + 1) (result_ops v ++ ops)) (λ _. Gives (tt {0}))
            (λ _. at c (z + 1) ops) (le.carry.call L b z q ((all_code fs).leaves ks) m c ops e ks' vs ss le.turns le.stands h.0 has_body own oks) (λ v ok.
            no_result e.delivers b (z + 1) c ops v gives ok));
      }

  pub refer_value_is : (q : ℕ) (e : Entry) (s : Shape) → slice_get p.bodies q ≡ Some e → IsRefinement e.layout → owner p (Some q) ≡ owner p body
      → e.delivers ≡ Some s
      → IsValue p body s (λ r w. bind (r.calls.refer q r.base r.held w) (λ v. Gives (delivered v))) (refer_code q (Some s))
  refer_value_is q e s has_body refines owned gives = record {
    sized = λ ks m pc. refl;
    goes = λ calls n b pc L ks m c ops home le has.
        then_carries p b (at c pc ops) (calls.refer q (base_of c.frames) (bytes_on ops (bytes_of c.frames))) (λ v. at c (pc + 1) (result_ops v ++ ops))
        (λ v. Gives (delivered v)) (λ vs. at c (pc + 1) (keep vs ops))
        (le.carry.refer L b pc q ks m c ops e le.turns le.stands has.0 has_body refines (owned ∙ ap (owner p) (sym home))) (λ v ok.
        value_result s e.delivers b (pc + 1) c ops v gives ok);
  }

  pub refer_action_is : (q : ℕ) (e : Entry) → slice_get p.bodies q ≡ Some e → IsRefinement e.layout → owner p (Some q) ≡ owner p body → e.delivers ≡ None
      → IsAction p body (λ r w. bind (r.calls.refer q r.base r.held w) (λ _. Gives tt)) (refer_code q None)
  refer_action_is q e has_body refines owned gives = record {
    sized = λ ks m pc. refl;
    goes = λ calls n b pc L ks m c ops home le has.
        then_carries p b (at c pc ops) (calls.refer q (base_of c.frames) (bytes_on ops (bytes_of c.frames))) (λ v. at c (pc + 1) (result_ops v ++ ops))
        (λ _. Gives (tt {0})) (λ _. at c (pc + 1) ops)
        (le.carry.refer L b pc q ks m c ops e le.turns le.stands has.0 has_body refines (owned ∙ ap (owner p) (sym home))) (λ v ok.
        no_result e.delivers b (pc + 1) c ops v gives ok);
  }

  leaves : {A : Type 0} {Good : Uses → A → Type 0} (e : Exit) (k : Option Shape) (v : Option (List Value)) (L : Uses) (b pc : ℕ) (ks : List OperandKind) (m : Spot)
      (c : Position) (ops : List Operand) (to : A → Position) → Result k v → m.body ≡ body → LeftBy p body e k
      → slice_get p.lines pc ≡ Some (line_of (leave_instr e k) ks m) → c.used ≡ length L
      → Carries p L m.body c.frames Good b (at c pc (result_ops v ++ ops)) (Left e v) to
  leaves e k v L b pc ks m c ops to r home d has used = record {
    by = λ k' l hk hl w le. leave_ends p e k v L b pc ks m c ops l r (subst (λ o. LeftBy p o e k) (sym home) d) has used hl w le;
  }

  pub leave_is : (e : Exit) → LeftBy p body e None → IsAction p body (λ r. Left e None) (one (leave_instr e None) keeps)
  leave_is e d = record {
    sized = λ ks m pc. refl;
    goes = λ calls n b pc L ks m c ops home le has. leaves e None None L b pc ks m c ops (λ _. at c (pc + 1) ops) tt home d has.0 le.stands.used;
  }

  pub leave_with_is : {x : Run (List Value)} {f : Stretch} (e : Exit) (s : Shape) → LeftBy p body e (Some s) → IsValue p body s x f
      → IsAction p body (λ r w. bind (x r w) (λ vs. Left e (Some vs))) (join f (one (leave_instr e (Some s)) (drop 1)))
  leave_with_is {x} {f} e s d i =
      let g = one (leave_instr e (Some s)) (drop 1) in record {
        sized = join_sized f g i.sized (λ ks m pc. refl);
        goes =
            λ calls n b pc L ks m c ops home le has.
            join_carries p f g b pc ks m c ops (x (reach calls n c ops)) (λ vs. Left e (Some vs)) (λ vs. keep vs ops) (λ _. ops) i.sized has
            (λ h. i.goes calls n b pc L ks m c ops home le h) (λ h v ok.
            leaves e (Some s) (Some v) L b (pc + f.size) (f.leaves ks) m c ops (λ _. at c (pc + f.size + 1) ops) ok home d h.0 le.stands.used);
      }
