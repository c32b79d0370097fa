-- The code of bodies stands where the tables say, and does what the bodies do.
use Rattle.std.proofs.Common.{◌≡◌, ℕ, zero, suc, ◌+◌, List, [], ◌∷◌, map, length, drop, Some, None, true, refl, sym, ap, subst, arith}
use Rattle.std.specs.Prelude.{slice_get}
use Rattle.code_form.specs.declared.operand.OperandKind.{OperandKind}
use Rattle.code_form.specs.declared.instr.Instr.{Instr}
use Rattle.code_form.specs.declared.instr.Instr.TheVariants.{Back}
use Rattle.code_form.specs.declared.code.Line.{Line}
use Rattle.code_form.specs.declared.code.Spot.{Spot}
use Rattle.code_form.specs.declared.code.Entry.{Entry}
use Rattle.code_form.specs.Program.{Program, in_body}
use Rattle.code_form.specs.Machine.{at}
use Rattle.elan_types.specs.declared.core_phrase.Exit.TheVariants as exits
use Rattle.elan_types.specs.declared.core_phrase.Content.{Content}
use Rattle.elan_types.specs.declared.core_phrase.Content.TheVariants as contents
use Rattle.elan_types.specs.declared.core_phrase.Body.{Body}
use Rattle.elan_types.specs.Typing.{Outside, result_of_content, is_content_typed}
use Rattle.elan_types.specs.Eval.{Gives, all, act, value}
use Rattle.place_gen.specs.Stretch.{one, keeps, all_code, action_code, value_code, content_code}
use Rattle.place_gen.proofs.Lines.{HasAt, has_front, has_rest, IsSized, join_sized}
use Rattle.place_gen.proofs.Homes.{Delivers, Agrees, IsHome, has_shape_is}
use Rattle.place_gen.proofs.Carry.{finish_bind, reach, Ends}
use Rattle.place_gen.proofs.Calls.{leave_ends}
use Rattle.place_gen.proofs.Tree.{all_are, value_is}
use Rattle.code_gen.specs.Program.{entry_of, entries, body_lines}
use Rattle.code_gen.proofs.Level.{ContentCarries}

abbrev pub IsContentSized : Content → Type 0
IsContentSized con = (m : Spot) (at : ℕ) → length ((content_code con).lines [] m at) ≡ (content_code con).size

-- the lines of a body stand where its entry says
pub body_has : (lines : List Line) (bs : List Body) (k at n : ℕ) (b : Body) (e : Entry)
    → ((n : ℕ) (b : Body) → slice_get bs n ≡ Some b → IsContentSized b.content) → HasAt lines at (body_lines bs k at) → slice_get bs n ≡ Some b
    → slice_get (entries bs at) n ≡ Some e → HasAt lines e.first ((content_code b.content).lines [] (in_body (k + n)) e.first)
body_has lines [] k at n b e sized has is entry = let f : ⊥ = cc in absurd f
body_has lines (x ∷ bs) k at zero b e sized has is entry =
    let same : x ≡ b = cc in
    let same' : entry_of x at ≡ e = cc in
    let first : at ≡ e.first = ap (λ (e : Entry). e.first) same' in
    let n : k ≡ k + 0 = omega arith in
    let h = has_front lines at ((content_code x.content).lines [] (in_body k) at) _ has in
    subst (λ (b : Body). HasAt lines e.first ((content_code b.content).lines [] (in_body (k + 0)) e.first)) same
    (subst (λ z. HasAt lines z ((content_code x.content).lines [] (in_body (k + 0)) z)) first
    (subst (λ n. HasAt lines at ((content_code x.content).lines [] (in_body n) at)) n h))
body_has lines (x ∷ bs) k at (suc n) b e sized has is entry =
    let n' : suc k + n ≡ k + suc n = omega arith in
    let h = has_rest lines at (content_code x.content).size ((content_code x.content).lines [] (in_body k) at) _ (sized 0 x refl (in_body k) at) has in
    subst (λ n. HasAt lines e.first ((content_code b.content).lines [] (in_body n) e.first)) n'
    (body_has lines bs (suc k) (at + (content_code x.content).size) n b e (λ n b. sized (suc n) b) h is entry)

module _ (p : Program) (outside : Outside) (bodies : List Body) (agrees : Agrees p outside bodies) (q : ℕ) (home : IsHome bodies (Some q)) where
  one_sized : (i : Instr) (f : List OperandKind → List OperandKind) → IsSized (one i f)
  one_sized i f ks m pc = refl

  pub content_sized : (con : Content) → is_content_typed outside bodies (Some q) con ≡ true → IsContentSized con
  content_sized (contents.Units us) e m at =
      join_sized (all_code (map action_code us)) (one (Back None) keeps) (all_are p outside bodies agrees (Some q) home us e).sized
      (one_sized (Back None) keeps) [] m at
  content_sized (contents.Value u a) e m at =
      join_sized (value_code a) (one (Back (Some u)) (drop 1)) (value_is p outside bodies agrees (Some q) home a u (has_shape_is u _ e)).sized
      (one_sized (Back (Some u)) (drop 1)) [] m at

  pub content_carries : (first : ℕ) (con : Content) → is_content_typed outside bodies (Some q) con ≡ true
      → HasAt p.lines first ((content_code con).lines [] (in_body q) first) → Delivers p (Some q) (result_of_content con) → ContentCarries p q first con
  content_carries first (contents.Units us) e has gives =
      let f = all_code (map action_code us) in
      let i = all_are p outside bodies agrees (Some q) home us e in
      let h = has_rest p.lines first f.size (f.lines [] (in_body q) first) _ (i.sized [] (in_body q) first) has in record {
        ends = λ calls n b L c le l hl w lw.
            subst (Ends p L (at c first []) w) (sym (finish_bind (all (map act us) (reach calls n c []) w) (λ _. Gives None) (l exits.Body) l))
            ((i.goes calls n b first L [] (in_body q) c [] refl le (has_front p.lines first (f.lines [] (in_body q) first) _ has)).by
            (λ _ w. l exits.Body None w) l
            (λ _ w _ le'. leave_ends p exits.Body None None L b (first + f.size) (f.leaves []) (in_body q) c [] l tt gives h.0 le.stands.used hl w le') hl w
            lw);
      }
  content_carries first (contents.Value u a) e has gives =
      let f = value_code a in
      let i = value_is p outside bodies agrees (Some q) home a u (has_shape_is u _ e) in
      let h = has_rest p.lines first f.size (f.lines [] (in_body q) first) _ (i.sized [] (in_body q) first) has in record {
        ends = λ calls n b L c le l hl w lw.
            subst (Ends p L (at c first []) w) (sym (finish_bind (value a (reach calls n c []) w) (λ v. Gives (Some v)) (l exits.Body) l))
            ((i.goes calls n b first L [] (in_body q) c [] refl le (has_front p.lines first (f.lines [] (in_body q) first) _ has)).by
            (λ v w. l exits.Body (Some v) w) l
            (λ v w ok le'. leave_ends p exits.Body (Some u) (Some v) L b (first + f.size) (f.leaves []) (in_body q) c [] l ok gives h.0
            le.stands.used hl w le') hl w lw);
      }
