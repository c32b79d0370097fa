-- What PROCs, OPs and refinements mean, from what their parts mean.
use Rattle.std.proofs.Common.{◌≡◌, ℕ, suc, ◌+◌, ◌<◌, List, [], ◌∷◌, ◌++◌, map, length, get_or, drop, Result, Option, arith, Bool}
use Rattle.std.proofs.Common.{sym, ap, subst, ◌∙◌, append_assoc}
use Rattle.elan_types.specs.declared.elan_type.ElanType.{ElanType}
use Rattle.elan_types.specs.declared.elan_type.Parameter.{Parameter}
use Rattle.elan_types.specs.declared.core_phrase.Scope.{Scope as Owner}
use Rattle.elan_tree.specs.declared.phrase.Unit.{Unit as Statement}
use Rattle.elan_tree.specs.declared.written_type.Name.{Name}
use Rattle.elan_tree.specs.declared.written_type.TypePhrase.{TypePhrase}
use Rattle.elan_tree.specs.declared.written_type.Formal.{Formal}
use Rattle.elan_tree.specs.declared.tree.Body.{Body}
use Rattle.elan_tree.specs.declared.tree.Refinement.{Refinement}
use Rattle.elan_tree.specs.declared.tree.Export.{Export}
use Rattle.elan_tree.specs.declared.tree.Level.{Level}
use Rattle.elan_tree.specs.declared.tree.LevelUnit.{LevelUnit}
use Rattle.elan_names.specs.declared.heading.Sort.{Sort}
use Rattle.elan_names.specs.declared.heading.Sort.TheVariants.{Procedure}
use Rattle.std.specs.List.{list_any}
use Rattle.std.specs.Str.{bytes_eq}
use Rattle.elan_scope.specs.declared.scope.Scope.{Scope}
use Rattle.elan_scope.specs.declared.known.Known.{Known}
use Rattle.elan_meant.specs.declared.meant.Meant.{Meant}
use Rattle.elan_scope.specs.declared.trouble.Trouble.{Trouble}
use Rattle.elan_scope.specs.Phrase as form
use Rattle.elan_scope.specs.Known.{delivered}
use Rattle.elan_scope.specs.declared.delivery.Delivery.{Delivery}
use Rattle.elan_scope.specs.Phrase.{Phrase, all_of, around, leaf}
use Rattle.elan_scope.specs.Answer.{Is}
use Rattle.elan_check.specs.Below.elan_rules.specs.Meaning.{judged, judged_all}
use Rattle.elan_scope.specs.Ruled.{Ruled, gives, joined}
use Rattle.elan_scope.specs.Scope.{first_heading, is_alike, types_of}
use Rattle.elan_check.specs.Below.value_rules.specs.Calls as calls
use Rattle.elan_check.specs.Below.elan_rules.specs.Units as u
use Rattle.elan_judge.specs.Shape as shape
use Rattle.type_names.specs.Bodies.{parameters, result, frame, body_within, routine_scope, bodies_in, bodies_of_units}
use Rattle.elan_judge.specs.Level as l
pub use Rattle.elan_judge.proofs.Rows.{Grown, starts, grows, grows_all, ends, left_at, left_none}
use Rattle.elan_judge.proofs.Rows.{one_is}
use Rattle.elan_judge.specs.walks.Units.{level_units}

-- what is said of a row and the next phrase
abbrev Joins : Result (List Meant) Trouble → Result Meant Trouble → Result (List Meant) Trouble → Type 0
Joins row one next = (rs : Ruled (List Meant)) (r : Ruled Meant) → Is row rs → Is one r → Is next (joined rs r)

module _ (k : Known) (row : Result (List Meant) Trouble) (one : Result Meant Trouble) (next : Result (List Meant) Trouble) (joins : Joins row one next) where
  pub grows_by : (p : Phrase) (left whole : List Phrase) → Grown k row (p ∷ left) whole → Is one (judged k p) → Grown k next left whole
  grows_by p left whole g h = grows k row next p left whole g (joins (judged_all k (all_of g.done)) (judged k p) g.means h)

  pub refinements_go : (s z : Scope) (rs : List Refinement) (i : ℕ) (r : Refinement) (n m : ℕ) (whole : List Phrase) → i < length rs → r ≡ get_or rs i r
      → m ≡ n + 1 → z ≡ s →
      Grown k row (l.refinements s n (drop i rs)) whole → Is one (judged k (l.refinement z n r)) → Grown k next (l.refinements s m (drop (i + 1) rs)) whole
  refinements_go s z rs i r n m whole lt e em ez g h =
      let here : Is one (judged k (l.refinement s n r)) = subst (λ (y : Scope). Is one (judged k (l.refinement y n r))) ez h in
      let number : suc n ≡ m = omega (arith, em) in
      let index : suc i ≡ i + 1 = omega arith in
      subst (λ (j : ℕ). Grown k next (l.refinements s j (drop (i + 1) rs)) whole) number
      (subst (λ (j : ℕ). Grown k next (l.refinements s (suc n) (drop j rs)) whole) index
      (grows_by (l.refinement s n r) (l.refinements s (suc n) (drop (suc i) rs)) whole (left_at (l.refinements s n) k row rs i r whole lt e g) here))

  pub names_go : (s : Scope) (ns : List Name) (i : ℕ) (n : Name) (whole : List Phrase) → i < length ns → n ≡ get_or ns i n →
      Grown k row (map (l.declares s) (drop i ns)) whole → Is one (judged k (l.declares s n)) → Grown k next (map (l.declares s) (drop (i + 1) ns)) whole
  names_go s ns i n whole lt e g h =
      let index : suc i ≡ i + 1 = omega arith in
      subst (λ (j : ℕ). Grown k next (map (l.declares s) (drop j ns)) whole) index
      (grows_by (l.declares s n) (map (l.declares s) (drop (suc i) ns)) whole (left_at (map (l.declares s)) k row ns i n whole lt e g) h)

  pub units_go : (s z : Scope) (us : List LevelUnit) (i : ℕ) (u : LevelUnit) (n m : ℕ) (whole : List Phrase) → i < length us → u ≡ get_or us i u
      → m ≡ n + bodies_in u → z ≡ s →
      Grown k row (level_units s n (drop i us)) whole → Is one (judged k (l.level_unit z n u)) → Grown k next (level_units s m (drop (i + 1) us)) whole
  units_go s z us i u n m whole lt e em ez g h =
      let here : Is one (judged k (l.level_unit s n u)) = subst (λ (y : Scope). Is one (judged k (l.level_unit y n u))) ez h in
      let index : suc i ≡ i + 1 = omega arith in
      subst (λ (j : ℕ). Grown k next (level_units s j (drop (i + 1) us)) whole) (sym em)
      (subst (λ (j : ℕ). Grown k next (level_units s (n + bodies_in u) (drop j us)) whole) index
      (grows_by (l.level_unit s n u) (level_units s (n + bodies_in u) (drop (suc i) us)) whole (left_at (level_units s n) k row us i u whole lt e g) here))

  pub exports_go : (s : Scope) (w : Level) (earlier : List (List ℕ)) (es : List Export) (i : ℕ) (x : Export) (whole : List Phrase) → i < length es
      → x ≡ get_or es i x →
      Grown k row (l.exports s w earlier (drop i es)) whole
      → Is one (judged k (leaf (l.export_place x)
      (form.exported (list_any (λ y. bytes_eq y (l.export_name x)) earlier) (l.may_show s w (l.export_name x)))))
      → Grown k next (l.exports s w (earlier ++ l.export_name x ∷ []) (drop (i + 1) es)) whole
  exports_go s w earlier es i x whole lt e g h =
      let behind = earlier ++ l.export_name x ∷ [] in
      let index : suc i ≡ i + 1 = omega arith in
      subst (λ (j : ℕ). Grown k next (l.exports s w behind (drop j es)) whole) index
      (grows_by (leaf (l.export_place x) (form.exported (list_any (λ y. bytes_eq y (l.export_name x)) earlier) (l.may_show s w (l.export_name x))))
      (l.exports s w behind (drop (suc i) es)) whole (left_at (l.exports s w earlier) k row es i x whole lt e g) h)

-- the parts of a level behind what it shows
pub level_goes : (k : Known) (row : Result (List Meant) Trouble) (s z : Scope) (w : Level) (es : List Phrase) (us : List LevelUnit) (n : ℕ)
    (rs : List Refinement) → z ≡ s → us ≡ w.units → n ≡ bodies_of_units us → rs ≡ w.refinements
    → Is row (judged_all k (all_of ((es ++ level_units s 0 us) ++ l.refinements z n rs))) → Is row (judged_all k (all_of (es ++ l.level_parts s w)))
level_goes k row s z w es us n rs ez eu en er h =
    subst (λ (ps : List Phrase). Is row (judged_all k (all_of ps)))
    (append_assoc es (level_units s 0 us) (l.refinements z n rs)
    ∙ ap (λ (y : Scope). es ++ (level_units s 0 us ++ l.refinements y n rs)) ez
    ∙ ap (λ (m : ℕ). es ++ (level_units s 0 us ++ l.refinements s m rs)) en
    ∙ ap (λ (vs : List LevelUnit). es ++ (level_units s 0 vs ++ l.refinements s (bodies_of_units vs) rs)) eu
    ∙ ap (λ (qs : List Refinement). es ++ (level_units s 0 w.units ++ l.refinements s (bodies_of_units w.units) qs)) er) h

pub formals_go : (k : Known) (row next : Result (List Meant) Trouble) (s : Scope) (fs : List Formal) (i : ℕ) (f : Formal) (whole : List Phrase) → i < length fs
    → f ≡ get_or fs i f →
    Grown k row (l.declare_parameters s (drop i fs)) whole
    → ((qs : List Phrase) → Is row (judged_all k (all_of qs)) → Is next (judged_all k (all_of (qs ++ map (l.declares s) f.names))))
    → Grown k next (l.declare_parameters s (drop (i + 1) fs)) whole
formals_go k row next s fs i f whole lt e g h =
    let index : suc i ≡ i + 1 = omega arith in
    let here = left_at (l.declare_parameters s) k row fs i f whole lt e g in
    subst (λ (j : ℕ). Grown k next (l.declare_parameters s (drop j fs)) whole) index
    (grows_all k row next (map (l.declares s) f.names) (l.declare_parameters s (drop (suc i) fs)) whole here (h here.done here.means))

-- ---- PROCs and OPs

-- the body of a PROC or OP, in its scope
abbrev pub body_in : Scope → Option TypePhrase → List Formal → Body → Phrase
body_in s r fs b = around 0 (form.body (frame s.types fs b) (result s.types r)) (shape.units (delivered (result s.types r)) (map (shape.unit s) b.units))

regroup : (ps qs : List Phrase) (p q : Phrase) (rs : List Phrase) → (ps ++ p ∷ []) ++ (qs ++ q ∷ rs) ≡ (ps ++ p ∷ qs) ++ q ∷ rs
regroup ps qs p q rs = append_assoc ps (p ∷ []) (qs ++ q ∷ rs) ∙ sym (append_assoc ps (p ∷ qs) (q ∷ rs))

-- what stands in its scope, behind phrases
pub inside_goes : (k : Known) (row : Result (List Meant) Trouble) (ps : List Phrase) (s : Scope) (n m : ℕ) (r : Option TypePhrase) (fs : List Formal) (b : Body)
    (rs : List Refinement) → m ≡ n + 1 → rs ≡ b.refinements →
    Is row (judged_all k (all_of (((ps ++ l.declare_parameters s fs) ++ body_in s r fs b ∷ []) ++ l.refinements s m rs)))
    → Is row (judged_all k (all_of (ps ++ l.inside s n r fs b)))
inside_goes k row ps s n m r fs b rs em er h =
    let qs = l.declare_parameters s fs in
    let q = body_in s r fs b in
    let number : m ≡ suc n = omega (arith, em) in
    let left : l.refinements s m rs ≡ l.refinements s (suc n) b.refinements =
    ap (λ (j : ℕ). l.refinements s j rs) number ∙ ap (λ (vs : List Refinement). l.refinements s (suc n) vs) er in
    subst (λ (all : List Phrase). Is row (judged_all k (all_of all)))
    (ap (λ (vs : List Phrase). ((ps ++ qs) ++ q ∷ []) ++ vs) left
    ∙ append_assoc (ps ++ qs) (q ∷ []) (l.refinements s (suc n) b.refinements) ∙ append_assoc ps qs (q ∷ l.refinements s (suc n) b.refinements)) h

pub body_is : (k : Known) (s : Scope) (o o' : Owner) (r r' : Option ElanType) (d : Delivery) (us us' : List Statement) (m : Meant) (out : Result Meant Trouble)
    → us' ≡ us → d ≡ delivered r → judged k (shape.units d (map (shape.unit s) us')) ≡ gives m →
    o' ≡ o → r' ≡ r → Is out (gives (u.body_with o' (u.content_as r' m)))
    → Is out (judged k (around 0 (form.body o r) (shape.units (delivered r) (map (shape.unit s) us))))
body_is k s o o' r r' d us us' m out eu ed e eo er h =
    let here : judged k (shape.units (delivered r) (map (shape.unit s) us)) ≡ gives m =
    subst (λ (vs : List Statement). judged k (shape.units (delivered r) (map (shape.unit s) vs)) ≡ gives m) eu
    (subst (λ (c : Delivery). judged k (shape.units c (map (shape.unit s) us')) ≡ gives m) ed e) in
    one_is k 0 (form.body o r) (shape.units (delivered r) (map (shape.unit s) us)) out m here
    (subst (λ (x : Option ElanType). Is out (gives (u.body_with o (u.content_as x m)))) er
    (subst (λ (x : Owner). Is out (gives (u.body_with x (u.content_as r' m)))) eo h))

pub heading_is : (k : Known) (s : Scope) (at : ℕ) (sort : Sort) (x : List ℕ) (ps ps' : List Parameter) (r r' : Option ElanType) (b b' : Bool)
    (out : Result Meant Trouble) → ps' ≡ ps → r' ≡ r → b' ≡ b
    → Is out (calls.heading_ruled at ps' r' b' (first_heading (is_alike sort x (types_of ps')) s.headings))
    → Is out (judged k (leaf at (form.heading s sort x ps r b)))
heading_is k s at sort x ps ps' r r' b b' out ep er eb h =
    subst (λ (qs : List Parameter). Is out (calls.heading_ruled at qs r b (first_heading (is_alike sort x (types_of qs)) s.headings))) ep
    (subst (λ (o : Option ElanType). Is out (calls.heading_ruled at ps' o b (first_heading (is_alike sort x (types_of ps')) s.headings))) er
    (subst (λ (c : Bool). Is out (calls.heading_ruled at ps' r' c (first_heading (is_alike sort x (types_of ps')) s.headings))) eb h))

pub procedure_at : (k : Known) (s : Scope) (n : ℕ) (name : Name) (x : List ℕ) (r : Option TypePhrase) (fs fs' : List Formal) (b : Body)
    (out : Result Meant Trouble) → x ≡ name.text → fs' ≡ fs →
    Is out (judged k (l.routine s n name.at x r fs' b Procedure (l.procedure_name s name fs')))
    → Is out (judged k (l.routine s n name.at name.text r fs b Procedure (l.procedure_name s name fs)))
procedure_at k s n name x r fs fs' b out ex ef h =
    subst (λ (gs : List Formal). Is out (judged k (l.routine s n name.at name.text r gs b Procedure (l.procedure_name s name gs)))) ef
    (subst (λ (y : List ℕ). Is out (judged k (l.routine s n name.at y r fs' b Procedure (l.procedure_name s name fs')))) ex h)

pub operator_at : (k : Known) (s : Scope) (n at : ℕ) (x x' : List ℕ) (r : Option TypePhrase) (fs fs' : List Formal) (b : Body) (sort : Sort)
    (out : Result Meant Trouble) → x' ≡ x → fs' ≡ fs →
    Is out (judged k (l.routine s n at x' r fs' b sort [])) → Is out (judged k (l.routine s n at x r fs b sort []))
operator_at k s n at x x' r fs fs' b sort out ex ef h =
    subst (λ (gs : List Formal). Is out (judged k (l.routine s n at x r gs b sort []))) ef
    (subst (λ (y : List ℕ). Is out (judged k (l.routine s n at y r fs' b sort []))) ex h)

module _ (k : Known) (row : Result (List Meant) Trouble) (s : Scope) (n at : ℕ) (x : List ℕ) (r : Option TypePhrase) (fs : List Formal) (b : Body) (sort : Sort)
    (ps : List Phrase) where
  abbrev pub headed : Phrase
  headed = form.leaf at (form.heading s sort x (parameters s.types fs) (result s.types r) (l.is_missing (result s.types r) (l.body_units s n at x r fs b)))

  pub routine_row : (z : Scope) → z ≡ routine_scope s (body_within s.types n fs b) → Is row (judged_all k (all_of ((ps ++ headed ∷ []) ++ l.inside z n r fs b))) →
      Is row (judged_all k (all_of (l.heading_phrases s n at x r fs b sort ps ++ l.body_phrases s n at x r fs b)))
  routine_row z e h =
      let inner = routine_scope s (body_within s.types n fs b) in
      let here : Is row (judged_all k (all_of ((ps ++ headed ∷ []) ++ l.inside inner n r fs b))) =
      subst (λ (y : Scope). Is row (judged_all k (all_of ((ps ++ headed ∷ []) ++ l.inside y n r fs b)))) e h in
      subst (λ (qs : List Phrase). Is row (judged_all k (all_of qs)))
      (regroup ps (l.declare_parameters inner fs) headed (l.own_body s n at x r fs b) (l.refinements inner (suc n) b.refinements)) here
