-- Names are added one list behind another, where the same types can be seen.
use Rattle.std.proofs.Common.{◌≡◌, false, List, [], ◌∷◌, ◌++◌, Result, Ok, Err, ap, ◌∙◌, append_assoc}
use Rattle.std.specs.Prelude.{IfOk}
use Rattle.elan_tree.specs.declared.tree.Refinement.{Refinement}
use Rattle.elan_tree.specs.declared.written_type.Formal.{Formal}
use Rattle.elan_names.specs.declared.entry.Denotes.TheVariants as denotes
use Rattle.elan_names.specs.declared.entry.Entry.{Entry}
use Rattle.elan_names.specs.declared.type_name.TypeName.{TypeName}
use Rattle.type_names.specs.declared.declare.Names.{Names}
use Rattle.type_names.specs.Declarations.{entry, in_units}
use Rattle.type_names.specs.Bodies.{parameter, parameter_names, named_as, refinement_names}
use Rattle.type_names.specs.walks.LevelSeen.{visible, with_entries, Adds}

seen_as : (old new : Names) → new.here.now ≡ old.here.now → new.around.now ≡ old.around.now → visible new ≡ visible old
seen_as old new h a = ap (λ (ts : List TypeName). ts ++ new.around.now) h ∙ ap (λ (ts : List TypeName). old.here.now ++ ts) a

-- one list behind another
pub two_lists : (es gs : List Entry) (s t u : Names) → Adds es s t → Adds gs t u → Adds (es ++ gs) s u
two_lists es gs s t u x y w =
    let b = y w in
    let a = x b.0 in
    (a.0, b.1 ∙ ap (λ (l : List Entry). l ++ gs) a.1 ∙ append_assoc s.entries es gs, b.2 ∙ a.2, b.3 ∙ a.3)

-- the types that can be seen behind a list
pub seen_behind : (es : List Entry) (s t : Names) → Adds es s t → t.wanted ≡ false → visible t ≡ visible s
seen_behind es s t x w = let a = x w in seen_as s t a.2 a.3

-- the second list is as the first leaves it
pub then_as : (es : List Entry) (gs : List TypeName → List Entry) (s t u : Names) → Adds es s t → Adds (gs (visible t)) t u → Adds (es ++ gs (visible s)) s u
then_as es gs s t u x y w =
    let b = y w in
    let a = x b.0 in (
      a.0,
      b.1 ∙ ap (λ (ts : List TypeName). t.entries ++ gs ts) (seen_behind es s t x b.0) ∙ ap (λ (l : List Entry). l ++ gs (visible s)) a.1
          ∙ append_assoc s.entries es (gs (visible s)),
      b.2 ∙ a.2,
      b.3 ∙ a.3,
    )

-- what was added to nothing
pub met_is : {E : Type 0} (es : List Entry) (s t : Names) (r : Result (List Entry) E) → s.entries ≡ [] → Adds es s t
    → IfOk r (λ made. (t.wanted ≡ false) × (made ≡ t.entries)) → IfOk r (λ made. made ≡ es)
met_is es s t (Ok made) n x h = h.1 ∙ (x h.0).1 ∙ ap (λ (l : List Entry). l ++ es) n
met_is es s t (Err e) n x h = tt

-- ---- refinements and parameters

pub as_added : (es : List Entry) (s t : Names) → (t.wanted ≡ false → (s.wanted ≡ false) × (t ≡ with_entries s es)) → Adds es s t
as_added es s t h w =
    let a = h w in
    (a.0, ap (λ (n : Names). n.entries) a.1, ap (λ (n : Names). n.here.now) a.1, ap (λ (n : Names). n.around.now) a.1)

abbrev pub Rest : List Entry → List Entry → Names → Names → Type 0
Rest left all begun now =
    now.wanted ≡ false → (begun.wanted ≡ false) × (now.entries ++ left ≡ begun.entries ++ all) × (now.here.now ≡ begun.here.now) × (now.around.now ≡ begun.around.now)

pub refined_next : (all : List Entry) (begun s t : Names) (r : Refinement) (rest : List Refinement)
    → Rest (refinement_names (visible begun) (r ∷ rest)) all begun s
    → Adds (entry r.name denotes.Refinement ++ in_units (visible s) r.units) s t → Rest (refinement_names (visible begun) rest) all begun t
refined_next all begun s t r rest h x w =
    let a = x w in
    let i = h a.0 in
    let e = entry r.name denotes.Refinement in
    let same = seen_as begun s i.2 i.3 in (
      i.0,
      ap (λ (l : List Entry). l ++ refinement_names (visible begun) rest) (a.1 ∙ ap (λ (ts : List TypeName). s.entries ++ (e ++ in_units ts r.units)) same)
          ∙ append_assoc s.entries (e ++ in_units (visible begun) r.units) (refinement_names (visible begun) rest) ∙ i.1,
      a.2 ∙ i.2,
      a.3 ∙ i.3,
    )

pub given_next : (all : List Entry) (begun s t : Names) (f : Formal) (rest : List Formal) → Rest (parameter_names begun.around.now (f ∷ rest)) all begun s
    → Adds (named_as f.names (denotes.Parameter (parameter s.around.now f))) s t → Rest (parameter_names begun.around.now rest) all begun t
given_next all begun s t f rest h x w =
    let a = x w in
    let i = h a.0 in
    let given = λ (ts : List TypeName). named_as f.names (denotes.Parameter (parameter ts f)) in (
      i.0,
      ap (λ (l : List Entry). l ++ parameter_names begun.around.now rest) (a.1 ∙ ap (λ (ts : List TypeName). s.entries ++ given ts) i.3)
          ∙ append_assoc s.entries (given begun.around.now) (parameter_names begun.around.now rest) ∙ i.1,
      a.2 ∙ i.2,
      a.3 ∙ i.3,
    )
