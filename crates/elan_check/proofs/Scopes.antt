-- What packets show, part by part.
use Rattle.std.proofs.Common.{◌≡◌, ℕ, List, [], map, sym, ap, ◌∙◌}
use Rattle.cell_kinds.specs.declared.packet.Packet.{Packet}
use Rattle.elan_types.specs.declared.core_phrase.Body.{Body}
use Rattle.elan_tree.specs.declared.tree.Export.{Export}
use Rattle.elan_tree.specs.declared.tree.Level.{Level}
use Rattle.elan_tree.specs.declared.tree.Tree.{Tree}
use Rattle.elan_names.specs.declared.entry.Entry.{Entry}
use Rattle.elan_names.specs.declared.heading.Heading.{Heading}
use Rattle.elan_names.specs.declared.interface.Interface.{Interface}
use Rattle.elan_names.specs.declared.interface.Inserted.{Inserted}
use Rattle.elan_names.specs.declared.type_name.TypeName.{TypeName}
use Rattle.elan_scope.specs.declared.env.Env.{Env}
use Rattle.elan_scope.specs.Shown.{shown_types}
use Rattle.type_names.specs.Types.{names_of, level_types, level_definitions}
use Rattle.type_names.specs.Bodies.{names_in, headings_in}
use Rattle.elan_judge.specs.Level.{level_in, exports_in, export_name}
use Rattle.elan_check.specs.walks.Shown.{shown_in}
use Rattle.elan_check.specs.Packets.{nothing, interface}

pub shown_is : (first : ℕ) (us : List TypeName) (es : List Export) (w : Level) (xs : List (List ℕ)) (ns : List Entry) (hs : List Heading)
    (ts : List TypeName) → xs ≡ map export_name es → ns ≡ names_in (level_types first us w) w → hs ≡ headings_in (level_types first us w) w
    → ts ≡ names_of first us (level_definitions w) → record { exports = xs; names = ns; headings = hs; types = ts } ≡ shown_in first us es w
shown_is first us es w xs ns hs ts ex en eh et =
    let whole : List (List ℕ) → List Entry → List Heading → List TypeName → Interface =
    λ x a b c. record { exports = x; names = a; headings = b; types = c } in
    let seen : List TypeName = level_types first us w in
    ap (λ x. whole x ns hs ts) ex ∙ ap (λ a. whole (map export_name es) a hs ts) en
    ∙ ap (λ b. whole (map export_name es) (names_in seen w) b ts) eh
    ∙ ap (λ c. whole (map export_name es) (names_in seen w) (headings_in seen w) c) et

pub interface_is : (env : Env) (t : Tree) (w : Level) (es : List Export) (shown : List TypeName) → w ≡ level_in t → es ≡ exports_in t
    → shown ≡ shown_types env → shown_in env.types shown es w ≡ interface env t
interface_is env t w es shown ew ee esh =
    ap (λ (us : List TypeName). shown_in env.types us es w) esh
    ∙ ap (λ (ys : List Export). shown_in env.types (shown_types env) ys w) ee
    ∙ ap (λ (v : Level). shown_in env.types (shown_types env) (exports_in t) v) ew

pub nothing_is : (e : Env) → e.inserted ≡ [] → e.packets ≡ [] → e.bodies ≡ [] → e.types ≡ 0 → nothing ≡ e
nothing_is e i p b t =
    let whole : List Inserted → List Packet → List Body → ℕ → Env = λ x y z n. record { inserted = x; packets = y; bodies = z; types = n } in
    ap (λ x. whole x [] [] 0) (sym i) ∙ ap (λ y. whole e.inserted y [] 0) (sym p) ∙ ap (λ z. whole e.inserted e.packets z 0) (sym b)
    ∙ ap (λ n. whole e.inserted e.packets e.bodies n) (sym t)
