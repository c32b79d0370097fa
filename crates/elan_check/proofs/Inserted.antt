-- Packets that are texts with a meaning are sound.
use Rattle.std.proofs.Common.{◌≡◌, ℕ, Bool, true, false, List, [], ◌∷◌, ◌++◌, length, Option, Some, None, if◌then◌else◌, refl, sym, ap, subst, ◌∙◌, ◌-◌}
use Rattle.std.specs.Prelude.{filter, option_map}
use Rattle.std.specs.Option.{option_or}
use Rattle.std.specs.Str.{bytes_eq}
use Rattle.std.proofs.lemmas.List.{append-nil}
use Rattle.std.proofs.lemmas.Slice.Eq.{bytes_eq-Decides}
use Rattle.eu_base.specs.declared.value.Kind.{Kind}
use Rattle.cell_kinds.specs.declared.packet.Packet.{Packet}
use Rattle.cell_kinds.specs.Kinds.{packet_kinds}
use Rattle.elan_types.specs.declared.core_phrase.Core.{Core}
use Rattle.elan_types.specs.declared.elan_type.ElanType.{ElanType}
use Rattle.elan_types.specs.Types.{is_open}
use Rattle.elan_types.specs.Typing.{Outside, IsWellTyped, outside_of, is_content_typed}
use Rattle.elan_tree.specs.declared.tree.Tree.{Tree}
use Rattle.elan_tree.specs.declared.tree.Tree.TheVariants.{Packet as packet}
use Rattle.elan_names.specs.declared.interface.Interface.{Interface}
use Rattle.elan_names.specs.declared.type_name.TypeName.{TypeName}
use Rattle.elan_names.specs.declared.type_name.Named.{Named}
use Rattle.elan_names.specs.declared.type_name.Named.TheVariants as named
use Rattle.elan_names.specs.Interfaces.{exports}
use Rattle.elan_names.specs.Types.{first_type}
use Rattle.elan_scope.specs.declared.env.Env.{Env}
use Rattle.elan_scope.specs.declared.scope.Home.TheVariants.{Packet as of_packet}
use Rattle.elan_scope.specs.Shown.{shows, shown_types}
use Rattle.type_names.specs.Types.{look, level_definitions}
use Rattle.type_names.proofs.Looked.{look_both}
use Rattle.type_names.proofs.Sized.{IsSized, none_sized, names_sized, seen_sized}
use Rattle.type_names.specs.Bodies.{seen_types}
use Rattle.elan_check.specs.Below.elan_rules.proofs.TypedPerformed.{Fitting}
use Rattle.elan_check.specs.Below.elan_rules.proofs.TypedCalls.{HeldThere, PacketFits}
use Rattle.elan_check.specs.Packets.{AreCompiled, none, behind, IsPacket, after, interface}
use Rattle.elan_check.proofs.Clean as clean
use Rattle.elan_check.proofs.HeldTypes.{level_sized}
use Rattle.elan_check.proofs.Sound.{bare, IsSound, all_fit, more_fitting, outside_in, level_held}
use Rattle.elan_check.proofs.WellTyped.{level_stand, known_phrases, text_fits, well_typed}

-- ---- names of types that are shown

-- each of these names that denotes a type denotes one that holds this
abbrev Hold : (ElanType → Type 0) → List TypeName → Type 0
Hold P ts = (x : List ℕ) (t : ElanType) → look ts x ≡ Some (named.Of t) → P t

hold_both : (P : ElanType → Type 0) (ts us : List TypeName) → Hold P ts → Hold P us → Hold P (ts ++ us)
hold_both P ts us h k x t e = by_own (look ts x) refl (sym (look_both x ts us) ∙ e)
  where
    by_own : (o : Option Named) → look ts x ≡ o → option_or o (look us x) ≡ Some (named.Of t) → P t
    by_own None i j = k x t j
    by_own (Some m) i j = h x t (i ∙ j)

-- All names that are written alike are shown, or none.
shown_first : (p : Interface) (x : List ℕ) (ts : List TypeName)
    → first_type x (filter (λ t. exports p t.name) ts) ≡ (if exports p x then first_type x ts else None)
shown_first p x [] = by_test (exports p x)
  where
    nothing : Option TypeName
    nothing = None

    by_test : (b : Bool) → nothing ≡ (if b then nothing else nothing)
    by_test true = refl
    by_test false = refl
shown_first p x (t ∷ ts) = by_name (shown_first p x ts) (bytes_eq t.name x) refl
  where
    kept : Bool → List TypeName
    kept b = if b then t ∷ filter (λ u. exports p u.name) ts else filter (λ u. exports p u.name) ts

    Rest : Type 0
    Rest = first_type x (filter (λ u. exports p u.name) ts) ≡ (if exports p x then first_type x ts else None)

    other : Rest → bytes_eq t.name x ≡ false → (b : Bool) → first_type x (kept b) ≡ (if exports p x then first_type x ts else None)
    other r e true = ap (λ (c : Bool). if c then Some t else first_type x (filter (λ u. exports p u.name) ts)) e ∙ r
    other r e false = r

    same : Rest → bytes_eq t.name x ≡ true → (b : Bool) → exports p x ≡ b → first_type x (kept b) ≡ (if b then Some t else None)
    same r e true f = ap (λ (c : Bool). if c then Some t else first_type x (filter (λ u. exports p u.name) ts)) e
    same r e false f = r ∙ ap (λ (c : Bool). if c then first_type x ts else None) f

    by_name : Rest → (c : Bool) → bytes_eq t.name x ≡ c
        → first_type x (kept (exports p t.name)) ≡ (if exports p x then (if bytes_eq t.name x then Some t else first_type x ts) else None)
    by_name r true e =
        let alike : t.name ≡ x = (bytes_eq-Decides t.name x).0 e in
        ap (λ (y : List ℕ). first_type x (kept (exports p y))) alike ∙ same r e (exports p x) refl
        ∙ ap (λ (c : Bool). if exports p x then (if c then Some t else first_type x ts) else None) (sym e)
    by_name r false e =
        other r e (exports p t.name) ∙ ap (λ (c : Bool). if exports p x then (if c then Some t else first_type x ts) else None) (sym e)

hold_shown : (P : ElanType → Type 0) (p : Interface) → Hold P p.types → Hold P (shows p)
hold_shown P p h x t e =
    by_test (exports p x) refl (ap (option_map (λ (u : TypeName). u.of)) (sym (shown_first p x p.types)) ∙ e)
  where
    by_test : (b : Bool) → exports p x ≡ b → option_map (λ (u : TypeName). u.of) (if b then first_type x p.types else None) ≡ Some (named.Of t) → P t
    by_test true f g = h x t g
    by_test false f g = absurd cc

-- ---- one more packet

kinds_behind : (ps : List Packet) (p : Packet) → packet_kinds (ps ++ p ∷ []) ≡ packet_kinds ps ++ p.variables
kinds_behind [] p = append-nil p.variables
kinds_behind (q ∷ ps) p =
    ap (λ (ks : List Kind). q.variables ++ ks) (kinds_behind ps p) ∙ sym (assoc q.variables (packet_kinds ps) p.variables)
  where
    assoc : (xs ys zs : List Kind) → xs ++ ys ++ zs ≡ xs ++ (ys ++ zs)
    assoc [] ys zs = refl
    assoc (x ∷ xs) ys zs = ap (λ (ks : List Kind). x ∷ ks) (assoc xs ys zs)

module _ (env : Env) (sound : IsSound env) (i : Interface) (c : Core) (n : ℕ) (p : IsPacket env i c) where
  abbrev t : Tree
  t = packet p.at p.name p.exports p.level

  abbrev next : Env
  next = after env i c n

  typed_core : IsWellTyped c
  typed_core = well_typed env sound t c p.means

  cells : packet_kinds next.packets ≡ packet_kinds env.packets ++ c.inserted
  cells = kinds_behind env.packets (record { number = n; variables = c.inserted; bodies = length c.bodies - length env.bodies })

  outside_is : (bare next).outside ≡ outside_of c
  outside_is =
      ap (λ (ks : List Kind). record { packets = ks; variables = [] })
      (cells ∙ ap (λ (ps : List Packet). packet_kinds ps ++ c.inserted) (sym p.means.packets))
      ∙ ap (λ (vs : List Kind). record { packets = packet_kinds c.packets ++ c.inserted; variables = vs }) (sym p.means.variables)

  in_text : (bare next).outside ≡ outside_in env t
  in_text =
      ap (λ (ks : List Kind). record { packets = ks; variables = [] })
      (cells ∙ ap (λ (ks : List Kind). packet_kinds env.packets ++ ks) p.means.inserted)

  names_first : HeldThere (bare next) (of_packet (length (packet_kinds env.packets))) (interface env t).names
  names_first = level_held env t (bare next) in_text

  fitting : Fitting (bare next) (length env.bodies) (length env.bodies) (interface env t).headings
  fitting =
      more_fitting (level_stand env sound t c.units p.means.own) (bare next)
      ([], p.means.bodies ∙ sym (append-nil (env.bodies ++ p.means.own))) (length env.bodies) (length env.bodies) (interface env t).headings
      (text_fits env sound t c.units p.means.own (known_phrases env t c p.means))

  abbrev Shows : Interface → Type 0
  Shows j = PacketFits (bare next) (record { interface = j; bodies_before = length env.bodies; cells_before = length (packet_kinds env.packets) })

  packet_fits : Shows i
  packet_fits =
      subst Shows (sym p.shows) (record {
        held = names_first;
        sized = level_sized (seen_types env p.level) (seen_sized env.types (shown_types env) (level_definitions p.level) sound.sized) p.level;
        bodies = fitting;
      })

  pub next_sound : IsSound next
  next_sound = record {
    typed = λ k b e. subst (λ (o : Outside). is_content_typed o c.bodies (Some k) b.content ≡ true) (sym outside_is) (typed_core.bodies k b e);
    scopes = typed_core.scopes;
    fit = (packet_fits, all_fit (bare env) (bare next) env.inserted (c.inserted, cells) (p.means.own, p.means.bodies) sound.fit);
    closed = (
      subst (λ (j : Interface). clean.Closed j.names) (sym p.shows) (clean.level_closed env.types (shown_types env) sound.means p.level p.means.types),
      sound.closed,
    );
    means =
        hold_both (λ u. is_open u ≡ false) (shows i) (shown_types env)
        (hold_shown (λ u. is_open u ≡ false) i
        (subst (λ (j : Interface). Hold (λ u. is_open u ≡ false) j.types) (sym p.shows)
        (clean.own_mean env.types (shown_types env) sound.means p.level p.means.types))) sound.means;
    sized =
        hold_both IsSized (shows i) (shown_types env)
        (hold_shown IsSized i
        (subst (λ (j : Interface). Hold IsSized j.types) (sym p.shows)
        (names_sized env.types (shown_types env) (level_definitions p.level) sound.sized))) sound.sized;
  }

-- ---- all packets

pub is_sound : (env : Env) → AreCompiled env → IsSound env
is_sound env none = record {
  typed = λ k b e. absurd cc;
  scopes = λ k b e. absurd cc;
  fit = tt;
  closed = tt;
  means = clean.mean_none;
  sized = none_sized;
}
is_sound env (behind e i c n h p) = next_sound e (is_sound e h) i c n p
