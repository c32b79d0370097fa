-- Channels come back from their rows.
use Rattle.std.proofs.Common.{◌≡◌, ℕ, ◌+◌, ◌<◌, ◌≤◌, Bool, true, false, List, [], ◌∷◌, ◌⊎◌, inl, inr, length, get_or, map, take, sym, refl, ap, subst, ◌∙◌, arith}
use Rattle.std.specs.List.{list_all}
use Rattle.std.proofs.lemmas.Bool.{eqb-true, cases_eq, cases_lt}
use Rattle.std.proofs.lemmas.List.{get_or-take, get_or_default, get_or_past, length-map, length-take-le}
use Rattle.std.proofs.lemmas.List.Sums.{AllPass-from_list_all, list_all-from_AllPass}
use Rattle.std.proofs.Math.ListN.{get_or-map}
use Rattle.task_numbers.specs.declared.number.TaskNo.{TaskNo}
use Rattle.task_numbers.specs.Numbers.{niltask, is_nil, is_task}
use Rattle.terminals.specs.declared.row.ChannelRow.{ChannelRow}
use Rattle.terminals.specs.Channels.{Channel, unused}
use Rattle.terminals.specs.Couplings.{task_at, IsOneToOne}
use Rattle.terminals.specs.Rows.{channel_of, is_apart, AreApart, HasRoom, AreChannels}

abbrev none : ChannelRow
none = record { task = niltask; last = niltask; queue = [] }

abbrev pub ApartBelow : List ChannelRow → ℕ → Type 0
ApartBelow rows n = (i j : ℕ) (d : ChannelRow) → i < j → j < n → is_apart (get_or rows i d) (get_or rows j d) ≡ true

-- ---- the test of one row behind others

pub apart_before : (rows : List ChannelRow) (k : ℕ) (r : ChannelRow) → AreApart rows → k < length rows → r ≡ get_or rows k r
    → list_all (λ other. is_apart other r) (take k rows) ≡ true
apart_before rows k r apart lt is = list_all-from_AllPass (λ other. is_apart other r) (take k rows)
    (λ i e less. let before : i < k = omega (arith, less, length-take-le k rows (omega (arith, lt))) in
    subst (λ o. is_apart o r ≡ true) (sym (get_or-take k rows i e before ∙ get_or_default rows i e r (omega (arith, before, lt))))
    (subst (λ q. is_apart (get_or rows i r) q ≡ true) (sym is) (apart i k r before lt)))

pub apart_more : (rows : List ChannelRow) (k : ℕ) (r : ChannelRow) → ApartBelow rows k → k < length rows → r ≡ get_or rows k r
    → list_all (λ other. is_apart other r) (take k rows) ≡ true → ApartBelow rows (k + 1)
apart_more rows k r below lt is passed i j d less within = by (cases_lt j k)
  where
    by : (j < k) ⊎ (k ≤ j) → is_apart (get_or rows i d) (get_or rows j d) ≡ true
    by (inl before) = below i j d less before
    by (inr behind) =
        let j_is : j ≡ k = omega (arith, behind, within) in
        let before : i < k = omega (arith, less, j_is) in
        let here : is_apart (get_or (take k rows) i d) r ≡ true =
        AllPass-from_list_all (λ other. is_apart other r) (take k rows) passed i d (omega (arith, before, length-take-le k rows (omega (arith, lt)))) in
        let second : r ≡ get_or rows j d = is ∙ get_or_default rows k r d lt ∙ ap (λ n. get_or rows n d) (sym j_is) in
        subst (λ q. is_apart (get_or rows i d) q ≡ true) second (subst (λ o. is_apart o r ≡ true) (get_or-take k rows i d before) here)

-- ---- rows that are apart are coupled one to one

module _ (rows : List ChannelRow) where
  task_is : (k : ℕ) → task_at k (map channel_of rows) ≡ (get_or rows k none).task
  task_is k = ap (λ (c : Channel). c.task) (get_or-map channel_of rows k none)

  never : AreApart rows → (i j : ℕ) → i < j → is_nil (get_or rows i none).task ≡ false → (get_or rows i none).task ≡ (get_or rows j none).task → ⊥
  never apart i j lt some alike = by (cases_lt j (length rows))
    where
      by : (j < length rows) ⊎ (length rows ≤ j) → ⊥
      by (inl within) =
          let e = apart i j none lt within in
          let numbers = ap (λ (t : TaskNo). t.0) alike in grind (arith, e, some, numbers)
      by (inr past) =
          let numbers = ap (λ (t : TaskNo). t.0) alike in
          let nil = ap (λ (r : ChannelRow). r.task.0) (get_or_past rows j none past) in grind (arith, some, numbers, nil)

  pub one_to_one : AreApart rows → IsOneToOne (map channel_of rows)
  one_to_one apart i j some alike = by (cases_eq i j) (cases_lt i j)
    where
      some_here : is_nil (get_or rows i none).task ≡ false
      some_here = subst (λ t. is_nil t ≡ false) (task_is i) some

      alike_here : (get_or rows i none).task ≡ (get_or rows j none).task
      alike_here = sym (task_is i) ∙ alike ∙ task_is j

      by : (i ≡ j) ⊎ (i ≡ j → ⊥) → (i < j) ⊎ (j ≤ i) → i ≡ j
      by (inl e) order = e
      by (inr other) (inl lt) = absurd (never apart i j lt some_here alike_here)
      by (inr other) (inr le) =
          absurd (never apart j i (omega (arith, le, other)) (subst (λ t. is_nil t ≡ false) alike_here some_here) (sym alike_here))

  pub all_apart : IsOneToOne (map channel_of rows) → AreApart rows
  all_apart one i j d lt within =
      subst (λ o. is_apart o (get_or rows j d) ≡ true) (get_or_default rows i none d (omega (arith, lt, within)))
      (subst (λ q. is_apart (get_or rows i none) q ≡ true) (get_or_default rows j none d within) (by (is_apart (get_or rows i none) (get_or rows j none)) refl))
    where
      by : (b : Bool) → is_apart (get_or rows i none) (get_or rows j none) ≡ b → b ≡ true
      by true e = refl
      by false e =
          let some : is_nil (get_or rows i none).task ≡ false = grind (arith, e) in
          let same : is_task (get_or rows i none).task (get_or rows j none).task ≡ true = grind (arith, e) in
          let alike : (get_or rows i none).task ≡ (get_or rows j none).task = ap (λ n. record { 0 = n }) (eqb-true (get_or rows i none).task.0 (get_or rows j none).task.0 same) in
          let places = one i j (subst (λ t. is_nil t ≡ false) (sym (task_is i)) some) (task_is i ∙ alike ∙ sym (task_is j)) in
          absurd (omega (arith, places, lt))

-- ---- four channels

pub four_of : (cs : List Channel) → length cs ≡ 4 → cs ≡ get_or cs 0 unused ∷ (get_or cs 1 unused ∷ (get_or cs 2 unused ∷ (get_or cs 3 unused ∷ [])))
four_of [] e = absurd (omega (arith, e))
four_of (a ∷ []) e = absurd (omega (arith, e))
four_of (a ∷ (b ∷ [])) e = absurd (omega (arith, e))
four_of (a ∷ (b ∷ (c ∷ []))) e = absurd (omega (arith, e))
four_of (a ∷ (b ∷ (c ∷ (d ∷ [])))) e = refl
four_of (a ∷ (b ∷ (c ∷ (d ∷ (x ∷ xs))))) e = absurd (omega (arith, e))

-- the queue of each row has room
pub row_has_room : (rows : List ChannelRow) (k : ℕ) (r : ChannelRow) → AreChannels (map channel_of rows) → k < length rows → r ≡ get_or rows k r → HasRoom (channel_of r)
row_has_room rows k r are lt is =
    subst HasRoom (get_or-map channel_of rows k r ∙ ap channel_of (sym is)) (are.rooms k (channel_of r) (let long = length-map rows channel_of in omega (arith, long, lt)))
