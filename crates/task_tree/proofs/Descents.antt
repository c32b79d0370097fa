-- What is in the family of a task, and that brothers share no descendant.
use Rattle.std.proofs.Common.{All, get_or, ◌≡◌, ℕ, zero, suc, ◌<◌, ◌≤◌, true, List, [], ◌∷◌, sym, ap, ◌∙◌, subst, ◌⊎◌, inl, inr, ⊎_elim, arith}
use Rattle.std.specs.List.{flat_map}
use Rattle.std.proofs.lemmas.Bool.{false≢true}
use Rattle.task_numbers.specs.declared.limits.TheConstants.{TASKS}
use Rattle.task_numbers.specs.declared.number.TaskNo.{TaskNo}
use Rattle.task_tree.specs.Tree.{Tree, lives, sons, father}
use Rattle.task_tree.specs.Families.{descent, family}
use Rattle.task_tree.proofs.Members.{has, Apart, in_one, in_first, in_all, is_last, is_one, has_at, part}
use Rattle.task_tree.proofs.Sons.{IsOrdered, IsSon, sons_live, sons_are}

-- the families of the sons, where the tree has at most n levels below the task
abbrev pub below : ℕ → TaskNo → Tree → List TaskNo
below n t s = flat_map (λ u. descent n u s) (sons t s)

pub in_own : (n : ℕ) (t : TaskNo) (s : Tree) → 0 < n → has t (descent n t s) ≡ true
in_own zero t s some = absurd (omega (arith, some))
in_own (suc n) t s some = is_last t (below n t s)

pub member_lives : (n : ℕ) (t w : TaskNo) (s : Tree) → lives t s ≡ true → has w (descent n t s) ≡ true → lives w s ≡ true
member_lives zero t w s live e = absurd (false≢true e)
member_lives (suc n) t w s live e =
    ⊎_elim
    (λ deep. let p = part (λ u. descent n u s) w (sons t s) deep in member_lives n p.of w s (sons_live t p.of s.tasks p.one) p.inside)
    (λ end. subst (λ v. lives v s ≡ true) (is_one w t end) live)
    (in_one w (below n t s) (t ∷ []) e)

pub family_lives : (s : Tree) (t : TaskNo) → lives t s ≡ true → All (λ u. lives u s ≡ true) (family t s)
family_lives s t live k d lt = member_lives TASKS t (get_or (family t s) k d) s live (has_at (family t s) k d lt)

module _ (s : Tree) (ordered : IsOrdered s.tasks) where
  son_of : (t u : TaskNo) → has u (sons t s) ≡ true → IsSon s.tasks t u
  son_of t u one = sons_are t u s.tasks ordered one

  -- numbers in a family begin with the task's own
  pub at_least : (n : ℕ) (t w : TaskNo) → has w (descent n t s) ≡ true → t.0 ≤ w.0
  at_least zero t w e = absurd (false≢true e)
  at_least (suc n) t w e =
      ⊎_elim
      (λ deep. let p = part (λ u. descent n u s) w (sons t s) deep in
      let more = at_least n p.of w p.inside in let younger = (son_of t p.of p.one).younger in omega (arith, more, younger))
      (λ end. let same = ap (λ (v : TaskNo). v.0) (is_one w t end) in omega (arith, same))
      (in_one w (below n t s) (t ∷ []) e)

  pub above : (n : ℕ) (t w : TaskNo) → has w (below n t s) ≡ true → t.0 < w.0
  above n t w e =
      let p = part (λ u. descent n u s) w (sons t s) e in
      let more = at_least n p.of w p.inside in let younger = (son_of t p.of p.one).younger in omega (arith, more, younger)

  -- the father of w is in the family too, and has a lower number
  record HasFatherIn (n : ℕ) (t w : TaskNo) : Type 0 where
    inside : has (father w s) (descent n t s) ≡ true
    older : (father w s).0 < w.0

  son_in : (n : ℕ) (t w : TaskNo) → IsSon s.tasks t w → HasFatherIn (suc n) t w
  son_in n t w son =
      let is = ap (λ (v : TaskNo). v.0) son.father in record {
        inside = ap (λ v. has v (descent (suc n) t s)) son.father ∙ is_last t (below n t s);
        older = let younger = son.younger in omega (arith, is, younger);
      }

  father_in : (n : ℕ) (t w : TaskNo) → has w (descent n t s) ≡ true → (t ≡ w) ⊎ HasFatherIn n t w
  father_in zero t w e = absurd (false≢true e)
  father_in (suc n) t w e =
      ⊎_elim
      (λ deep. let p = part (λ u. descent n u s) w (sons t s) deep in
      inr (⊎_elim
      (λ same. subst (HasFatherIn (suc n) t) same (son_in n t p.of (son_of t p.of p.one)))
      (λ h. record {
        inside = in_first (father w s) (below n t s) (t ∷ []) (in_all (λ u. descent n u s) (father w s) p.of (sons t s) p.one h.inside);
        older = h.older;
      })
      (father_in n p.of w p.inside)))
      (λ end. inl (is_one w t end))
      (in_one w (below n t s) (t ∷ []) e)

  -- u and v are two sons of t
  record AreBrothers (t u v : TaskNo) : Type 0 where
    first : IsSon s.tasks t u
    second : IsSon s.tasks t v
    other : u.0 ≡ v.0 → ⊥

  -- a son of t is in no other son's family, since t is in none
  not_in : (n : ℕ) (t u w : TaskNo) → IsSon s.tasks t u → father w s ≡ t → HasFatherIn n u w → ⊥
  not_in n t u w son is h =
      let same = ap (λ (v : TaskNo). v.0) is in let more = at_least n u (father w s) h.inside in let younger = son.younger in omega (arith, same, more, younger)

  -- no two brothers have a descendant in common: its father would be one too
  meets : (n : ℕ) (t u v w : TaskNo) → AreBrothers t u v → (HasFatherIn n u w → HasFatherIn n v w → ⊥) → has w (descent n u s) ≡ true → has w (descent n v s) ≡ true → ⊥
  meets n t u v w brothers farther in_u in_v =
      ⊎_elim
      (λ is_u. ⊎_elim
      (λ is_v. brothers.other (ap (λ (x : TaskNo). x.0) (is_u ∙ sym is_v)))
      (λ h. not_in n t v w brothers.second (subst (λ x. father x s ≡ t) is_u brothers.first.father) h)
      (father_in n v w in_v))
      (λ h. ⊎_elim
      (λ is_v. not_in n t u w brothers.first (subst (λ x. father x s ≡ t) is_v brothers.second.father) h)
      (λ k. farther h k)
      (father_in n v w in_v))
      (father_in n u w in_u)

  no_meeting : (k n : ℕ) (t u v w : TaskNo) → w.0 ≤ k → AreBrothers t u v → has w (descent n u s) ≡ true → has w (descent n v s) ≡ true → ⊥
  no_meeting zero n t u v w le brothers = meets n t u v w brothers (λ h _. let older = h.older in omega (arith, le, older))
  no_meeting (suc k) n t u v w le brothers =
      meets n t u v w brothers (λ h i. let older = h.older in no_meeting k n t u v (father w s) (omega (arith, le, older)) brothers h.inside i.inside)

  pub brothers_apart : (n : ℕ) (t u v : TaskNo) → has u (sons t s) ≡ true → has v (sons t s) ≡ true → (u.0 ≡ v.0 → ⊥) → Apart (descent n u s) (descent n v s)
  brothers_apart n t u v one two other w =
      no_meeting w.0 n t u v w (omega arith) (record { first = son_of t u one; second = son_of t v two; other = other })
