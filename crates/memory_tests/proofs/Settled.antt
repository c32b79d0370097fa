-- A content page that settles.
use Rattle.std.proofs.Common.{◌≡◌, ◌≢◌, ◌≤◌, ℕ, false, None, length, sym, ◌∙◌, ap, arith}
use Rattle.std.proofs.Math.Logic.{∥∥₁_map}
use Rattle.std.proofs.lemmas.Bool.{cases_eq}
use Rattle.std.proofs.lemmas.Option.{none-some}
use Rattle.std.proofs.Common.{inl, inr, [], if◌then◌else◌, Bool}
use Rattle.page_pool.specs.Pool.{Pages, Shown, shown_of, seen, home_of, IsPool, Settles}
use Rattle.page_table.specs.Entries.{Names, book_of, entries_in, entries_of}
use Rattle.page_table.specs.Sharing.{Agree, Agrees, names}
use Rattle.page_table.proofs.Counting.{step}

-- a page that is no root or table page has no entries
no_entries : (shown : Shown) → shown.pinned ≡ false → entries_in shown ≡ []
no_entries shown flat = ap (λ (b : Bool). if b then entries_of (seen None shown) else []) flat

pub settled_agree : (old new : Pages) (p block : ℕ) (roots : Names) → Settles old new p block → IsPool new → (shown_of old p).pinned ≡ false
    → ∥ Agree old roots ∥₁ → ∥ Agree new roots ∥₁
settled_agree old new p block roots s sound flat some = ∥∥₁_map some (λ g.
    let a : Agrees (book_of old) (names 2 roots) = g.agrees.shares in
    let bottom : a.height p ≡ 0 = elim (cases_eq (a.height p) 0) [
      | inl is ↦ is
      | inr up ↦ absurd (omega (arith, a.full p (omega (arith, up)), ap length (no_entries (shown_of old p) flat)))
    ] in
    let other : (q : ℕ) → 1 ≤ a.height q → q ≢ p = λ q up is. absurd (omega (arith, up, bottom, ap a.height is)) in
    record {
      few = g.few;
      agrees = record {
        sound = sound;
        shares = step (book_of old) (book_of new) (names 2 roots) (names 2 roots) a
            (λ x. omega (arith, s.counts x))
            (λ q up. ap entries_in (s.others q (other q up)).shows)
            (λ q up. omega (arith, a.live q up, s.counts q))
            a.held
            (λ q x up among changed. elim (cases_eq x p) [
              | inl is ↦ absurd (none-some block (sym changed ∙ ap (home_of new) is ∙ s.home))
              | inr ne ↦ (s.others q (other q up)).home ∙ a.marks q x up among (sym (s.others x ne).home ∙ changed)
            ]);
      };
    })
