use Rattle.std.proofs.Common.{◌≡◌, ◌≤◌, ◌+◌, ◌/◌, ◌%◌, ◌∙◌, ℕ, [], ◌∷◌, get_or, List, Option, Some, None, sym, ap, subst, arith}
use Rattle.page_pool.specs.Pool.{Shown, Known, shown_of, seen, read_by, count_of}
use Rattle.page_pool.proofs.Shows.{known_again, homes_adds}
use Rattle.page_table.specs.Entries.{book_of, child, entries_in}
use Rattle.page_table.specs.Frames.{shown, content_at, Frames}
use Rattle.page_table.proofs.Copies.{added_single, added_other, frames_built, pasted_whole}
use Rattle.page_table.proofs.Moving.{moves_on, moves_adds, moves_writes}
use Rattle.data_space.specs.Data.{SpaceData}
use Rattle.memory_tests.specs.Tasks.{zeros, whole}
use Rattle.memory_tests.proofs.opened.open_page.Goals as goal

pub returns-clause-frames : goal.returns-clause-frames
returns-clause-frames c =
    let page = moves_on (moves_adds _ _ _ _ c.in_ok-p.ensures.sound c.in_ok-p.ensures.adds)
    (moves_writes _ _ _ _ c.write_own.ensures.sound c.in_ok-write_own.ensures.writes (added_single _ _ _ _ c.in_ok-p.ensures.adds)) in
    let tables = moves_on (c.in_ok-t.ensures.moves 0 (omega arith) (λ e. omega arith)) (c.in_ok-r.ensures.moves 1 (omega arith) (λ e. omega arith)) in
    let knows : Known zeros c.args.pool.now → Known zeros c.table_page-2.new.pool = λ known.
    known_again zeros _ _ (homes_adds _ _ _ _ c.in_ok-r.ensures.adds) c.in_ok-r.ensures.clean
    (known_again zeros _ _ (homes_adds _ _ _ _ c.in_ok-t.ensures.adds) c.in_ok-t.ensures.clean
    (c.write_own.ensures.known (known_again zeros _ _ (homes_adds _ _ _ _ c.in_ok-p.ensures.adds) c.in_ok-p.ensures.clean known))) in
    subst (λ (d : SpaceData). Frames (whole c.args.pool.now) (whole c.table_page-2.new.pool) [] (d.root ∷ [])) (sym c.of.ensures)
    (frames_built zeros _ _ _ knows (moves_on page tables))

pub returns-clause-shows : goal.returns-clause-shows
returns-clause-shows c = λ known k low.
    let new = c.table_page-2.new.pool in
    let t_not = added_other _ _ _ c.in_ok-t.t _ c.in_ok-r.ensures.adds (omega (arith, added_single _ _ _ _ c.in_ok-t.ensures.adds)) in
    let p_live : 1 ≤ count_of c.write_own.new.self c.in_ok-p.p =
    omega (arith, c.in_ok-write_own.ensures.writes.counts c.in_ok-p.p, added_single _ _ _ _ c.in_ok-p.ensures.adds) in
    let p_not = added_other _ _ _ c.in_ok-p.p _ c.in_ok-t.ensures.adds p_live in
    let p_far = added_other _ _ _ c.in_ok-p.p _ c.in_ok-r.ensures.adds (omega (arith, c.in_ok-t.ensures.adds.counts c.in_ok-p.p, p_live)) in
    let pastes = c.in_ok-write_own.ensures.bytes in
    let made = pastes.same (known_again zeros _ _ (homes_adds _ _ _ _ c.in_ok-p.ensures.adds) c.in_ok-p.ensures.clean known) in
    let bytes : seen zeros (shown_of new c.in_ok-p.p) ≡ c.args.bytes.now =
    ap (seen zeros) ((c.in_ok-r.ensures.adds.others _ p_far).shows ∙ (c.in_ok-t.ensures.adds.others _ p_not).shows) ∙ ap (read_by zeros) pastes.held ∙ made.0
    ∙ pasted_whole _ _ made.1 c.requires.page in
    let table : child (book_of new) (Some c.in_ok-t.t) 0 ≡ Some c.in_ok-p.p =
    ap (λ (s : Shown). get_or (entries_in s) 0 None) (c.in_ok-r.ensures.adds.others _ t_not).shows ∙ c.in_ok-t.ensures.entries 0 in
    let here : seen zeros (shown new 2 (Some c.in_ok-r.r) 0) ≡ c.args.bytes.now =
    ap (λ (o : Option ℕ). seen zeros (shown new 1 o 0)) (c.in_ok-r.ensures.entries 0) ∙ ap (λ (o : Option ℕ). seen zeros (shown new 0 o 0)) table ∙ bytes in
    let first : (0 + k) / 512 ≡ 0 = omega (arith, low, c.requires.page) in
    let place : (0 + k) % 512 ≡ k = omega (arith, low, c.requires.page) in
    sym (ap (λ (d : SpaceData). content_at (whole new) d.root (0 + k)) c.of.ensures
    ∙ ap (λ (n : ℕ). get_or (seen zeros (shown new 2 (Some c.in_ok-r.r) n)) ((0 + k) % 512) 0) first
    ∙ ap (λ (n : ℕ). get_or (seen zeros (shown new 2 (Some c.in_ok-r.r) 0)) n 0) place ∙ ap (λ (b : List ℕ). get_or b k 0) here)
