use Rattle.page_table.proofs.Common.{◌≡◌, ◌/◌, ◌%◌, ℕ, Option, Some, sym, ◌∙◌, ap, arith, book_of, child}
use Rattle.page_table.proofs.Framing.{ready_of, page_live}
use Rattle.page_table.proofs.Moving.{held_live, heir_live, held_pinned, heir_pinned}
use Rattle.page_table.proofs.table.Table.own_page.Goals as goal

pub count-requires : goal.count-requires
count-requires c = record { live = held_live _ 2 _ (omega arith) (ready_of (sym c.self.view_is ∙ c.in_ok-r.was) c.requires.agree).held }

pub entry-requires-clause-pinned : goal.entry-requires-clause-pinned
entry-requires-clause-pinned c = held_pinned _ 2 _ (omega arith) (omega arith) (ready_of (sym c.self.view_is ∙ c.in_ok-r.was) c.requires.agree).held

pub count-requires-2 : goal.count-requires-2
count-requires-2 c =
    let held = (ready_of (sym c.self.view_is ∙ c.in_ok-r.was) c.requires.agree).held in
    record { live = heir_live _ 2 c.in_ok-r.r (c.args.k / 128) _ (omega arith) (omega arith) held (sym c.in_ok-t.ensures.named) }

pub entry-requires-2-clause-pinned : goal.entry-requires-2-clause-pinned
entry-requires-2-clause-pinned c = heir_pinned _ 1 c.in_ok-r.r (c.args.k / 128) _ (omega arith) (omega arith)
    (ready_of (sym c.self.view_is ∙ c.in_ok-r.was) c.requires.agree).held (sym c.in_ok-t.ensures.named)

pub count-requires-3 : goal.count-requires-3
count-requires-3 c =
    let table = ap (λ (o : Option ℕ). child (book_of c.args.pool.now) o (c.args.k / 128)) (sym c.self.view_is ∙ c.in_ok-r.was) ∙ sym c.in_ok-t.ensures.named in
    let page = ap (λ (o : Option ℕ). child (book_of c.args.pool.now) o (c.args.k % 128)) table ∙ sym c.in_ok-p.ensures.named in
    record { live = page_live _ _ 0 c.args.k _ c.requires.agree page }
