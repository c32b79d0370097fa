use Rattle.std.proofs.Common.{ℕ, [], ◌∷◌, Option, None, Some, Result, Ok, Err, sym, ap, ◌∙◌, subst, arith}
use Rattle.std.specs.Prelude.{OnErr}
use Rattle.source_texts.specs.Below.page_table.specs.Frames.{over, Frames, Stands}
use Rattle.source_texts.specs.Below.page_table.proofs.Framing.{frames_nil, stands_after}
use Rattle.data_space.specs.Data.{SpaceData}
use Rattle.source_texts.proofs.Pooled.{stands_new, frames_made, frames_back}
use Rattle.source_texts.proofs.Typed.{source_typed}
use Rattle.source_texts.proofs.write.write_source.Goals as goal

on_err : {T E P : Type 0} (r : Result T E) → P → OnErr r P
on_err (Ok x) p = tt
on_err (Err e) p = p

pub returns-in_err-shape-clause-given_back : goal.returns-in_err-shape-clause-given_back
returns-in_err-shape-clause-given_back g c = on_err c.from_residual.result (frames_nil (over c.args.pool.now (g.B.Backing.tells c.args.backing.now)) (None ∷ []) [] (λ p. omega arith) (λ p. omega arith))

pub fill-requires-clause-agree : goal.fill-requires-clause-agree
fill-requires-clause-agree g c =
    subst (λ (o : Option ℕ). Stands c.args.pool.now (o ∷ []) 0) (sym (ap (λ (s : SpaceData). s.root) c.of-space.ensures))
    (stands_new c.args.pool.now [] c.requires.agree)

pub forget-requires : goal.forget-requires
forget-requires g c =
    let stands = subst (λ (o : Option ℕ). Stands c.args.pool.now (o ∷ []) 0) (sym (ap (λ (s : SpaceData). s.root) c.of-space.ensures))
    (stands_new c.args.pool.now [] c.requires.agree) in
    record { agree = stands_after _ _ (c.of-space.result.root ∷ []) (c.fill.new.space.root ∷ []) 0 0 (omega arith) c.fill.ensures.frames stands }

pub returns-in-Ok-clause-holds : goal.returns-in-Ok-clause-holds
returns-in-Ok-clause-holds g c = λ known. record {
  knows = c.fill.ensures.frames.knows known;
  kind = c.fill.ensures.kind ∙ ap (λ (s : SpaceData). s.kind) c.of-space.ensures;
  shape = c.fill.ensures.shape ∙ ap (λ (s : SpaceData). s.shape) c.of-space.ensures ∙ ap Some c.in_ok-shape.ensures;
  typed = source_typed c.args.lines.now c.requires.few c.requires.short;
  holds = c.in-Ok.ensures.holds known;
}

pub returns-in-Ok-clause-frames : goal.returns-in-Ok-clause-frames
returns-in-Ok-clause-frames g c =
    frames_made (over c.args.pool.now (g.B.Backing.tells c.args.backing.now)) (over c.fill.new.pool (g.B.Backing.tells c.fill.new.backing)) c.fill.new.space.root
    (subst (λ (o : Option ℕ). Frames (over c.args.pool.now (g.B.Backing.tells c.args.backing.now)) (over c.fill.new.pool (g.B.Backing.tells c.fill.new.backing)) (o ∷ []) (c.fill.new.space.root ∷ []))
    (ap (λ (s : SpaceData). s.root) c.of-space.ensures) c.fill.ensures.frames)

pub returns-in-Err-clause-given_back : goal.returns-in-Err-clause-given_back
returns-in-Err-clause-given_back g c =
    frames_back (over c.args.pool.now (g.B.Backing.tells c.args.backing.now)) (over c.fill.new.pool (g.B.Backing.tells c.fill.new.backing)) (over c.forget.new.pool (g.B.Backing.tells c.fill.new.backing)) c.fill.new.space.root
    (subst (λ (o : Option ℕ). Frames (over c.args.pool.now (g.B.Backing.tells c.args.backing.now)) (over c.fill.new.pool (g.B.Backing.tells c.fill.new.backing)) (o ∷ []) (c.fill.new.space.root ∷ []))
    (ap (λ (s : SpaceData). s.root) c.of-space.ensures) c.fill.ensures.frames)
    (c.forget.ensures.frames (g.B.Backing.tells c.fill.new.backing))
