use Rattle.memory_tests.proofs.Systems.{◌∙◌, [], ◌∷◌, refl, ap, get_or_read, no_task, roots, SpaceData, arith, own, set_agree, set_changes}
use Rattle.memory_tests.proofs.Systems.{copy_stands, copy_agree, copy_keeps, zeros, whole}
use Rattle.memory_tests.proofs.system.System.copy.Goals as goal

pub copy-requires : goal.copy-requires
copy-requires c = record { agree = copy_stands roots no_task (whole _) _ _ _ c.requires.from c.index.ensures c.args.self.now.agree _ _ refl c.requires.few }

pub give-requires : goal.give-requires
give-requires c =
    let held = copy_agree roots no_task (whole _) _ _ _ c.requires.from c.index.ensures c.args.self.now.agree _ _ refl c.requires.few _
    (c.in_ok-copy.ensures.frames zeros) (c.copy.ensures.shows zeros) _ (ap (λ (d : SpaceData). d.root) c.in_ok-copy.ensures.same) in
    record { agree = own roots no_task (whole _) (c.in_ok-copy.copy.root ∷ []) _ _ _ c.requires.to c.index_mut.ensures.value held }

pub invariant_of-self-2 : goal.invariant_of-self-2
invariant_of-self-2 c =
    let held = copy_agree roots no_task (whole _) _ _ _ c.requires.from c.index.ensures c.args.self.now.agree _ _ refl c.requires.few _
    (c.in_ok-copy.ensures.frames zeros) (c.copy.ensures.shows zeros) _ (ap (λ (d : SpaceData). d.root) c.in_ok-copy.ensures.same) in
    let later = set_agree roots no_task (whole _) (whole _) (c.in_ok-copy.copy.root ∷ []) _ _ _ c.requires.to c.index_mut.ensures.value held _
    (omega arith) c.give.ensures.frames in
    record { agree = later; known = c.give.ensures.frames.knows ((c.in_ok-copy.ensures.frames zeros).knows c.args.self.now.known) }

pub returns-clause-first : goal.returns-clause-first
returns-clause-first c = λ n. rw (← (get_or_read _ _ _ c.requires.to c.index_mut.ensures.value no_task)) (c.give.ensures.first n)
    ∙ copy_keeps roots no_task (whole _) _ _ _ c.requires.from c.index.ensures c.args.self.now.agree _ _ refl c.requires.few _
    (c.in_ok-copy.ensures.frames zeros) (c.copy.ensures.shows zeros) c.args.to c.requires.to 0 n

pub returns-clause-others : goal.returns-clause-others
returns-clause-others c =
    let held = copy_agree roots no_task (whole _) _ _ _ c.requires.from c.index.ensures c.args.self.now.agree _ _ refl c.requires.few _
    (c.in_ok-copy.ensures.frames zeros) (c.copy.ensures.shows zeros) _ (ap (λ (d : SpaceData). d.root) c.in_ok-copy.ensures.same) in
    let later = set_changes roots no_task (whole _) (whole _) (c.in_ok-copy.copy.root ∷ []) _ _ _ c.requires.to c.index_mut.ensures.value held _
    (omega arith) c.give.ensures.frames in
    let was = copy_keeps roots no_task (whole _) _ _ _ c.requires.from c.index.ensures c.args.self.now.agree _ _ refl c.requires.few _
    (c.in_ok-copy.ensures.frames zeros) (c.copy.ensures.shows zeros) in
    record { list = later.list; others = λ j there ne i n. later.others j there ne i n ∙ was j there i n }
