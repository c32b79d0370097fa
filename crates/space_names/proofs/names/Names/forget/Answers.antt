use Rattle.std.proofs.Common.{ap, ◌∙◌, not, nat_eq, rules}
use Rattle.indexmap.proofs.CallerLemmas.{filter-RetainsPairs}
use Rattle.space_names.specs.Directory as spec
use Rattle.space_names.specs.Entries.{directory_of}
use Rattle.space_names.proofs.Kept.{forget_kept}
use Rattle.space_names.proofs.names.Names.forget.Goals as goal

pub returns : goal.returns
returns c =
    let kept = filter-RetainsPairs _ (λ e. not (nat_eq c.args.space.0 e.1.0)) _ (λ k v b w g call. search rules) _ _ c.retain.ensures.filtered in
    ap directory_of kept ∙ forget_kept c.args.space.0 c.self.inside.spaces.entries ∙ ap (spec.without_space c.args.space.0) c.self.view_is
