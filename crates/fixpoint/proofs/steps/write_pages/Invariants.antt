use Rattle.std.proofs.Common.{◌≡◌, ◌≤◌}
use Rattle.std.specs.Option.{ForSome}
use Rattle.edge.specs.Moments.{Step, HasMade}
use Rattle.fixpoint.specs.Fixpoints.{IsPlace, HasPages}
use Rattle.fixpoint.proofs.steps.write_pages.Given as goal

-- so many pages stand at their places
abbrev pub invariant-loop-k : goal.invariant-loop-k
invariant-loop-k g l =
    let d = g.D.Disk in
    let i = g.I.Image in
    record {
      count : l.k-end ≡ i.count_of l.image;
      step : ForSome (d.state l.fn.disk) (Step d.state d.moment d.left_since l.fn.disk l.disk (IsPlace (i.count_of l.image) (i.place_of l.image)) 0 l.k 0);
      calls : ForSome (d.state l.fn.disk) (λ s. ForSome (d.state l.disk) (HasMade 0 l.k 0 s));
      pages : ForSome (d.state l.disk) (λ t. HasPages l.k (i.place_of l.image) (i.page_of l.image) t.content);
      later : d.faults l.fn.disk ≤ d.faults l.disk;
    }
