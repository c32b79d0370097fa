-- Commands with more marks, and with an answer more.
use Rattle.std.proofs.Common.{◌≡◌, ℕ, zero, suc, ◌+◌, ◌-◌, ◌≤◌, List, [], ◌∷◌, ◌++◌, length, Option, Some, None, refl, sym, ap, ◌∙◌, subst, ⊎_elim, append-nil, arith}
use Rattle.std.specs.Prelude.{slice_get}
use Rattle.std.proofs.lemmas.Bool.{cases_lt}
use Rattle.eu_base.specs.declared.value.Value.{Value}
use Rattle.eu_base.specs.declared.stop.Stop.TheVariants.{CellRoom}
use Rattle.eu_base.specs.declared.request.Request.{Request}
use Rattle.eu_base.specs.declared.request.Request.TheVariants as requests
use Rattle.eu_base.specs.DataSpaces.{Spaces}
use Rattle.eu_base.specs.Requests.{Answer, then_asked}
use Rattle.elan_types.specs.declared.core_phrase.Body.{Body}
use Rattle.elan_types.specs.declared.core_phrase.Core.{Core}
use Rattle.elan_types.specs.declared.core_phrase.Exit.TheVariants as exits
use Rattle.elan_types.specs.Eval.{Slot, World, Outcome, Calls, Reach, bind, branch, after_answer, cut, spend, act, all, content, frame, link, called, referred, own_variables, run_called, run_referred, level, spend_at}
use Rattle.elan_types.specs.Eval as outcomes
use Rattle.elan_types.specs.Command.{Asks, ending, at_start, start_fits, run_started, run_from, evaluate}
use Rattle.turn_laws.specs.Steady.{IsSteady}
use Rattle.turn_laws.proofs.Going.{IsOwn, marks_of, Later, One, loose, Late, with_extra, AnsweredBy, Asked, Two, Goes, up, gives, stops, reads, branches, maps, binds, spend_late, spends_below}
use Rattle.turn_laws.proofs.Phrases.{rooms, CallsGo, units_good, content_good}

-- ---- bodies

module _ (k : ℕ) (ex : Option Answer) where
  call_falls : (n : ℕ) (o : Outcome (Option (List Value))) → marks_of (called n o) ≤ marks_of o
  call_falls n (outcomes.Gives v w) = omega arith
  call_falls n (outcomes.Left e v w) = omega arith
  call_falls n (outcomes.Stopped s w) = omega arith
  call_falls n (outcomes.OutOfMarks w) = omega arith
  call_falls n (outcomes.Asks q w) = omega arith

  call_later : (n m : ℕ) (o : Outcome (Option (List Value))) → Later m o → Later m (called n o)
  call_later n m (outcomes.Gives v w) h = h
  call_later n m (outcomes.Left e v w) h = h
  call_later n m (outcomes.Stopped s w) h = h
  call_later n m (outcomes.OutOfMarks w) h = h
  call_later n m (outcomes.Asks q w) h = h

  call_late : (n : ℕ) (o : Outcome (Option (List Value))) → Late k o → Late k (called n o)
  call_late n (outcomes.Gives v w) h = h
  call_late n (outcomes.Left e v w) h = h
  call_late n (outcomes.Stopped s w) h = h
  call_late n (outcomes.OutOfMarks w) h = h
  call_late n (outcomes.Asks q w) h = h

  call_asked : (n : ℕ) (e : Option Answer) (q : Request) (w : World) (o : Outcome (Option (List Value))) → Asked k ex e q w o → Asked k ex e q w (called n o)
  call_asked n None q w o is = ap (called n) is
  call_asked n (Some a) q w o is = by (then_asked q a.reply) is
    where
      by : (r : Option Request) → AnsweredBy k ex r q a w o → AnsweredBy k ex r q a w (called n o)
      by (Some r) is = ap (called n) is
      by None is = call_later n (w.marks + k) o is

  call_two : (n : ℕ) (o o' : Outcome (Option (List Value))) → Two k ex o o' → Two k ex (called n o) (called n o')
  call_two n (outcomes.Gives v w) o' is = ap (called n) is
  call_two n (outcomes.Left e v w) o' is = ap (called n) is
  call_two n (outcomes.Stopped s w) o' is = ap (called n) is
  call_two n (outcomes.OutOfMarks w) o' is = call_late n o' is
  call_two n (outcomes.Asks q w) o' is = call_asked n ex q w o' is

  refer_falls : (n : ℕ) (o : Outcome (Option (List Value))) → marks_of (referred n o) ≤ marks_of o
  refer_falls n (outcomes.Gives v w) = omega arith
  refer_falls n (outcomes.Left exits.Body v w) = omega arith
  refer_falls n (outcomes.Left exits.Around v w) = omega arith
  refer_falls n (outcomes.Stopped s w) = omega arith
  refer_falls n (outcomes.OutOfMarks w) = omega arith
  refer_falls n (outcomes.Asks q w) = omega arith

  refer_later : (n m : ℕ) (o : Outcome (Option (List Value))) → Later m o → Later m (referred n o)
  refer_later n m (outcomes.Gives v w) h = h
  refer_later n m (outcomes.Left exits.Body v w) h = h
  refer_later n m (outcomes.Left exits.Around v w) h = h
  refer_later n m (outcomes.Stopped s w) h = h
  refer_later n m (outcomes.OutOfMarks w) h = h
  refer_later n m (outcomes.Asks q w) h = h

  refer_late : (n : ℕ) (o : Outcome (Option (List Value))) → Late k o → Late k (referred n o)
  refer_late n (outcomes.Gives v w) h = h
  refer_late n (outcomes.Left exits.Body v w) h = h
  refer_late n (outcomes.Left exits.Around v w) h = h
  refer_late n (outcomes.Stopped s w) h = h
  refer_late n (outcomes.OutOfMarks w) h = h
  refer_late n (outcomes.Asks q w) h = h

  refer_asked : (n : ℕ) (e : Option Answer) (q : Request) (w : World) (o : Outcome (Option (List Value))) → Asked k ex e q w o → Asked k ex e q w (referred n o)
  refer_asked n None q w o is = ap (referred n) is
  refer_asked n (Some a) q w o is = by (then_asked q a.reply) is
    where
      by : (r : Option Request) → AnsweredBy k ex r q a w o → AnsweredBy k ex r q a w (referred n o)
      by (Some r) is = ap (referred n) is
      by None is = refer_later n (w.marks + k) o is

  refer_two : (n : ℕ) (o o' : Outcome (Option (List Value))) → Two k ex o o' → Two k ex (referred n o) (referred n o')
  refer_two n (outcomes.Gives v w) o' is = ap (referred n) is
  refer_two n (outcomes.Left exits.Body v w) o' is = ap (referred n) is
  refer_two n (outcomes.Left exits.Around v w) o' is = ap (referred n) is
  refer_two n (outcomes.Stopped s w) o' is = ap (referred n) is
  refer_two n (outcomes.OutOfMarks w) o' is = refer_late n o' is
  refer_two n (outcomes.Asks q w) o' is = refer_asked n ex q w o' is

  module _ (bodies : List Body) where
    -- what calls of these bodies do, n deep and n' deep
    abbrev Levels : ℕ → ℕ → ℕ → Type 0
    Levels b n n' = CallsGo k ex b (level bodies n) (level bodies n')

    called_go : (b n n' : ℕ) → b ≤ n → b + k ≤ n' → Levels b n n' → (o : Option Body) (xs : List Slot) (held : ℕ)
        → Goes k ex b 0 (run_called (level bodies n) n o xs held) (run_called (level bodies n') n' o xs held)
    called_go b n n' le far h None xs held = record {
      one = λ w. record { falls = omega arith; later = λ none. tt };
      other = λ w. record { falls = omega arith; later = λ none. tt };
      two = λ w low. tt;
    }
    called_go b n n' le far h (Some x) xs held =
        reads k ex b 0 (λ s p sp. length s) (at (level bodies n) n) (at (level bodies n') n')
        (λ l.
        rooms k ex b (frame xs (own_variables x.scope)) _ _
        (maps k ex b (called l) (call_falls l) (call_later l) (call_two l)
        (content x.content (record { calls = level bodies n; turns = n; base = l + 2; held = held }))
        (content x.content (record { calls = level bodies n'; turns = n'; base = l + 2; held = held }))
        (content_good k ex b (level bodies n) (level bodies n') h n n' le far x.content (l + 2) held)))
      where
        at : Calls → ℕ → ℕ → World → Outcome (Option (List Value))
        at c t l = outcomes.with_room (frame xs (own_variables x.scope)) (λ w'. called l (content x.content (record { calls = c; turns = t; base = l + 2; held = held }) w'))

    referred_go : (b n n' : ℕ) → b ≤ n → b + k ≤ n' → Levels b n n' → (o : Option Body) (base held : ℕ)
        → Goes k ex b 0 (run_referred (level bodies n) n o base held) (run_referred (level bodies n') n' o base held)
    referred_go b n n' le far h None base held = record {
      one = λ w. record { falls = omega arith; later = λ none. tt };
      other = λ w. record { falls = omega arith; later = λ none. tt };
      two = λ w low. tt;
    }
    referred_go b n n' le far h (Some x) base held =
        reads k ex b 0 (λ s p sp. length s) (at (level bodies n) n) (at (level bodies n') n')
        (λ l.
        rooms k ex b link _ _
        (maps k ex b (referred l) (refer_falls l) (refer_later l) (refer_two l)
        (content x.content (record { calls = level bodies n; turns = n; base = base; held = held }))
        (content x.content (record { calls = level bodies n'; turns = n'; base = base; held = held }))
        (content_good k ex b (level bodies n) (level bodies n') h n n' le far x.content base held)))
      where
        at : Calls → ℕ → ℕ → World → Outcome (Option (List Value))
        at c t l = outcomes.with_room link (λ w'. referred l (content x.content (record { calls = c; turns = t; base = base; held = held }) w'))

-- calls at no mark
no_marks : {A : Type 0} (f : World → Outcome A) → ((w : World) → One 0 w (f w)) → Goes 0 None 0 0 (spend f) (spend f)
no_marks f one =
    spends_below 0 None 0 f f (λ w. loose w (f w) (one w)) (λ w. loose w (f w) (one w)) (λ m less w low. absurd (omega (arith, less)))

none_left : {A : Type 0} (k : ℕ) (ex : Option Answer) (b d : ℕ) → Goes k ex {A = A} b d outcomes.OutOfMarks outcomes.OutOfMarks
none_left k ex b d = record {
  one = λ w. record { falls = omega arith; later = λ none. tt };
  other = λ w. record { falls = omega arith; later = λ none. tt };
  two = λ w low. tt;
}

levels_zero : (bodies : List Body) (n : ℕ) → CallsGo 0 None 0 (level bodies n) (level bodies n)
levels_zero bodies zero = record {
  call = λ p xs held. none_left 0 None 0 0;
  refer = λ p base held. none_left 0 None 0 0;
}
levels_zero bodies (suc n) = record {
  call = λ p xs held.
      no_marks (run_called (level bodies n) n (slice_get bodies p) xs held)
      (called_go 0 None bodies 0 n n (omega arith) (omega arith) (levels_zero bodies n) (slice_get bodies p) xs held).one;
  refer = λ p base held.
      no_marks (run_referred (level bodies n) n (slice_get bodies p) base held)
      (referred_go 0 None bodies 0 n n (omega arith) (omega arith) (levels_zero bodies n) (slice_get bodies p) base held).one;
}

module _ (k : ℕ) (ex : Option Answer) (bodies : List Body) where
  call_one : (n p : ℕ) (xs : List Slot) (held : ℕ) (w : World) → One 1 w (run_called (level bodies n) n (slice_get bodies p) xs held w)
  call_one n p xs held w =
      loose w (run_called (level bodies n) n (slice_get bodies p) xs held w)
      ((called_go 0 None bodies 0 n n (omega arith) (omega arith) (levels_zero bodies n) (slice_get bodies p) xs held).one w)

  refer_one : (n p base held : ℕ) (w : World) → One 1 w (run_referred (level bodies n) n (slice_get bodies p) base held w)
  refer_one n p base held w =
      loose w (run_referred (level bodies n) n (slice_get bodies p) base held w)
      ((referred_go 0 None bodies 0 n n (omega arith) (omega arith) (levels_zero bodies n) (slice_get bodies p) base held).one w)

  call_late_at : (n p : ℕ) (xs : List Slot) (held : ℕ) (w : World) → w.marks ≤ k → Late k ((level bodies n).call p xs held w)
  call_late_at zero p xs held w low = tt
  call_late_at (suc n) p xs held w low =
      spend_late k ex 0 (run_called (level bodies n) n (slice_get bodies p) xs held) (call_one n p xs held) w w.marks low

  refer_late_at : (n p base held : ℕ) (w : World) → w.marks ≤ k → Late k ((level bodies n).refer p base held w)
  refer_late_at zero p base held w low = tt
  refer_late_at (suc n) p base held w low =
      spend_late k ex 0 (run_referred (level bodies n) n (slice_get bodies p) base held) (refer_one n p base held) w w.marks low

  -- no mark is left
  spent_two : {A : Type 0} (f : World → Outcome A) (w v : World) (n : ℕ) → n ≤ 0 → Two k ex (spend_at n w f) (outcomes.OutOfMarks v)
  spent_two f w v zero low = tt
  spent_two f w v (suc n) low = absurd (omega (arith, low))

  levels_go : (n n' b : ℕ) → b ≤ n → b + k ≤ n' → CallsGo k ex b (level bodies n) (level bodies n')
  levels_go zero n' b le far = record {
    call = λ p xs held. record {
      one = ((levels_zero bodies zero).call p xs held).one;
      other = ((levels_zero bodies n').call p xs held).one;
      two = λ w low. call_late_at n' p xs held (up k ex w) (omega (arith, low, le));
    };
    refer = λ p base held. record {
      one = ((levels_zero bodies zero).refer p base held).one;
      other = ((levels_zero bodies n').refer p base held).one;
      two = λ w low. refer_late_at n' p base held (up k ex w) (omega (arith, low, le));
    };
  }
  levels_go (suc n) zero b le far = record {
    call = λ p xs held. record {
      one = ((levels_zero bodies (suc n)).call p xs held).one;
      other = ((levels_zero bodies zero).call p xs held).one;
      two = λ w low. spent_two (run_called (level bodies n) n (slice_get bodies p) xs held) w (up k ex w) w.marks (omega (arith, low, far));
    };
    refer = λ p base held. record {
      one = ((levels_zero bodies (suc n)).refer p base held).one;
      other = ((levels_zero bodies zero).refer p base held).one;
      two = λ w low. spent_two (run_referred (level bodies n) n (slice_get bodies p) base held) w (up k ex w) w.marks (omega (arith, low, far));
    };
  }
  levels_go (suc n) (suc n') b le far = record {
    call = λ p xs held.
        spends_below k ex b (run_called (level bodies n) n (slice_get bodies p) xs held) (run_called (level bodies n') n' (slice_get bodies p) xs held)
        (call_one n p xs held) (call_one n' p xs held)
        (λ m less w low.
        (called_go k ex bodies m n n' (omega (arith, less, le)) (omega (arith, less, far))
        (levels_go n n' m (omega (arith, less, le)) (omega (arith, less, far))) (slice_get bodies p) xs held).two w low);
    refer = λ p base held.
        spends_below k ex b (run_referred (level bodies n) n (slice_get bodies p) base held) (run_referred (level bodies n') n' (slice_get bodies p) base held)
        (refer_one n p base held) (refer_one n' p base held)
        (λ m less w low.
        (referred_go k ex bodies m n n' (omega (arith, less, le)) (omega (arith, less, far))
        (levels_go n n' m (omega (arith, less, le)) (omega (arith, less, far))) (slice_get bodies p) base held).two w low);
  }

-- ---- commands

module _ (core : Core) (packets : List Slot) (spaces : Spaces) where
  -- the outcome of a command
  abbrev outcome : ℕ → List Answer → Outcome (Unit {0})
  outcome n as' = branch (start_fits core) (run_from core.start core n) (outcomes.Stopped CellRoom) (at_start core packets spaces n as')

  module _ (k : ℕ) (ex : Option Answer) (n : ℕ) where
    started_go : (o : Option Body) → Goes k ex n 0 (run_started core n o) (run_started core (n + k) o)
    started_go None = none_left k ex n 0
    started_go (Some x) =
        binds k ex n _ _ (λ _. outcomes.Gives tt) (λ _. outcomes.Gives tt)
        (maps k ex n (called 0) (call_falls k ex 0) (call_later k ex 0) (call_two k ex 0)
        (content x.content (record { calls = level core.bodies n; turns = n; base = 2; held = 0 }))
        (content x.content (record { calls = level core.bodies (n + k); turns = n + k; base = 2; held = 0 }))
        (content_good k ex n (level core.bodies n) (level core.bodies (n + k)) (levels_go k ex core.bodies n (n + k) n (omega arith) (omega arith)) n (n + k)
        (omega arith) (omega arith) x.content 2 0))
        (λ _. gives k ex n 0 tt)

    run_goes : (o : Option ℕ) → Goes k ex n 0 (run_from o core n) (run_from o core (n + k))
    run_goes None =
        units_good k ex n (level core.bodies n) (level core.bodies (n + k)) (levels_go k ex core.bodies n (n + k) n (omega arith) (omega arith)) n (n + k)
        (omega arith) (omega arith) core.units 0 0
    run_goes (Some p) = started_go (slice_get core.bodies p)

    goes : Goes k ex n 0 (branch (start_fits core) (run_from core.start core n) (outcomes.Stopped CellRoom))
        (branch (start_fits core) (run_from core.start core (n + k)) (outcomes.Stopped CellRoom))
    goes = branches k ex n 0 (start_fits core) _ (outcomes.Stopped CellRoom) _ (outcomes.Stopped CellRoom) (run_goes core.start) (stops k ex n 0 CellRoom)

    both : (as' : List Answer) → Two k ex (outcome n as') (outcome (n + k) (as' ++ with_extra ex))
    both as' = goes.two (at_start core packets spaces n as') (omega arith)

  alone : (n : ℕ) (as' : List Answer) → One 0 (at_start core packets spaces n as') (outcome n as')
  alone n as' = (goes 0 None n).one (at_start core packets spaces n as')

  -- what it asks is what its outcome asks
  asked_so : {A : Type 0} (o : Outcome A) (q : Request) (w : World) → ending o ≡ Asks q w → o ≡ outcomes.Asks q w
  asked_so (outcomes.Gives a v) q w e = absurd (cc e)
  asked_so (outcomes.Left x y v) q w e = absurd (cc e)
  asked_so (outcomes.Stopped s v) q w e = absurd (cc e)
  asked_so (outcomes.OutOfMarks v) q w e = absurd (cc e)
  asked_so (outcomes.Asks r v) q w e =
      let f : r ≡ q = cc e in let g : v ≡ w = cc e in ap (λ (x : Request). outcomes.Asks x v) f ∙ ap (λ (x : World). outcomes.Asks q x) g

  -- more marks
  asks_more : (n k : ℕ) (as' : List Answer) (q : Request) (w : World) → evaluate core packets spaces n as' ≡ Asks q w
      → outcome (n + k) as' ≡ outcomes.Asks q (record w { marks = w.marks + k })
  asks_more n k as' q w e =
      ap (outcome (n + k)) (sym (append-nil as'))
      ∙ (subst (λ (o : Outcome (Unit {0})). Two k None o (outcome (n + k) (as' ++ []))) (asked_so (outcome n as') q w e) (both k None n as')
      ∙ ap (λ (rs : List Answer). let v : World = record w { marks = w.marks + k; replies = rs } in outcomes.Asks q v) (append-nil w.replies))

  -- an answer more
  with_answer : (n k : ℕ) (as' : List Answer) (q : Request) (w : World) (a : Answer) → evaluate core packets spaces n as' ≡ Asks q w
      → AnsweredBy k (Some a) (then_asked q a.reply) q a w (outcome (n + k) (as' ++ a ∷ []))
  with_answer n k as' q w a e =
      subst (λ (o : Outcome (Unit {0})). Two k (Some a) o (outcome (n + k) (as' ++ a ∷ []))) (asked_so (outcome n as') q w e) (both k (Some a) n as')

  later_asks : (n k : ℕ) (as' : List Answer) (q r : Request) (w v : World) (a : Answer) → evaluate core packets spaces n as' ≡ Asks q w
      → then_asked q a.reply ≡ None → evaluate core packets spaces (n + k) (as' ++ a ∷ []) ≡ Asks r v → (v.marks + 1 ≤ w.marks + k) × IsOwn r
  later_asks n k as' q r w v a e none f =
      subst (λ (o : Outcome (Unit {0})). Later (w.marks + k) o) (asked_so (outcome (n + k) (as' ++ a ∷ [])) r v f)
      (subst (λ (o : Option Request). AnsweredBy k (Some a) o q a w (outcome (n + k) (as' ++ a ∷ []))) none (with_answer n k as' q w a e))

  -- fewer marks
  fewer : (n j : ℕ) (as' : List Answer) (q : Request) (w : World) → outcome (n + j) as' ≡ outcomes.Asks q w → w.marks ≡ j → (o : Outcome (Unit {0}))
      → Two j None o (outcome (n + j) as') → o ≡ outcomes.Asks q (record w { marks = 0 })
  fewer n j as' q w e is (outcomes.Gives a v) two = let f : outcomes.Asks q w ≡ outcomes.Gives a (up j None v) = sym e ∙ two in absurd (cc f)
  fewer n j as' q w e is (outcomes.Left x y v) two = let f : outcomes.Asks q w ≡ outcomes.Left x y (up j None v) = sym e ∙ two in absurd (cc f)
  fewer n j as' q w e is (outcomes.Stopped s v) two = let f : outcomes.Asks q w ≡ outcomes.Stopped s (up j None v) = sym e ∙ two in absurd (cc f)
  fewer n j as' q w e is (outcomes.OutOfMarks v) two =
      let less = subst (λ (o : Outcome (Unit {0})). Late j o) e two in absurd (omega (arith, less, is))
  fewer n j as' q w e is (outcomes.Asks r v) two =
      let f : outcomes.Asks q w ≡ outcomes.Asks r (up j None v) = sym e ∙ two in
      let same : q ≡ r = cc f in
      let world : w ≡ up j None v = cc f in
      let zero_left : v.marks ≡ 0 = let m = ap (λ (x : World). x.marks) world in omega (arith, m, is) in
      ap (λ (x : Request). outcomes.Asks x v) (sym same)
      ∙ ap (λ (x : World). outcomes.Asks q x)
      (ap (λ (m : ℕ). let x : World = record v { marks = m } in x) zero_left
      ∙ (ap (λ (rs : List Answer). let x : World = record v { marks = 0; replies = rs } in x) (sym (append-nil v.replies))
      ∙ ap (λ (x : World). let y : World = record x { marks = 0 } in y) (sym world)))

  -- what is asked for with more marks costs one of those
  asks_late : (n k : ℕ) (as' : List Answer) (q : Request) (w : World) → ((r : Request) (v : World) → evaluate core packets spaces n as' ≡ Asks r v → ⊥)
      → evaluate core packets spaces (n + k) as' ≡ Asks q w → w.marks + 1 ≤ k
  asks_late n k as' q w nothing e =
      by (outcome n as') refl
      (subst (λ (rs : List Answer). Two k None (outcome n as') (outcome (n + k) rs)) (append-nil as') (both k None n as'))
    where
      is : outcome (n + k) as' ≡ outcomes.Asks q w
      is = asked_so (outcome (n + k) as') q w e

      by : (o : Outcome (Unit {0})) → outcome n as' ≡ o → Two k None o (outcome (n + k) as') → w.marks + 1 ≤ k
      by (outcomes.Gives a v) at two = let f : outcomes.Asks q w ≡ outcomes.Gives a (up k None v) = sym is ∙ two in absurd (cc f)
      by (outcomes.Left x y v) at two = let f : outcomes.Asks q w ≡ outcomes.Left x y (up k None v) = sym is ∙ two in absurd (cc f)
      by (outcomes.Stopped s v) at two = let f : outcomes.Asks q w ≡ outcomes.Stopped s (up k None v) = sym is ∙ two in absurd (cc f)
      by (outcomes.OutOfMarks v) at two = let less = subst (λ (o : Outcome (Unit {0})). Late k o) is two in omega (arith, less)
      by (outcomes.Asks r v) at two = absurd (nothing r v (ap ending at))

  pub is_steady : IsSteady core packets spaces
  is_steady = record {
    more = λ n k as' q w e. ap ending (asks_more n k as' q w e);
    less = λ n as' q w e.
        let low = (alone n as').falls in
        let o = asked_so (outcome n as') q w e in
        let most : w.marks ≤ n = subst (λ (x : Outcome (Unit {0})). marks_of x ≤ n) o low in
        let same : n ≡ (n - w.marks) + w.marks = omega (arith, most) in
        let at : outcome ((n - w.marks) + w.marks) as' ≡ outcomes.Asks q w = ap (λ m. outcome m as') (sym same) ∙ o in
        ap ending
        (fewer (n - w.marks) w.marks as' q w at refl (outcome (n - w.marks) as')
        (subst (λ (rs : List Answer). Two w.marks None (outcome (n - w.marks) as') (outcome ((n - w.marks) + w.marks) rs)) (append-nil as')
        (both w.marks None (n - w.marks) as')));
    next = λ n as' q w a r e some.
        let none_more : n ≡ n + 0 = omega arith in
        ap (λ m. evaluate core packets spaces m (as' ++ a ∷ [])) none_more
        ∙ ap ending
        (subst (λ (o : Option Request). AnsweredBy 0 (Some a) o q a w (outcome (n + 0) (as' ++ a ∷ []))) some (with_answer n 0 as' q w a e)
        ∙ ap (λ (m : ℕ). let x : World = record w { marks = m; replies = w.replies ++ a ∷ [] } in outcomes.Asks r (after_answer q a [] x))
        (let zero_more : w.marks + 0 ≡ w.marks = omega arith in zero_more));
    later = λ n k as' q w a of v e none f. ⊎_elim
        (λ less.
        let same : n ≡ k + (n - k) = omega (arith, less) in
        let g = asks_more k (n - k) (as' ++ a ∷ []) (requests.Answer of) v f in
        let none_more : n + 0 ≡ k + (n - k) = omega (arith, less) in
        (later_asks n 0 as' q (requests.Answer of) w (record v { marks = v.marks + (n - k) }) a e none
        (ap ending (ap (λ m. outcome m (as' ++ a ∷ [])) none_more ∙ g))).1)
        (λ more.
        let same : k ≡ n + (k - n) = omega (arith, more) in
        (later_asks n (k - n) as' q (requests.Answer of) w v a e none (ap (λ m. evaluate core packets spaces m (as' ++ a ∷ [])) (sym same) ∙ f)).1)
        (cases_lt k n);
    costs = λ n k as' q r w v a e none f. (later_asks n k as' q r w v a e none f).0;
    first = λ n of v e.
        (subst (λ (o : Outcome (Unit {0})). Later (n + 0) o) (asked_so (outcome n []) (requests.Answer of) v e) ((alone n []).later refl)).1;
    pays = λ n q v e.
        let costs = (subst (λ (o : Outcome (Unit {0})). Later (n + 0) o) (asked_so (outcome n []) q v e) ((alone n []).later refl)).0 in
        omega (arith, costs);
    late = λ n k as' q w nothing e. asks_late n k as' q w nothing e;
  }
