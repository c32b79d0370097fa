-- What holds of a rule that is repeated.
use Rattle.std.proofs.Common.{◌≡◌, ℕ, zero, suc, ◌<◌, ◌≤◌, inl, inr, true, false, [], ◌∷◌, ◌++◌, length, Ok, Err, refl, sym, ap, subst, ◌∙◌, arith}
use Rattle.std.proofs.Common.{append_assoc}
use Rattle.std.proofs.lemmas.List.{length-append}
use Rattle.elan_tree.specs.declared.token.Token.{Token}
use Rattle.elan_grammar.specs.declared.error.ParseError.{ParseError}
use Rattle.elan_grammar.specs.Kinds.{ahead}
use Rattle.elan_grammar.proofs.Looks.{SameAhead, LooksSame}
use Rattle.elan_grammar.specs.Rule.{Tokens, and_then, refusal, Rule, steps, steps_run, iterate}
use Rattle.elan_grammar.proofs.Laws.{Set, Within, Laws, Full, Completes, Stuck, some_or_none, same_ahead, same_value, and_then_ok, and_then_err, chosen}
use Rattle.elan_grammar.proofs.Laws.{no_front}
use Rattle.elan_grammar.proofs.Sequences.{Others, first_part, place_behind}

empty_by : (xs : Tokens) → length xs ≤ 0 → xs ≡ []
empty_by [] e = refl
empty_by (x ∷ xs) e = absurd (omega arith)

both_empty : (front us : Tokens) → length (front ++ us) ≤ 0 → (front ≡ []) × (us ≡ [])
both_empty front us e = (empty_by front (omega (arith, length-append front us)), empty_by us (omega (arith, length-append front us)))

module _ {S : Type 0} (body : S → Rule S) (b1 b2 stop : Set) (laws : (s : S) → Laws (body s) b1 b2) (follows : Within b1 b2)
    (ends : Within stop b2) (others : (s : S) → Others stop (body s))
    (nothing : (s : S) → (body s).starts [] ≡ false) (eats : (s t : S) (xs ys : Tokens) → (body s).reads t xs ys → length ys < length xs) where
  abbrev reads_body : S → S → Tokens → Tokens → Type 0
  reads_body s = (body s).reads

  steps_sound : (n : ℕ) (s e : S) (xs ys : Tokens) → steps_run body n s xs ≡ Ok (e, ys) → (m : ℕ) × steps (λ a. (body a).reads) m s e xs ys
  steps_sound zero s e xs ys h = (0, same_value s e xs ys h)
  steps_sound (suc n) s e xs ys h =
      elim (chosen ((body s).starts xs) (and_then ((body s).run xs) (steps_run body n)) (Ok (s, xs)) (Ok (e, ys)) h) [
        | inl w ↦
            let o = and_then_ok ((body s).run xs) (steps_run body n) (e, ys) w.1 in
            let more = steps_sound n o.0.0 e o.0.1 ys o.2 in
            (suc more.0, (o.0.0, o.0.1, (laws s).sound xs o.0.1 o.0.0 o.1, more.1))
        | inr w ↦ (0, same_value s e xs ys w.1)
      ]

  steps_start : (p : Set) → Within b1 p → Within stop p → (n : ℕ) (s e : S) (xs ys : Tokens) → steps (λ a. (body a).reads) n s e xs ys → stop (ahead ys) ≡ true
      → p (ahead xs) ≡ true
  steps_start p w v zero s e xs ys h t = v (ahead xs) (subst (λ (z : Tokens). stop (ahead z) ≡ true) (sym h.1) t)
  steps_start p w v (suc n) s e xs ys h t =
      w (ahead xs) ((laws s).starts xs h.1 h.0 h.2 (steps_start b2 follows ends n h.0 e h.1 ys h.3 t))

  steps_whole : (n m : ℕ) (s e : S) (xs ys : Tokens) → steps (λ a. (body a).reads) n s e xs ys → stop (ahead ys) ≡ true → length xs ≤ m
      → steps_run body m s xs ≡ Ok (e, ys)
  steps_whole zero zero s e xs ys h t le = cc (h.0, h.1)
  steps_whole zero (suc m) s e xs ys h t le =
      let off : (body s).starts xs ≡ false = others s xs (subst (λ (z : Tokens). stop (ahead z) ≡ true) (sym h.1) t) in
      rw off (cc (h.0, h.1))
  steps_whole (suc n) zero s e xs ys h t le = absurd (omega (arith, eats s h.0 xs h.1 h.2))
  steps_whole (suc n) (suc m) s e xs ys h t le =
      let next = steps_start b2 follows ends n h.0 e h.1 ys h.3 t in
      let on : (body s).starts xs ≡ true = (laws s).shows xs h.1 h.0 h.2 next in
      rw (on, (laws s).whole xs h.1 h.0 h.2 next) (steps_whole n m h.0 e h.1 ys h.3 t (omega (arith, eats s h.0 xs h.1 h.2)))

  steps_split : (n : ℕ) (s e : S) (xs ys : Tokens) → steps reads_body n s e xs ys
      → (front : Tokens) × (xs ≡ front ++ ys) × ((zs : Tokens) → steps reads_body n s e (front ++ zs) zs)
  steps_split zero s e xs ys h = ([], h.1, λ zs. (h.0, refl))
  steps_split (suc n) s e xs ys h =
      let p = (laws s).splits xs h.1 h.0 h.2 in
      let q = steps_split n h.0 e h.1 ys h.3 in (
        p.front ++ q.0,
        p.whole ∙ ap (λ (z : Tokens). p.front ++ z) q.1 ∙ sym (append_assoc p.front q.0 ys),
        λ zs. (h.0, q.0 ++ zs, subst (λ (z : Tokens). (body s).reads h.0 z (q.0 ++ zs)) (sym (append_assoc p.front q.0 zs)) (p.free (q.0 ++ zs)), q.2 zs),
      )

  -- a step that goes on to a reading is the last
  last_step : (s : S) (front : Tokens) → Completes (body s) front → Completes (iterate body s) front
  last_step s front c = record { more = c.more; value = c.value; reads = λ zs. (1, (c.value, zs, c.reads zs, (refl, refl))) }

  -- a step that was read, and what completes the rest
  next_step : (s t : S) (first front : Tokens) → ((zs : Tokens) → (body s).reads t (first ++ zs) zs) → Completes (iterate body t) front
      → Completes (iterate body s) (first ++ front)
  next_step s t first front free c = record {
    more = c.more;
    value = c.value;
    reads = λ zs.
        let later = c.reads zs in (
          suc later.0,
          (
            t,
            front ++ (c.more ++ zs),
            subst (λ (z : Tokens). (body s).reads t z (front ++ (c.more ++ zs))) (sym (append_assoc first front (c.more ++ zs)))
                (free (front ++ (c.more ++ zs))),
            later.1,
          ),
        );
  }

  pub no_step : (s : S) → Completes (iterate body s) []
  no_step s = record { more = []; value = s; reads = λ zs. (0, (refl, refl)) }

  steps_stuck : (n : ℕ) (s : S) (xs : Tokens) (e : ParseError) → steps_run body n s xs ≡ Err e → Stuck (iterate body s) xs e
  steps_stuck zero s xs e h = absurd cc
  steps_stuck (suc n) s xs e h =
      elim (chosen ((body s).starts xs) (and_then ((body s).run xs) (steps_run body n)) (Ok (s, xs)) (Err e) h) [
        | inl w ↦ elim (and_then_err ((body s).run xs) (steps_run body n) e w.1) [
          | inl x ↦
              let p = (laws s).stuck xs e x in
              record { front = p.front; rest = p.rest; whole = p.whole; place = p.place; viable = λ some. last_step s p.front (p.viable some) }
          | inr x ↦
              let t = x.0.0 in
              let p = (laws s).splits xs x.0.1 t ((laws s).sound xs x.0.1 t x.1) in
              let q = steps_stuck n t x.0.1 e x.2 in
              record {
                front = p.front ++ q.front;
                rest = q.rest;
                whole = p.whole ∙ ap (λ (z : Tokens). p.front ++ z) q.whole ∙ sym (append_assoc p.front q.front q.rest);
                place = q.place;
                viable = λ some. next_step s t p.front q.front p.free (elim (some_or_none q.front) [
                  | inl none ↦ subst (λ (z : Tokens). Completes (iterate body t) z) (sym none) (no_step t)
                  | inr more ↦ q.viable more
                ]);
              }
        ]
        | inr w ↦ absurd cc
      ]

  shrinks : (s t : S) (xs ys : Tokens) → (body s).run xs ≡ Ok (t, ys) → length ys < length xs
  shrinks s t xs ys e = eats s t xs ys ((laws s).sound xs ys t e)

  -- the parser ends here where it sees that no step begins
  steps_end : (m : ℕ) (s : S) (xs : Tokens) → (body s).starts xs ≡ false → steps_run body m s xs ≡ Ok (s, xs)
  steps_end zero s xs h = refl
  steps_end (suc m) s xs h = rw h refl

  -- one step, and how the rest reads on
  step_on : (n m : ℕ) (s e : S) (front us vs : Tokens)
      → ((t : S) (second : Tokens) → steps_run body n t (second ++ us) ≡ Ok (e, us) → LooksSame second us vs → length (second ++ us) ≤ n
      → length (second ++ vs) ≤ m → steps_run body m t (second ++ vs) ≡ Ok (e, vs))
      → (body s).starts (front ++ vs) ≡ true → and_then ((body s).run (front ++ us)) (steps_run body n) ≡ Ok (e, us) → LooksSame front us vs
      → length (front ++ us) ≤ suc n → length (front ++ vs) ≤ suc m
      → steps_run body (suc m) s (front ++ vs) ≡ Ok (e, vs)
  step_on n m s e front us vs more on h w le lm =
      let o = and_then_ok ((body s).run (front ++ us)) (steps_run body n) (e, us) h in
      let t = o.0.0 in
      let mid = o.0.1 in
      let d = steps_sound n t e mid us o.2 in
      let q = steps_split d.0 t e mid us d.1 in
      let p = first_part (body s) b1 b2 (laws s) front q.0 us vs mid t o.1 q.1 w in
      let less : length (q.0 ++ us) < length (front ++ us) = subst (λ (z : Tokens). length z < length (front ++ us)) q.1 (shrinks s t (front ++ us) mid o.1) in
      let fewer : length (q.0 ++ vs) < length (front ++ vs) = shrinks s t (front ++ vs) (q.0 ++ vs) p.0 in
      let later = more t q.0 (ap (λ (z : Tokens). steps_run body n t z) (sym q.1) ∙ o.2) p.1 (omega arith) (omega arith) in
      rw (on, p.0) later

  steps_on : (n m : ℕ) (s e : S) (front us vs : Tokens) → steps_run body n s (front ++ us) ≡ Ok (e, us) → LooksSame front us vs → length (front ++ us) ≤ n
      → length (front ++ vs) ≤ m → steps_run body m s (front ++ vs) ≡ Ok (e, vs)
  steps_on zero m s e front us vs h w le lm =
      let none = both_empty front us le in
      let v = same_value s e (front ++ us) us h in
      let here : SameAhead us vs = subst (λ (z : Tokens). LooksSame z us vs) none.0 w in
      let off : (body s).starts vs ≡ false = sym ((laws s).same us vs here) ∙ ap (λ (z : Tokens). (body s).starts z) none.1 ∙ nothing s in
      rw (none.0, v.0) (steps_end m s vs off)
  steps_on (suc n) zero s e front us vs h w le lm =
      let none = both_empty front vs lm in
      let off : (body s).starts (front ++ us) ≡ false =
      (laws s).same (front ++ us) (front ++ vs) (same_ahead front us vs w) ∙ ap (λ (z : Tokens). (body s).starts (z ++ vs)) none.0
      ∙ ap (λ (z : Tokens). (body s).starts z) none.1 ∙ nothing s in
      let v = same_value s e (front ++ us) us (sym (steps_end (suc n) s (front ++ us) off) ∙ h) in
      rw (none.0, v.0) refl
  steps_on (suc n) (suc m) s e front us vs h w le lm =
      elim (chosen ((body s).starts (front ++ us)) (and_then ((body s).run (front ++ us)) (steps_run body n)) (Ok (s, front ++ us)) (Ok (e, us)) h) [
        | inl x ↦ step_on n m s e front us vs
            (λ t second. steps_on n m t e second us vs) (sym ((laws s).same (front ++ us) (front ++ vs) (same_ahead front us vs w)) ∙ x.0) x.1 w le lm
        | inr x ↦
            let v = same_value s e (front ++ us) us x.1 in
            let none = no_front front us v.1 in
            let off : (body s).starts vs ≡ false =
            ap (λ (z : Tokens). (body s).starts (z ++ vs)) (sym none) ∙ sym ((laws s).same (front ++ us) (front ++ vs) (same_ahead front us vs w)) ∙ x.0 in
            rw (none, v.0) (steps_end (suc m) s vs off)
      ]

  step_stop : (n m : ℕ) (s : S) (front us vs : Tokens) (u : Token)
      → ((t : S) (second : Tokens) → steps_run body n t (second ++ (u ∷ us)) ≡ Err (refusal (u ∷ us)) → LooksSame second (u ∷ us) (u ∷ vs)
      → length (second ++ (u ∷ vs)) ≤ m → steps_run body m t (second ++ (u ∷ vs)) ≡ Err (refusal (u ∷ vs)))
      → (body s).starts (front ++ (u ∷ vs)) ≡ true → and_then ((body s).run (front ++ (u ∷ us))) (steps_run body n) ≡ Err (refusal (u ∷ us))
      → LooksSame front (u ∷ us) (u ∷ vs) → length (front ++ (u ∷ vs)) ≤ suc m
      → steps_run body (suc m) s (front ++ (u ∷ vs)) ≡ Err (refusal (u ∷ vs))
  step_stop n m s front us vs u more on h w lm =
      elim (and_then_err ((body s).run (front ++ (u ∷ us))) (steps_run body n) (refusal (u ∷ us)) h) [
        | inl x ↦ rw (on, (laws s).stops front us vs u x w) refl
        | inr x ↦
            let t = x.0.0 in
            let mid = x.0.1 in
            let q = place_behind (body s) (iterate body t) b1 b2 (laws s) front (u ∷ us) mid t x.1 (steps_stuck n t mid (refusal (u ∷ us)) x.2) in
            let p = first_part (body s) b1 b2 (laws s) front q.0 (u ∷ us) (u ∷ vs) mid t x.1 q.1 w in
            let fewer : length (q.0 ++ (u ∷ vs)) < length (front ++ (u ∷ vs)) = shrinks s t (front ++ (u ∷ vs)) (q.0 ++ (u ∷ vs)) p.0 in
            let later = more t q.0 (ap (λ (z : Tokens). steps_run body n t z) (sym q.1) ∙ x.2) p.1 (omega arith) in
            rw (on, p.0) later
      ]

  steps_stop : (n m : ℕ) (s : S) (front us vs : Tokens) (u : Token) → steps_run body n s (front ++ (u ∷ us)) ≡ Err (refusal (u ∷ us))
      → LooksSame front (u ∷ us) (u ∷ vs) → length (front ++ (u ∷ vs)) ≤ m
      → steps_run body m s (front ++ (u ∷ vs)) ≡ Err (refusal (u ∷ vs))
  steps_stop zero m s front us vs u h w lm = absurd cc
  steps_stop (suc n) zero s front us vs u h w lm = absurd (omega (arith, length-append front (u ∷ vs)))
  steps_stop (suc n) (suc m) s front us vs u h w lm =
      elim (chosen ((body s).starts (front ++ (u ∷ us))) (and_then ((body s).run (front ++ (u ∷ us))) (steps_run body n)) (Ok (s, front ++ (u ∷ us)))
      (Err (refusal (u ∷ us))) h) [
        | inl x ↦ step_stop n m s front us vs u
            (λ t second. steps_stop n m t second us vs u) (sym ((laws s).same (front ++ (u ∷ us)) (front ++ (u ∷ vs)) (same_ahead front (u ∷ us) (u ∷ vs) w))
            ∙ x.0) x.1 w lm
        | inr x ↦ absurd cc
      ]

  iterate_laws : (s : S) (first : Set) → Within b1 first → Within stop first → Laws (iterate body s) first stop
  iterate_laws s first w v = record {
    sound = λ xs ys e h. steps_sound (length xs) s e xs ys h;
    whole = λ xs ys e h t. steps_whole h.0 (length xs) s e xs ys h.1 t (omega arith);
    starts = λ xs ys e h t. steps_start first w v h.0 s e xs ys h.1 t;
    splits = λ xs ys e h. let p = steps_split h.0 s e xs ys h.1 in record { front = p.0; whole = p.1; free = λ zs. (h.0, p.2 zs) };
    stuck = λ xs e h. steps_stuck (length xs) s xs e h;
    reads_on = λ front us vs e h w. steps_on (length (front ++ us)) (length (front ++ vs)) s e front us vs h w (omega arith) (omega arith);
    stops = λ front us vs t h w. steps_stop (length (front ++ (t ∷ us))) (length (front ++ (t ∷ vs))) s front us vs t h w (omega arith);
    shows = λ xs ys e h t. refl;
    same = λ us vs h. refl;
  }

  pub iterate_law : (s : S) (first : Set) → Within b1 first → Within stop first → Full (iterate body s) first stop
  iterate_law s first w v = record { laws = iterate_laws s first w v; sample = no_step s }
