-- One evaluation beside another that has more marks and an answer more.
use Rattle.std.proofs.Common.{◌≡◌, ℕ, zero, suc, ◌+◌, ◌≤◌, ◌<◌, Bool, true, false, List, [], ◌∷◌, ◌++◌, Option, Some, None, refl, sym, ap, subst, arith}
use Rattle.eu_base.specs.declared.value.Value.{Value}
use Rattle.eu_base.specs.declared.stop.Stop.{Stop}
use Rattle.eu_base.specs.declared.request.Request.{Request}
use Rattle.eu_base.specs.declared.request.Request.TheVariants as requests
use Rattle.eu_base.specs.declared.request.Reply.{Reply}
use Rattle.eu_base.specs.declared.request.Reply.TheVariants as replies
use Rattle.eu_base.specs.DataSpaces.{Spaces}
use Rattle.eu_base.specs.Requests.{Answer, then_asked}
use Rattle.elan_types.specs.declared.core_phrase.Exit.{Exit}
use Rattle.elan_types.specs.Eval.{Slot, World, Outcome, Gives, Left, Stopped, OutOfMarks, Asks, bind, spend_at, spend, branch, after_answer, heed, followed, ask_at}

-- ---- one evaluation

-- no answer of a task is asked for
abbrev pub IsOwn : Request → Type 0
IsOwn (requests.Answer of) = ⊥
IsOwn _ = Unit {0}

abbrev pub marks_of : {A : Type 0} → Outcome A → ℕ
marks_of (Gives a v) = v.marks
marks_of (Left e x v) = v.marks
marks_of (Stopped s v) = v.marks
marks_of (OutOfMarks v) = v.marks
marks_of (Asks q v) = v.marks

-- from a world with so many marks and no answers: what is asked costs a mark, and is no answer
abbrev pub Later : {A : Type 0} → ℕ → Outcome A → Type 0
Later m (Gives a v) = (v.marks ≤ m) × (v.replies ≡ [])
Later m (Left e x v) = (v.marks ≤ m) × (v.replies ≡ [])
Later m (Stopped s v) = Unit {0}
Later m (OutOfMarks v) = Unit {0}
Later m (Asks q v) = (v.marks + 1 ≤ m) × IsOwn q

pub later_more : {A : Type 0} (m n : ℕ) (o : Outcome A) → m ≤ n → Later m o → Later n o
later_more m n (Gives a v) le h = let low = h.0 in (omega (arith, le, low), h.1)
later_more m n (Left e x v) le h = let low = h.0 in (omega (arith, le, low), h.1)
later_more m n (Stopped s v) le h = tt
later_more m n (OutOfMarks v) le h = tt
later_more m n (Asks q v) le h = let low = h.0 in (omega (arith, le, low), h.1)

-- It leaves no more marks than there were; and d marks that were spent before pay for what is asked.
pub record One {A : Type 0} (d : ℕ) (w : World) (o : Outcome A) : Type 0 where
  pub falls : marks_of o ≤ w.marks
  pub later : w.replies ≡ [] → Later (w.marks + d) o

-- what needs no mark paid before needs none now
pub loose : {A : Type 0} (w : World) (o : Outcome A) → One 0 w o → One 1 w o
loose w o one = record { falls = one.falls; later = λ none. later_more (w.marks + 0) (w.marks + 1) o (omega arith) (one.later none) }

-- ---- two

-- fewer than k marks are left, or none
abbrev pub Late : {A : Type 0} → ℕ → Outcome A → Type 0
Late k (Gives a v) = v.marks < k
Late k (Left e x v) = v.marks < k
Late k (Stopped s v) = v.marks < k
Late k (OutOfMarks v) = Unit {0}
Late k (Asks q v) = v.marks < k

pub late_of : {A : Type 0} (k : ℕ) (o : Outcome A) → marks_of o < k → Late k o
late_of k (Gives a v) h = h
late_of k (Left e x v) h = h
late_of k (Stopped s v) h = h
late_of k (OutOfMarks v) h = tt
late_of k (Asks q v) h = h

abbrev pub with_extra : Option Answer → List Answer
with_extra None = []
with_extra (Some a) = a ∷ []

module _ (k : ℕ) (ex : Option Answer) where
  -- so many marks more, and the answer behind the others
  abbrev pub up : World → World
  up w = record w { marks = w.marks + k; replies = w.replies ++ with_extra ex }

  -- what was asked is asked still, or what follows the answer; or the evaluation goes on
  abbrev pub AnsweredBy : {A : Type 0} → Option Request → Request → Answer → World → Outcome A → Type 0
  AnsweredBy (Some r) q a w o = o ≡ Asks r (after_answer q a [] (up w))
  AnsweredBy None q a w o = Later (w.marks + k) o

  abbrev pub Asked : {A : Type 0} → Option Answer → Request → World → Outcome A → Type 0
  Asked None q w o = o ≡ Asks q (up w)
  Asked (Some a) q w o = AnsweredBy (then_asked q a.reply) q a w o

  abbrev pub Two : {A : Type 0} → Outcome A → Outcome A → Type 0
  Two (Gives a v) o = o ≡ Gives a (up v)
  Two (Left e x v) o = o ≡ Left e x (up v)
  Two (Stopped s v) o = o ≡ Stopped s (up v)
  Two (OutOfMarks v) o = Late k o
  Two (Asks q v) o = Asked ex q v o

  -- one that has at most b marks, beside one that has more
  pub record Goes {A : Type 0} (b d : ℕ) (f g : World → Outcome A) : Type 0 where
    pub one : (w : World) → One d w (f w)
    pub other : (w : World) → One d w (g w)
    pub two : (w : World) → w.marks ≤ b → Two (f w) (g (up w))

module _ (k : ℕ) (ex : Option Answer) (b : ℕ) where
  pub gives : {A : Type 0} (d : ℕ) (a : A) → Goes k ex b d (Gives a) (Gives a)
  gives d a = record {
    one = λ w. record { falls = omega arith; later = λ none. (omega arith, none) };
    other = λ w. record { falls = omega arith; later = λ none. (omega arith, none) };
    two = λ w low. refl;
  }

  pub leaves : {A : Type 0} (d : ℕ) (e : Exit) (x : Option (List Value)) → Goes k ex {A = A} b d (Left e x) (Left e x)
  leaves d e x = record {
    one = λ w. record { falls = omega arith; later = λ none. (omega arith, none) };
    other = λ w. record { falls = omega arith; later = λ none. (omega arith, none) };
    two = λ w low. refl;
  }

  pub stops : {A : Type 0} (d : ℕ) (s : Stop) → Goes k ex {A = A} b d (Stopped s) (Stopped s)
  stops d s = record {
    one = λ w. record { falls = omega arith; later = λ none. tt };
    other = λ w. record { falls = omega arith; later = λ none. tt };
    two = λ w low. refl;
  }

  -- what stands in the world but marks and answers is the same in both
  pub reads : {A V : Type 0} (d : ℕ) (r : List Slot → List Slot → Spaces → V) (f g : V → World → Outcome A) → ((v : V) → Goes k ex b d (f v) (g v))
      → Goes k ex b d (λ w. f (r w.store w.packets w.spaces) w) (λ w. g (r w.store w.packets w.spaces) w)
  reads d r f g h = record {
    one = λ w. (h (r w.store w.packets w.spaces)).one w;
    other = λ w. (h (r w.store w.packets w.spaces)).other w;
    two = λ w low. (h (r w.store w.packets w.spaces)).two w low;
  }

  pub reads_world : {A V : Type 0} (d : ℕ) (r : World → V) (f g : V → World → Outcome A) → ((w : World) → r (up k ex w) ≡ r w)
      → ((v : V) → Goes k ex b d (f v) (g v)) → Goes k ex b d (λ w. f (r w) w) (λ w. g (r w) w)
  reads_world d r f g same h = record {
    one = λ w. (h (r w)).one w;
    other = λ w. (h (r w)).other w;
    two = λ w low. subst (λ (v : _). Two k ex (f (r w) w) (g v (up k ex w))) (sym (same w)) ((h (r w)).two w low);
  }

  pub branches : {A : Type 0} (d : ℕ) (c : Bool) (f g f' g' : World → Outcome A) → Goes k ex b d f f' → Goes k ex b d g g'
      → Goes k ex b d (branch c f g) (branch c f' g')
  branches d true f g f' g' h i = h
  branches d false f g f' g' h i = i

  -- and changes alike
  pub sets : {A : Type 0} (d : ℕ) (s p : List Slot → List Slot → Spaces → List Slot) (x : List Slot → List Slot → Spaces → Spaces) (f g : World → Outcome A)
      → Goes k ex b d f g
      → Goes k ex b d
      (λ w. f (record w { store = s w.store w.packets w.spaces; packets = p w.store w.packets w.spaces; spaces = x w.store w.packets w.spaces }))
      (λ w. g (record w { store = s w.store w.packets w.spaces; packets = p w.store w.packets w.spaces; spaces = x w.store w.packets w.spaces }))
  sets d s p x f g h = record {
    one = λ w.
        let o = h.one (record w { store = s w.store w.packets w.spaces; packets = p w.store w.packets w.spaces; spaces = x w.store w.packets w.spaces }) in
        record { falls = o.falls; later = o.later };
    other = λ w.
        let o = h.other (record w { store = s w.store w.packets w.spaces; packets = p w.store w.packets w.spaces; spaces = x w.store w.packets w.spaces }) in
        record { falls = o.falls; later = o.later };
    two = λ w low.
        h.two (record w { store = s w.store w.packets w.spaces; packets = p w.store w.packets w.spaces; spaces = x w.store w.packets w.spaces }) low;
  }

  -- ---- one behind the other

  bind_falls : {A B : Type 0} (n : ℕ) (o : Outcome A) (go : A → World → Outcome B) → marks_of o ≤ n → ((a : A) (v : World) → marks_of (go a v) ≤ v.marks)
      → marks_of (bind o go) ≤ n
  bind_falls n (Gives a v) go low h = let more = h a v in omega (arith, low, more)
  bind_falls n (Left e x v) go low h = low
  bind_falls n (Stopped s v) go low h = low
  bind_falls n (OutOfMarks v) go low h = low
  bind_falls n (Asks q v) go low h = low

  bind_later : {A B : Type 0} (m : ℕ) (o : Outcome A) (go : A → World → Outcome B) → ((a : A) (v : World) → One 0 v (go a v)) → Later m o → Later m (bind o go)
  bind_later m (Gives a v) go h later =
      let low = later.0 in later_more (v.marks + 0) m (go a v) (omega (arith, low)) ((h a v).later later.1)
  bind_later m (Left e x v) go h later = later
  bind_later m (Stopped s v) go h later = tt
  bind_later m (OutOfMarks v) go h later = tt
  bind_later m (Asks q v) go h later = later

  pub bind_one : {A B : Type 0} (w : World) (o : Outcome A) (go : A → World → Outcome B) → ((a : A) (v : World) → One 0 v (go a v)) → One 0 w o → One 0 w (bind o go)
  bind_one w o go h one = record {
    falls = bind_falls w.marks o go one.falls (λ a v. (h a v).falls);
    later = λ none. bind_later (w.marks + 0) o go h (one.later none);
  }

  bind_late : {A B : Type 0} (o : Outcome A) (go : A → World → Outcome B) → ((a : A) (v : World) → One 0 v (go a v)) → Late k o → Late k (bind o go)
  bind_late (Gives a v) go h late = let low = (h a v).falls in late_of k (go a v) (omega (arith, late, low))
  bind_late (Left e x v) go h late = late
  bind_late (Stopped s v) go h late = late
  bind_late (OutOfMarks v) go h late = tt
  bind_late (Asks q v) go h late = late

  bind_asked : {A B : Type 0} (e : Option Answer) (q : Request) (v : World) (o : Outcome A) (go : A → World → Outcome B)
      → ((a : A) (v : World) → One 0 v (go a v)) → Asked k ex e q v o → Asked k ex e q v (bind o go)
  bind_asked None q v o go h is = ap (λ (x : Outcome _). bind x go) is
  bind_asked (Some a) q v o go h is = by (then_asked q a.reply) is
    where
      by : (r : Option Request) → AnsweredBy k ex r q a v o → AnsweredBy k ex r q a v (bind o go)
      by (Some r) is = ap (λ (x : Outcome _). bind x go) is
      by None is = bind_later (v.marks + k) o go h is

  bind_two : {A B : Type 0} (o o' : Outcome A) (go go' : A → World → Outcome B) → ((a : A) → Goes k ex b 0 (go a) (go' a)) → marks_of o ≤ b
      → Two k ex o o' → Two k ex (bind o go) (bind o' go')
  bind_two (Gives a v) o' go go' h low is =
      subst (λ (x : Outcome _). Two k ex (go a v) (bind x go')) (sym is) ((h a).two v low)
  bind_two (Left e x v) o' go go' h low is = ap (λ (x : Outcome _). bind x go') is
  bind_two (Stopped s v) o' go go' h low is = ap (λ (x : Outcome _). bind x go') is
  bind_two (OutOfMarks v) o' go go' h low is = bind_late o' go' (λ a v. (h a).other v) is
  bind_two (Asks q v) o' go go' h low is = bind_asked ex q v o' go' (λ a v. (h a).other v) is

  pub binds : {A B : Type 0} (f f' : World → Outcome A) (go go' : A → World → Outcome B) → Goes k ex b 0 f f' → ((a : A) → Goes k ex b 0 (go a) (go' a))
      → Goes k ex b 0 (λ w. bind (f w) go) (λ w. bind (f' w) go')
  binds f f' go go' h i = record {
    one = λ w. bind_one w (f w) go (λ a v. (i a).one v) (h.one w);
    other = λ w. bind_one w (f' w) go' (λ a v. (i a).other v) (h.other w);
    two = λ w low. let less = (h.one w).falls in bind_two (f w) (f' (up k ex w)) go go' i (omega (arith, low, less)) (h.two w low);
  }

  -- ---- marks

  pub spend_one : {A : Type 0} (f : World → Outcome A) → ((w : World) → One 1 w (f w)) → (w : World) (n : ℕ) → w.marks ≡ n → One 0 w (spend_at n w f)
  spend_one f h w zero is = record { falls = omega arith; later = λ none. tt }
  spend_one f h w (suc m) is =
      let o = h (record w { marks = m }) in
      let low = o.falls in
      record {
        falls = omega (arith, low, is);
        later = λ none. later_more (m + 1) (w.marks + 0) (f (record w { marks = m })) (omega (arith, is)) (o.later none);
      }

  pub spend_late : {A : Type 0} (f : World → Outcome A) → ((w : World) → One 1 w (f w)) → (w : World) (n : ℕ) → n ≤ k → Late k (spend_at n w f)
  spend_late f h w zero le = tt
  spend_late f h w (suc m) le =
      let low = (h (record w { marks = m })).falls in late_of k (f (record w { marks = m })) (omega (arith, low, le))

  -- behind a mark there are fewer
  pub spends_below : {A : Type 0} (f g : World → Outcome A) → ((w : World) → One 1 w (f w)) → ((w : World) → One 1 w (g w))
      → ((m : ℕ) → m < b → (w : World) → w.marks ≤ m → Two k ex (f w) (g (up k ex w))) → Goes k ex b 0 (spend f) (spend g)
  spends_below f g one other two = record {
    one = λ w. spend_one f one w w.marks refl;
    other = λ w. spend_one g other w w.marks refl;
    two = λ w low. by w w.marks refl low;
  }
    where
      by : (w : World) (n : ℕ) → w.marks ≡ n → w.marks ≤ b → Two k ex (spend_at n w f) (spend_at (w.marks + k) (up k ex w) g)
      by w zero is low = spend_late g other (up k ex w) (w.marks + k) (omega (arith, is))
      by w (suc m) is low =
          let more : w.marks + k ≡ suc (m + k) = omega (arith, is) in
          subst (λ (n : ℕ). Two k ex (f (record w { marks = m })) (spend_at n (up k ex w) g)) (sym more)
          (two m (omega (arith, low, is)) (record w { marks = m }) (omega arith))

  pub spends : {A : Type 0} (f g : World → Outcome A) → Goes k ex b 1 f g → Goes k ex b 0 (spend f) (spend g)
  spends f g h = spends_below f g h.one h.other (λ m less w low. h.two w (omega (arith, less, low)))

  -- with fewer marks too
  pub lower : {A : Type 0} (m d : ℕ) (f g : World → Outcome A) → m ≤ b → Goes k ex b d f g → Goes k ex m d f g
  lower m d f g le h = record { one = h.one; other = h.other; two = λ w low. h.two w (omega (arith, low, le)) }

  -- ---- what becomes of an outcome

  pub maps : {A B : Type 0} (mp : Outcome A → Outcome B) → ((o : Outcome A) → marks_of (mp o) ≤ marks_of o) → ((m : ℕ) (o : Outcome A) → Later m o → Later m (mp o))
      → ((o o' : Outcome A) → Two k ex o o' → Two k ex (mp o) (mp o')) → (f g : World → Outcome A) → Goes k ex b 0 f g
      → Goes k ex b 0 (λ w. mp (f w)) (λ w. mp (g w))
  maps mp low later two f g h = record {
    one = λ w. keeps w (f w) (h.one w);
    other = λ w. keeps w (g w) (h.other w);
    two = λ w less. two (f w) (g (up k ex w)) (h.two w less);
  }
    where
      keeps : (w : World) (o : Outcome _) → One 0 w o → One 0 w (mp o)
      keeps w o one = record {
        falls = let a = low o in let c = one.falls in omega (arith, a, c);
        later = λ none. later (w.marks + 0) o (one.later none);
      }

  pub loosely : {A : Type 0} (f g : World → Outcome A) → Goes k ex b 0 f g → Goes k ex b 1 f g
  loosely f g h = record {
    one = λ w. loose w (f w) (h.one w);
    other = λ w. loose w (g w) (h.other w);
    two = h.two;
  }

  -- ---- answers

  module _ {A : Type 0} (go go' : Reply → World → Outcome A) (h : (r : Reply) → Goes k ex b 0 (go r) (go' r)) where
    heeds : (r : Reply) → Goes k ex b 0 (heed r go) (heed r go')
    heeds (replies.Stopped s) = stops 0 s
    heeds replies.Done = h replies.Done
    heeds (replies.Text t) = h (replies.Text t)
    heeds (replies.Task n) = h (replies.Task n)
    heeds (replies.Truth t) = h (replies.Truth t)
    heeds replies.Taken = h replies.Taken
    heeds (replies.Receipt z) = h (replies.Receipt z)
    heeds (replies.Message code from space) = h (replies.Message code from space)

    ask_falls : (gone : Reply → World → Outcome A) → ((r : Reply) (w : World) → marks_of (heed r gone w) ≤ w.marks) → (as' : List Answer) (q : Request) (w : World)
        → marks_of (ask_at as' q w gone) ≤ w.marks
    ask_falls gone low [] q w = omega arith
    ask_falls gone low (a ∷ as') q w = by (λ r. ask_falls gone low as' r (after_answer q a as' w)) (then_asked q a.reply)
      where
        by : ((r : Request) → marks_of (ask_at as' r (after_answer q a as' w) gone) ≤ w.marks) → (o : Option Request)
            → marks_of (followed o a.reply (λ q w. ask_at as' q w gone) gone (after_answer q a as' w)) ≤ w.marks
        by rest (Some r) = rest r
        by rest None = low a.reply (after_answer q a as' w)

    ask_one : (gone : Reply → World → Outcome A) → ((r : Reply) (w : World) → marks_of (heed r gone w) ≤ w.marks) → (q : Request) → IsOwn q → (w : World)
        → One 1 w (ask_at w.replies q w gone)
    ask_one gone low q own w = record {
      falls = ask_falls gone low w.replies q w;
      later = λ none. subst (λ (as' : List Answer). Later (w.marks + 1) (ask_at as' q w gone)) (sym none) (omega arith, own);
    }

    ask_two : (as' : List Answer) (q : Request) (w : World) → w.marks ≤ b → Two k ex (ask_at as' q w go) (ask_at (as' ++ with_extra ex) q (up k ex w) go')
    ask_two [] q w low = by ex
      where
        then' : (a : Answer) (o : Option Request)
            → AnsweredBy k ex o q a w (followed o a.reply (λ q w. ask_at [] q w go') go' (after_answer q a [] (up k ex w)))
        then' a (Some r) = refl
        then' a None =
            later_more (w.marks + k + 0) (w.marks + k) (heed a.reply go' (after_answer q a [] (up k ex w))) (omega arith)
            (((heeds a.reply).other (after_answer q a [] (up k ex w))).later refl)

        by : (e : Option Answer) → Asked k ex e q w (ask_at (with_extra e) q (up k ex w) go')
        by None = refl
        by (Some a) = then' a (then_asked q a.reply)
    ask_two (a ∷ as') q w low = by (λ r. ask_two as' r (after_answer q a as' w) low) (then_asked q a.reply)
      where
        by : ((r : Request)
            → Two k ex (ask_at as' r (after_answer q a as' w) go) (ask_at (as' ++ with_extra ex) r (up k ex (after_answer q a as' w)) go')) → (o : Option Request)
            → Two k ex (followed o a.reply (λ q w. ask_at as' q w go) go (after_answer q a as' w))
            (followed o a.reply (λ q w. ask_at (as' ++ with_extra ex) q w go') go' (after_answer q a (as' ++ with_extra ex) (up k ex w)))
        by rest (Some r) = rest r
        by rest None = (heeds a.reply).two (after_answer q a as' w) low

    pub asks : (q : Request) → IsOwn q → Goes k ex b 1 (λ w. ask_at w.replies q w go) (λ w. ask_at w.replies q w go')
    asks q own = record {
      one = λ w. ask_one go (λ r w. ((heeds r).one w).falls) q own w;
      other = λ w. ask_one go' (λ r w. ((heeds r).other w).falls) q own w;
      two = λ w low. ask_two w.replies q w low;
    }
