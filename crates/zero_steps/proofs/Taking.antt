-- An operation takes the values on top.
use Rattle.std.proofs.Common.{◌≡◌, ℕ, suc, ◌+◌, ◌-◌, ◌<◌, ◌≤◌, List, [], ◌∷◌, ◌++◌, sym, ap, ◌∙◌, subst, arith}
use Rattle.std.specs.Prelude.{reverse}
use Rattle.std.proofs.lemmas.List.{reverse-append}
use Rattle.eu_base.specs.declared.value.Value.{Value}
use Rattle.code_form.specs.declared.operand.Operand.{Operand}
use Rattle.code_form.specs.declared.operand.Operand.TheVariants.{Value as Of}
use Rattle.code_form.specs.Machine.{Move, on_values}
use Rattle.zero_state.specs.Stacked.{Stacked}
use Rattle.zero_steps.specs.Giving.{put_on}
use Rattle.zero_state.specs.Finds.{TopValue, TopValues}

-- so many of these values were taken, and the others are on top
pub record Taken (count k : ℕ) (before ops : List Operand) (values : List Value) : Type 0 where
  pub leads : (go : List Value → List Operand → Move) → on_values count [] before go ≡ on_values (count - k) (reverse values) ops go
  pub finds : TopValues (count - k) ops
  pub back : before ≡ put_on (reverse values) ops

pub none_taken : (count : ℕ) (ops : List Operand) (values : List Value) → values ≡ [] → TopValues count ops → Taken count 0 ops ops values
none_taken count ops values none h =
    let e : count ≡ count - 0 = omega arith in record {
      leads = λ go. ap (λ n. on_values n [] ops go) e ∙ ap (λ vs. on_values (count - 0) (reverse vs) ops go) (sym none);
      finds = subst (λ n. TopValues n ops) e h;
      back = ap (λ vs. put_on (reverse vs) ops) (sym none);
    }

module _ (count k : ℕ) (before ops : List Operand) (values : List Value) (lt : k < count) (taken : Taken count k before ops values) where
  one_more : count - k ≡ suc (count - (k + 1))
  one_more = omega (arith, lt)

  on_top : TopValues (suc (count - (k + 1))) ops
  on_top = subst (λ n. TopValues n ops) one_more taken.finds

  -- one is on top
  pub top_value : TopValue ops
  top_value = record { value = on_top.0; rest = on_top.1.0; top = on_top.1.1 }

  below : (v : Value) (rest : List Operand) → ops ≡ Of v ∷ rest → on_top.1.0 ≡ rest
  below v rest is = let e : Of on_top.0 ∷ on_top.1.0 ≡ Of v ∷ rest = sym on_top.1.1 ∙ is in cc

  -- one more is taken
  pub next_taken : (v : Value) (rest : List Operand) (more : List Value) → ops ≡ Of v ∷ rest → more ≡ values ++ v ∷ []
      → Taken count (k + 1) before rest more
  next_taken v rest more is pushed =
      let turned : reverse more ≡ v ∷ reverse values = ap reverse pushed ∙ reverse-append values (v ∷ []) in record {
        leads =
            λ go. taken.leads go ∙ ap (λ n. on_values n (reverse values) ops go) one_more
            ∙ ap (λ o. on_values (suc (count - (k + 1))) (reverse values) o go) is ∙ ap (λ vs. on_values (count - (k + 1)) vs rest go) (sym turned);
        finds = subst (TopValues (count - (k + 1))) (below v rest is) on_top.1.2;
        back = taken.back ∙ ap (put_on (reverse values)) is ∙ ap (λ vs. put_on vs rest) (sym turned);
      }

-- all are taken
pub all_taken : (count k : ℕ) (before ops : List Operand) (values : List Value) → count ≤ k → Taken count k before ops values
    → (go : List Value → List Operand → Move) → on_values count [] before go ≡ go (reverse values) ops
all_taken count k before ops values le taken go =
    let e : count - k ≡ 0 = omega (arith, le) in
    taken.leads go ∙ ap (λ n. on_values n (reverse values) ops go) e

-- and can be put back
pub taken_back : (count k : ℕ) (values : List Value) (s t : Stacked) → Taken count k s.ops t.ops values → t.frames ≡ s.frames
    → s ≡ record t { ops = put_on (reverse values) t.ops }
taken_back count k values s t taken frames =
    ap (λ ops. record s { ops = ops }) taken.back ∙ ap (λ fs. record t { ops = put_on (reverse values) t.ops; frames = fs }) (sym frames)
