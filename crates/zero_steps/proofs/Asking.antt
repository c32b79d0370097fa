-- A request is made with the operands on top.
use Rattle.std.proofs.Common.{◌≡◌, ℕ, ◌-◌, ◌<◌, ◌≤◌, false, List, [], map, length, take, drop, Some, sym, ap, ◌∙◌}
use Rattle.std.specs.Prelude.{reverse}
use Rattle.eu_base.specs.declared.request.RequestName.{RequestName}
use Rattle.eu_base.specs.declared.request.Request.{Request}
use Rattle.eu_base.specs.Requests.{request_size, sends, request_of}
use Rattle.code_form.specs.Program.{Program}
use Rattle.code_form.specs.declared.instr.Instr.TheVariants.{Ask}
use Rattle.code_form.specs.declared.operand.Operand.{Operand}
use Rattle.code_form.specs.declared.halt.Halt.TheVariants as halts
use Rattle.code_form.specs.Machine.{Mem, Position, free, asking, After, Asks, Spends, On, Over, on_operands, value_in, asks_for, instruction, rest_at, stage}
use Rattle.zero_state.specs.Stepping.{scene_of}
use Rattle.zero_state.proofs.Making.{unspent, spent}
use Rattle.zero_state.proofs.Stacks.{taken_all}

-- without marks a request is due, and nothing is asked yet
pub due : (n : ℕ) (ops : List Operand) (after : List Operand → List Operand → After) (c : Position) (mem : Mem) (m : ℕ) → n ≤ length ops → m ≡ 0
    → Over (rest_at halts.Marked (free c) (scene_of mem m)) ≡ stage (on_operands n [] ops (λ os rest. Spends (after os rest))) c (scene_of mem m)
due n ops after c mem m le e =
    unspent m (after (reverse (take n ops)) (drop n ops)) c mem e
    ∙ ap (λ x. stage x c (scene_of mem m)) (sym (taken_all n ops (λ os rest. Spends (after os rest)) le))

-- a request that sends no data space is made with the operands on top, and costs a mark
pub asked : (p : Program) (name : RequestName) (c : Position) (mem : Mem) (m : ℕ) (q : Request) (top : List Operand) → request_size name ≤ length c.ops
    → sends name ≡ false → 0 < m → top ≡ reverse (take (request_size name) c.ops) → q ≡ request_of name (map value_in top)
    → On (asking c q) (scene_of mem (m - 1)) ≡ stage (instruction p (Some (Ask name)) c mem) c (scene_of mem m)
asked p name c mem m q top le plain lt is made =
    let n = request_size name in
    let asks : Request → After = λ q. Asks c q mem in
    spent m (asks q) c mem lt
    ∙ ap (λ q. stage (Spends (asks q)) c (scene_of mem m)) (made ∙ ap (λ os. request_of name (map value_in os)) is)
    ∙ ap (λ b. stage (Spends (asks_for b name (reverse (take n c.ops)) c mem)) c (scene_of mem m)) (sym plain)
    ∙ ap (λ x. stage x c (scene_of mem m)) (sym (taken_all n c.ops (λ os ops. Spends (asks_for (sends name) name os c mem)) le))
