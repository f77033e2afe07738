-- Which call brought a program from FILE's own code to other code, as that of a library.
use Rattle.std.specs.Prelude.{ℕ, zero, suc, ◌-◌, ◌&&◌, nat_le, nat_lt, Bool, if◌then◌else◌, Option, Some, None}
use Rattle.std.specs.Option.{option_or}
use Rattle.bpf_steps.specs.State.{State, depth, frame}
use Rattle.bpf_steps.specs.declared.frame.Frame.{Frame}
use Rattle.bpf_trace.specs.declared.own_code.OwnCode.{OwnCode}

-- A slot is of FILE's own code.
abbrev pub is_own : OwnCode → ℕ → Bool
is_own own slot = nat_le own.first slot && nat_lt slot own.behind

-- The slot of the call whose frame it is, where that is FILE's own. A call has one slot, before that to which it returns.
abbrev pub own_call : OwnCode → Option Frame → Option ℕ
own_call own None = None
own_call own (Some f) = if is_own own (f.return_pc - 1) then Some (f.return_pc - 1) else None

-- The first such of the n outermost frames, from the innermost of them on.
abbrev pub call_among : OwnCode → State → ℕ → Option ℕ
call_among own x zero = None
call_among own x (suc n) = option_or (own_call own (frame x (depth x - suc n))) (call_among own x n)

-- That of a state: none where it stands in FILE's own code.
unfoldable pub call_of : OwnCode → State → Option ℕ
call_of own x = if is_own own x.pc then None else call_among own x (depth x)
