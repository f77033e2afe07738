-- The registers by the numbers that gdb has for them.
use Rattle.std.specs.Prelude.{ℕ, ◌-◌, ◌*◌, ◌==◌, if◌then◌else◌, nat_lt}
use Rattle.bpf_steps.specs.State.{State, register}

-- From 0 on r0 to r10; 11 is pc, which counts bytes, eight a slot; and from 12 on r0 to r10 once more.
abbrev pub value_of : State → ℕ → ℕ
value_of x n = if n == 11 then 8 * x.pc else register x (if nat_lt n 11 then n else n - 12)
