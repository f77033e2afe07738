-- The helpers that a program may call, by their numbers. bpfdb's own choice (RFC 9669, section 4.3.1, leaves them to the platform).
use Rattle.std.specs.Prelude.{ℕ, ◌==◌, if◌then◌else◌, Option, Some, None}
use Rattle.bpf_isa.specs.declared.helpers.Helper.{Helper}
use Rattle.bpf_isa.specs.declared.helpers.Helper.TheVariants.{Lookup, Update, Trace}

abbrev pub helper_of : ℕ → Option Helper
helper_of number =
    if number == 1 then Some Lookup
    else if number == 2 then Some Update
    else if number == 64 then Some Trace
    else None
