use Rattle.std.proofs.Common.{◌≡◌, take, min}
use Rattle.std.specs.Str.Parse.{AllDigits, digits_value}
use Rattle.bpf_isa.proofs.maps.numeral_value.Given as goal

abbrev pub invariant-loop-byte : goal.invariant-loop-byte
invariant-loop-byte l = record { digits : AllDigits 10 (take l.byte-index l.digits); value : l.value ≡ min (digits_value 10 (take l.byte-index l.digits)) 4294967295 }
