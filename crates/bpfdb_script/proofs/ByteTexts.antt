-- Bytes that a token writes in hexadecimal.
use Rattle.std.proofs.Common.{◌≡◌, ℕ, ◌<◌, ◌/◌, List, length, None, Result, Ok, Err, refl, arith}
use Rattle.std.specs.Option.{option_and_then}
use Rattle.std.specs.Result.{result_ok}
use Rattle.hex.specs.Hex.{decode_of}
use Rattle.hex.specs.declared.error.FromHexError.{FromHexError}
use Rattle.hex.proofs.HexLemmas.{decode_of-ok}
use Rattle.bpfdb_script.specs.Limits.{longest_bytes}
use Rattle.bpfdb_script.specs.Commands.{byte_string, bytes_of}

-- so many bytes are no byte string
none_of_many : (r : Result (List ℕ) FromHexError) → ((bytes : List ℕ) → r ≡ Ok bytes → longest_bytes < length bytes) → option_and_then byte_string (result_ok r) ≡ None
none_of_many (Err e) h = refl
none_of_many (Ok bytes) h = let many : longest_bytes < length bytes = h bytes refl in grind (arith)

-- too many digits write no byte string
pub too_many_bytes : (digits : List ℕ) → longest_bytes < length digits / 2 → bytes_of digits ≡ None
too_many_bytes digits many = none_of_many (decode_of digits) (λ bytes e. let ok = decode_of-ok digits bytes e in omega (arith, ok.2))
