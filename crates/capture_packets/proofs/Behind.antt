-- What follows packets of a capture, by the places where they begin.
use Rattle.std.proofs.Common.{ℕ, suc, ◌≡◌, ◌∙◌, ◌-◌, ◌==◌, ◌||◌, ◌<◌, Bool, true, false, List, [], drop, length, nat_lt, Option, Some, None, refl, arith}
use Rattle.std.proofs.lemmas.Bool.Decides.{nat_tests}
use Rattle.std.specs.Prelude.{if◌then◌else◌, is_some}
use Rattle.std.specs.Option.{option_and_then}
use Rattle.input_texts.specs.Captures.{AreStarts, begun_at, first_packet, order_of, packet_in, packet_of, rest}
use Rattle.input_texts.specs.declared.capture.Order.{Order}
use Rattle.capture_packets.specs.Headers.{behind, behind_by, is_capture}

nothing : false ≡ true → ⊥
nothing is = cc

by-order : (file starts : List ℕ) (k : ℕ) (found : Option Order) → order_of file ≡ found → is_some found ≡ true → AreStarts file starts
    → behind_by found file k ≡ begun_at file starts k
by-order file starts k (Some o) is some are = are o is k
by-order file starts k None is some are = absurd (nothing some)

pub behind-is : (file starts : List ℕ) (k : ℕ) → is_capture file ≡ true → AreStarts file starts → behind file k ≡ begun_at file starts k
behind-is file starts k some are = by-order file starts k (order_of file) refl some are

-- behind all of them there is no packet
cut-or-none : (o : Order) (short : Bool) (s : List ℕ) → s ≡ [] → (if (false || short) then None else first_packet o s) ≡ None
cut-or-none o true s is = refl
cut-or-none o false s is = rw is refl

none-by : (file starts : List ℕ) (found : Option Order) → order_of file ≡ found → AreStarts file starts
    → option_and_then (packet_of (suc (length starts)) file) found ≡ None
none-by file starts None is are = refl
none-by file starts (Some o) is are =
    let out : nat_lt (length starts) (length starts) ≡ false = grind (arith, nat_tests) in
    let left = are o is (length starts) in
    let more : (suc (length starts) == 0) ≡ false = grind (arith, nat_tests) in
    let one : suc (length starts) - 1 ≡ length starts = omega arith in
    rw (more, one) (cut-or-none o (nat_lt (length file) 24) _ (left ∙ rw out refl))

pub none-behind : (file starts : List ℕ) → AreStarts file starts → packet_in file (suc (length starts)) ≡ None
none-behind file starts are = none-by file starts (order_of file) refl are

-- where the capture's own header isn't whole, either
short-by : (file : List ℕ) (number : ℕ) (zero short : Bool) (found : Option Order) → short ≡ true
    → option_and_then (λ o. if zero || short then None else first_packet o (rest o (drop 24 file) (number - 1))) found ≡ None
short-by file number zero short None is = refl
short-by file number true short (Some o) is = refl
short-by file number false short (Some o) is = rw is refl

pub none-short : (file : List ℕ) (number : ℕ) → length file < 24 → packet_in file number ≡ None
none-short file number low =
    let short : nat_lt (length file) 24 ≡ true = grind (arith, nat_tests) in
    short-by file number (number == 0) (nat_lt (length file) 24) (order_of file) short
