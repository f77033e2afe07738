-- Stubs as the command line lists them: `5=0,get_current_pid_tgid=-1`. bpfdb's own choice.
use Rattle.std.specs.Prelude.{ℕ, ◌-◌, ◌%◌, ◌==◌, nat_lt, Bool, ◌&&◌, not, if◌then◌else◌, List, [], ◌∷◌, ◌++◌, Option, Some, None, is_some, Result, Ok, Err, length, take, drop, codes, slice_index_or}
use Rattle.std.specs.List.{position_or_len, before_first, after_first}
use Rattle.std.specs.Str.{bytes_eq}
use Rattle.counted_io.specs.Numerals.{natural}
use Rattle.bpf_btf.specs.Maps.{last_below}
use Rattle.bpf_isa.specs.Maps.{items_of}
use Rattle.bpf_link.specs.declared.fault.LinkFault.{LinkFault}
use Rattle.bpf_link.specs.declared.fault.LinkFault.TheVariants.{StubList, StubRange, StubTwice, ManyStubs}
use Rattle.bpf_link.specs.declared.stubs.Stub.{Stub}
use Rattle.bpf_link.specs.Helpers.{helper_name}
use Rattle.bpf_link.specs.Objects.{provided}
use Rattle.bpf_link.specs.Plans.{after, steps}
use Rattle.bpf_link.specs.Stubs.{answer_of}

-- A number that was read, if it is below a bound.
abbrev pub number_below : ℕ → Option ℕ → Result ℕ LinkFault
number_below bound None = Err StubList
number_below bound (Some n) = provided (nat_lt n bound) StubRange (Ok n)

-- The number of the kernel's helper of a name, which may begin with `bpf_`.
abbrev pub has_name : List ℕ → ℕ → Bool
has_name name helper = nat_lt 0 (length name) && bytes_eq (helper_name helper) name

unfoldable pub without_prefix : List ℕ → List ℕ
without_prefix name = if bytes_eq (take 4 name) (codes "bpf_") then drop 4 name else name

abbrev pub named_helper : List ℕ → Option ℕ
named_helper name = last_below (has_name name) 212

abbrev pub or_malformed : Option ℕ → Result ℕ LinkFault
or_malformed None = Err StubList
or_malformed (Some helper) = Ok helper

-- A helper: its number of 32 bits, in decimal digits, or 0x and hexadecimal ones; or its name.
unfoldable pub helper_in : List ℕ → Result ℕ LinkFault
helper_in text =
    if is_some (natural text) then number_below 4294967296 (natural text) else or_malformed (named_helper (without_prefix text))

-- What answers it: -2147483648 to 2147483647, in two's complement.
abbrev pub value_in : List ℕ → Result ℕ LinkFault
value_in text =
    if bytes_eq (take 1 text) (codes "-")
    then after (number_below 2147483649 (natural (drop 1 text))) (λ n. Ok ((4294967296 - n) % 4294967296))
    else number_below 2147483648 (natural text)

-- The sign between the two.
abbrev pub is_equals : ℕ → Bool
is_equals byte = byte == 61

-- A stub as it is written: the helper, the first `=`, and the value.
abbrev pub stub_in : List ℕ → Result Stub LinkFault
stub_in item =
    provided (nat_lt (position_or_len is_equals item) (length item)) StubList
    (after (helper_in (before_first is_equals item)) (λ helper.
    after (value_in (after_first is_equals item)) (λ value.
    Ok (record { helper = helper; value = value }))))

-- The most stubs of a list.
abbrev pub most_stubs : ℕ
most_stubs = 16

-- One more stub. Each helper has one.
abbrev pub with_stub : Stub → List Stub → Result (List Stub) LinkFault
with_stub stub stubs =
    provided (not (is_some (answer_of stubs stub.helper))) StubTwice
    (provided (nat_lt (length stubs) most_stubs) ManyStubs (Ok (stubs ++ stub ∷ [])))

abbrev pub with_item : List (List ℕ) → ℕ → List Stub → Result (List Stub) LinkFault
with_item items i stubs = after (stub_in (slice_index_or items i [])) (λ stub. with_stub stub stubs)

-- The stubs of a text, whose items stand between commas; or the fault of the first item that has one.
abbrev pub stubs_in : List ℕ → Result (List Stub) LinkFault
stubs_in text = steps (with_item (items_of text)) [] (length (items_of text))
