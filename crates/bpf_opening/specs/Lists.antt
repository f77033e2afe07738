-- Registers with their values, as the command line lists them: `r1=0x5,r3=context+4`. bpfdb's own choice.
use Rattle.std.specs.Prelude.{ℕ, zero, suc, ◌+◌, ◌-◌, ◌^◌, nat_le, nat_lt, if◌then◌else◌, List, [], codes, length, take, drop, Option, Some, None, is_some, Result, Ok, Err, slice_index_or, slice_set, get_or}
use Rattle.std.specs.Str.{bytes_eq}
use Rattle.counted_io.specs.Cuts.{after, before, trim}
use Rattle.counted_io.specs.Numerals.{natural}
use Rattle.bpf_isa.specs.Maps.{items_of}
use Rattle.bpf_isa.specs.Registers.{register_named}
use Rattle.bpf_steps.specs.Platform.{context_base, context_limit, frame_len, frame_pointer}
use Rattle.bpf_opening.specs.Openings.{bare}
use Rattle.bpf_opening.specs.declared.fault.OpeningFault.{OpeningFault}
use Rattle.bpf_opening.specs.declared.fault.OpeningFault.TheVariants.{Malformed, OutOfRange, FramePointer, Twice}
use Rattle.bpf_opening.specs.declared.opening.Opening.{Opening}
use Rattle.bpf_opening.specs.declared.registers.Setting.{Setting}

-- What a value leads to, where there is one.
abbrev pub onward : {A B : Type 0} → Result A OpeningFault → (A → Result B OpeningFault) → Result B OpeningFault
onward (Ok a) next = next a
onward (Err fault) next = Err fault

-- A number that was read, if it is at most this.
abbrev pub number_within : ℕ → Option ℕ → Result ℕ OpeningFault
number_within most None = Err Malformed
number_within most (Some n) = if nat_le n most then Ok n else Err OutOfRange

-- The address of the context's byte that n others stand before, or of the end of the longest context; and the address that lies n bytes before the
-- end of the outermost frame, which is r10 there.
abbrev pub context_at : List ℕ → Result ℕ OpeningFault
context_at offset = onward (number_within context_limit (natural offset)) (λ n. Ok (context_base + n))

abbrev pub stack_at : List ℕ → Result ℕ OpeningFault
stack_at offset = onward (number_within frame_len (natural offset)) (λ n. Ok (frame_pointer 0 - n))

unfoldable pub offset_in : List ℕ → Result ℕ OpeningFault
offset_in text =
    if bytes_eq (take 8 text) (codes "context+") then context_at (drop 8 text)
    else if bytes_eq (take 6 text) (codes "stack-") then stack_at (drop 6 text)
    else Err Malformed

unfoldable pub place_in : List ℕ → Result ℕ OpeningFault
place_in text =
    if bytes_eq text (codes "context") then Ok context_base
    else if bytes_eq text (codes "stack") then Ok (frame_pointer 0)
    else offset_in text

-- A value: a number below 2^64, as the session's `set reg` takes it, or such an address.
abbrev pub value_in : List ℕ → Result ℕ OpeningFault
value_in text = if is_some (natural text) then number_within (2 ^ 64 - 1) (natural text) else place_in text

-- The register that a text names, of those that can get a value: r10 can't.
abbrev pub below_ten : Option ℕ → Result ℕ OpeningFault
below_ten None = Err Malformed
below_ten (Some r) = if nat_lt r 10 then Ok r else Err FramePointer

abbrev pub register_in : List ℕ → Result ℕ OpeningFault
register_in text = below_ten (register_named text)

-- An item: the register in front of its first equals sign (61), and the value behind that, with blanks around both.
abbrev pub setting_in : List ℕ → Result Setting OpeningFault
setting_in item =
    onward (register_in (trim (before 61 item))) (λ r.
    onward (value_in (trim (after 61 item))) (λ value.
    Ok (record { register = r; value = value })))

-- One more register has a value. Each has one.
abbrev pub value_of : Opening → ℕ → Option ℕ
value_of opening r = get_or opening.registers r None

abbrev pub with_setting : Setting → Opening → Result Opening OpeningFault
with_setting setting opening =
    if is_some (value_of opening setting.register) then Err Twice
    else Ok (record opening { registers = slice_set opening.registers setting.register (Some setting.value) })

abbrev pub with_item : List ℕ → Opening → Result Opening OpeningFault
with_item item opening = onward (setting_in item) (λ setting. with_setting setting opening)

-- The opening of the first n items of a list; or the fault of the first one that has one.
abbrev pub opening_below : List (List ℕ) → ℕ → Result Opening OpeningFault
opening_below items zero = Ok bare
opening_below items (suc n) = onward (opening_below items n) (with_item (slice_index_or items n []))

abbrev pub opening_in : List ℕ → Result Opening OpeningFault
opening_in text = opening_below (items_of text) (length (items_of text))

-- What a list asks for: nothing where there is none.
abbrev pub asked_opening : Option (List ℕ) → Result Opening OpeningFault
asked_opening None = Ok bare
asked_opening (Some text) = opening_in text

-- Nothing is asked where that is refused.
abbrev pub or_bare : Result Opening OpeningFault → Opening
or_bare (Ok opening) = opening
or_bare (Err fault) = bare
