-- Scaffolding: how the parts of an item are read.
use Rattle.std.specs.Prelude.{◌≡◌, ◌≤◌, ◌<◌, ◌⊎◌, length, ℕ, Bool, true, false, List, [], ◌∷◌, ◌++◌, Option, Some, None, Result, Ok, Err}
use Rattle.counted_io.specs.Counted.{Tally}
use Rattle.bpf_remote.specs.Packets.{Buffer, Holds, IsBody, IsNoise, IsCut, IsCutSum, IsPacket, is_sum, longest_body}
use Rattle.bpf_remote.specs.Streams.{Reads, Fails, IsAll, IsNearer}
use Rattle.bpf_remote.specs.declared.stream.Item.{Item}
use Rattle.bpf_remote.specs.declared.stream.Item.TheVariants.{Packet, Damaged, End}
use Rattle.bpf_remote.specs.declared.stream.Start.{Start}
use Rattle.bpf_remote.specs.declared.stream.Start.TheVariants as start

-- Which byte ends the noise: `$`, `-`, or none.
abbrev pub mark_of : Start → List ℕ
mark_of start.Packet = 36 ∷ []
mark_of start.Again = 45 ∷ []
mark_of start.Missing = []

abbrev pub IsLast : {R : Type 0} → (R → Option (List ℕ)) → Tally R → List ℕ → Start → Type 0
IsLast remaining old noise start.Missing = IsAll remaining old noise
IsLast remaining old noise _ = Unit {0}

-- Noise was read, up to its end.
abbrev pub FindsStart : {R E : Type 0} → (R → Option (List ℕ)) → Tally R → Tally R → Result Start E → Type 0
FindsStart remaining old new (Ok start) = (noise : List ℕ) × IsNoise noise × Reads remaining old new (noise ++ mark_of start) × IsLast remaining old noise start × IsNearer old new
FindsStart remaining old new (Err fault) = (noise : List ℕ) × IsNoise noise × Fails remaining old new noise

-- A body was read, with the `#` behind it or up to the end.
abbrev pub ReadsBody : {R E : Type 0} → (R → Option (List ℕ)) → Tally R → Tally R → Buffer → Result Bool E → Type 0
ReadsBody remaining old new buffer (Ok true) = (body : List ℕ) × IsBody body × Reads remaining old new (body ++ 35 ∷ []) × Holds buffer body × IsNearer old new
ReadsBody remaining old new buffer (Ok false) = (body : List ℕ) × IsBody body × Reads remaining old new body × IsAll remaining old body × IsNearer old new
ReadsBody remaining old new buffer (Err fault) = (body : List ℕ) × IsBody body × Fails remaining old new body

-- The two bytes of a sum were read, or up to the end.
abbrev pub ReadsSum : {R E : Type 0} → (R → Option (List ℕ)) → Tally R → Tally R → Result (Option (ℕ × ℕ)) E → Type 0
ReadsSum remaining old new (Ok (Some pair)) = Reads remaining old new (pair.0 ∷ pair.1 ∷ []) × IsNearer old new
ReadsSum remaining old new (Ok None) = (part : List ℕ) × IsCutSum (35 ∷ part) × Reads remaining old new part × IsAll remaining old part × IsNearer old new
ReadsSum remaining old new (Err fault) = (part : List ℕ) × IsCutSum (35 ∷ part) × Fails remaining old new part

-- What stands behind `$` was read.
abbrev pub ReadsPacket : {R E : Type 0} → (R → Option (List ℕ)) → Tally R → Tally R → Buffer → Result Item E → Type 0
ReadsPacket remaining old new buffer (Ok item) = (tail : List ℕ) × Reads remaining old new tail × IsPacket item tail buffer
    × (item ≡ End → IsAll remaining old tail) × IsNearer old new
ReadsPacket remaining old new buffer (Err fault) = (tail : List ℕ) × Fails remaining old new tail × IsCut tail

-- A whole packet is told from a damaged one by its sum and its length.
abbrev pub IsSorted : List ℕ → ℕ → ℕ → Item → Type 0
IsSorted body high low Packet = (is_sum high low body ≡ true) × (length body ≤ longest_body)
IsSorted body high low Damaged = (is_sum high low body ≡ false) ⊎ (longest_body < length body)
IsSorted body high low _ = ⊥
