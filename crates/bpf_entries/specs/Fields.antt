-- Fields: how large each part of an entry may be, so that it fits its field in a journal.
use Rattle.std.specs.Prelude.{◌≡◌, ◌≤◌, ◌<◌, ◌^◌, ℕ, List, All, length}
use Rattle.bpf_entries.specs.declared.entry.Entry.{Entry}
use Rattle.bpf_entries.specs.declared.entry.Entry.TheVariants as entry
use Rattle.bpf_entries.specs.Frames.{frame_len}
use Rattle.bpf_entries.specs.Status.{FitsNumber, FitsStatus}

-- A slot, a register, and the bytes of a run, of which there are 1 to `most`. (A number or an address: FitsNumber.)
abbrev pub FitsSlot : ℕ → Type 0
FitsSlot pc = pc < 2 ^ 16

abbrev pub FitsRegister : ℕ → Type 0
FitsRegister r = r ≤ 10

abbrev pub FitsBytes : ℕ → List ℕ → Type 0
FitsBytes most bytes = (1 ≤ length bytes) × (length bytes ≤ most) × All (λ byte. byte < 256) bytes

-- The bytes of a frame.
abbrev pub FitsFrame : List ℕ → Type 0
FitsFrame bytes = (length bytes ≡ frame_len) × All (λ byte. byte < 256) bytes

-- Each part of an entry fits its field. A store overwrites at most 255 bytes, an edit or a map's cell up to 256.
abbrev pub FitsFields : Entry → Type 0
FitsFields (entry.Register pc r value) = FitsSlot pc × FitsRegister r × FitsNumber value
FitsFields (entry.Jump pc) = FitsSlot pc
FitsFields (entry.Call pc old) = FitsSlot pc × FitsFrame old
FitsFields (entry.Return pc saved) = FitsSlot pc × (length saved ≡ 4) × All FitsNumber saved
FitsFields (entry.Store pc a old) = FitsSlot pc × FitsNumber a × FitsBytes 255 old
FitsFields (entry.Fetch pc r value a old) = FitsSlot pc × FitsRegister r × FitsNumber value × FitsNumber a × FitsBytes 255 old
FitsFields (entry.Cell pc r0 a old) = FitsSlot pc × FitsNumber r0 × FitsNumber a × FitsBytes 256 old
FitsFields (entry.Trace pc r0) = FitsSlot pc × FitsNumber r0
FitsFields entry.End = Unit {0}
FitsFields (entry.EditRegister r value) = FitsRegister r × FitsNumber value
FitsFields (entry.EditBytes a old) = FitsNumber a × FitsBytes 256 old
FitsFields (entry.EditPc pc status) = FitsSlot pc × FitsStatus status
