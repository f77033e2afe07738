-- Scaffolding: the parts of an object whose programs are called in turn. No public contract cites this.
use Rattle.std.specs.Prelude.{◌≡◌, ◌≤◌, ◌<◌, ℕ, IfSome, List, Option, length}
use Rattle.bpf_isa.specs.Checker.{most_slots}
use Rattle.bpf_link.specs.Objects.{Elf}
use Rattle.bpf_turns.specs.Calls.{calls_of}
use Rattle.bpf_turns.specs.Objects.{lies, turned_body}
use Rattle.bpf_turns.specs.declared.calls.Call.{Call}
use Rattle.bpf_turns.specs.declared.seats.Seat.{Seat}
use Rattle.bpf_turns.specs.declared.headers.Lies.{Lies}
use Rattle.bpf_turns.specs.declared.file.Parts.{Parts}
use Rattle.bpf_turns.specs.declared.source.Source.{Source}

-- There is room for another section, the symbols are one, and the file has a header.
pub record HasRoom (source : Source) : Type 0 where
  pub few : length source.plan.object.sections < 0xfeff
  pub table : source.table < length source.plan.object.sections
  pub header : 64 ≤ length source.plan.object.bytes

-- The parts lie one behind another.
pub record AreLaid (at : Lies) : Type 0 where
  pub code : at.code ≤ at.symbols
  pub symbols : at.symbols ≤ at.relocations
  pub relocations : at.relocations ≤ at.ext
  pub ext : at.ext ≤ at.end

-- They are put together.
pub record AreParts (source : Source) (seats : List Seat) (ext : List ℕ) (it : Parts) : Type 0 where
  pub bytes : it.bytes.items ≡ turned_body source seats ext
  pub at_is : it.at ≡ lies source seats ext
  pub laid : AreLaid it.at
  pub header : length source.plan.object.bytes ≤ length it.bytes.items

-- The calls of programs, no more than there may be.
pub record AreCalls (object : Elf) (seats : List Seat) (calls : List Call) : Type 0 where
  pub are : calls ≡ calls_of object seats
  pub few : length calls ≤ most_slots

-- A file without its table of sections: its parts are laid out, and it has its header.
pub record IsBody (it : Parts) : Type 0 where
  pub laid : AreLaid it.at
  pub header : 64 ≤ length it.bytes.items

-- A block of a list has a header of eight bytes, and the call of it is one of these.
pub record IsBlockOf (calls : List Call) (block : List ℕ) (call : Option ℕ) : Type 0 where
  pub header : 8 ≤ length block
  pub one : IfSome call (λ k. k < length calls)
