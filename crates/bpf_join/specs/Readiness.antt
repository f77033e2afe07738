-- Scaffolding: what two objects are that are joined. No public contract cites this.
use Rattle.std.specs.Prelude.{◌≡◌, ◌≤◌, ◌<◌, ℕ, ◌+◌, List, length}
use Rattle.bpf_isa.specs.Checker.{most_slots}
use Rattle.bpf_link.specs.Parts.{slots_in}
use Rattle.bpf_link.specs.declared.plan.Plan.{Plan}
use Rattle.bpf_join.specs.Codes.{own_slots}
use Rattle.bpf_join.specs.Joined.{body, both_parts, own_part, parts, section_count, with_code, with_names}
use Rattle.bpf_join.specs.Tables.{InOrder}
use Rattle.bpf_join.specs.declared.joined.Body.{Body}

-- They have room, and a section is that of the first one's symbols.
pub record AreReady (first second : Plan) (table : ℕ) : Type 0 where
  pub table_is : table < length first.object.sections
  pub few : section_count first second < 0xff00
  pub code : first.parts.code.section < length first.object.sections
  pub header : 64 ≤ length first.object.bytes
  pub slots : own_slots first + slots_in second.parts.code ≤ most_slots
  pub symbols : length first.symbols + length second.symbols < 4294967296

-- The parts of a joined object are put together.
pub record IsBody (first second : Plan) (places records : List ℕ) (it : Body) : Type 0 where
  pub bytes : it.bytes.items ≡ body first second places records
  pub places_are : it.places ≡ parts first second places records
  pub ordered : InOrder it.places
  pub header : 64 ≤ length it.bytes.items

-- Those up to the strings are, and nothing behind them.
pub record IsBegun (first second : Plan) (it : Body) : Type 0 where
  pub bytes : it.bytes.items ≡ with_names first second
  pub second_is : it.places.second ≡ length (own_part first)
  pub code : it.places.code ≡ length (both_parts first second)
  pub strings : it.places.strings ≡ length (with_code first second)
  pub symbols : it.places.symbols ≡ length (with_names first second)
  pub ordered : InOrder it.places
  pub header : length first.object.bytes ≤ length it.bytes.items
