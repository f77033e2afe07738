-- A program with other maps, with which the checker accepts its words.
use Rattle.std.proofs.Common.{◌≡◌, inl, inr, ℕ, List, Option, Some, ap}
use Rattle.std.specs.Prelude.{IsSome, is_some}
use Rattle.bpf_isa.specs.declared.instruction.Insn.{Insn}
use Rattle.bpf_isa.specs.declared.maps.MapShape.{MapShape}
use Rattle.bpf_isa.specs.declared.fault.PieceFault.TheVariants.{NoMap}
use Rattle.bpf_isa.specs.Checker.{piece_at, HasNoFault, IsAccepted, MapExists}
use Rattle.bpf_isa.specs.Maps.{AreMaps}
use Rattle.bpf_isa.specs.Words.{IsWord}
use Rattle.bpf_isa.specs.Programs.{Checked, IsProgram}
use Rattle.bpf_isa.proofs.MapDemands.{decided}

some_of : {o : Option Insn} {i : Insn} → o ≡ Some i → IsSome o
some_of e = ap is_some e

named : (bytes : List ℕ) (maps : List MapShape) (p : ℕ) (insn : Insn) → IsWord insn (piece_at bytes p) → HasNoFault bytes maps p → MapExists maps insn
named bytes maps p insn whole clear = elim (decided maps insn) [ inl exists ↦ exists | inr missing ↦ absurd (clear.none NoMap (insn, whole.reads, missing)) ]

pub with_other_maps : (program : Checked) (maps : List MapShape) → IsProgram program → AreMaps maps → IsAccepted program.bytes maps → IsProgram (record program { maps = maps })
with_other_maps program maps is tables accepted = record {
  first = is.first;
  short = is.short;
  falls = is.falls;
  lands = is.lands;
  spares = is.spares;
  helpers = is.helpers;
  names = λ p i e. named program.bytes maps p i (is.words p i e) (accepted.clear p ((is.starts p).0 (some_of e)));
  tables = tables;
  accepted = accepted;
  slots = is.slots;
  starts = is.starts;
  words = is.words;
}
