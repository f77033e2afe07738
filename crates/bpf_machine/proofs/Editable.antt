-- What is so where an edit can be made.
use Rattle.std.proofs.Common.{◌≡◌, ◌<◌, ℕ, Bool, true, false, List, Option, Some, None, length, refl, arith}
use Rattle.std.proofs.lemmas.Bool.Decides.{nat_tests}
use Rattle.std.specs.Prelude.{IsSome, nat_lt, is_some, slice_get}
use Rattle.bpf_isa.specs.Programs.{IsStart, insn_at}
use Rattle.bpf_machine.specs.declared.edit.Edit.TheVariants as edit
use Rattle.bpf_machine.specs.declared.edit.EditFault.{EditFault}
use Rattle.bpf_machine.specs.declared.edit.EditFault.TheVariants.{AddressNotPresent, RegisterNotWritable, NoStart, NoCell}
use Rattle.bpf_machine.specs.Edits.{IsEditable, has_cell, unless}
use Rattle.bpf_steps.specs.Regions.{index_of}
use Rattle.bpf_steps.specs.State.{State}

holds : (b : Bool) (fault : EditFault) → unless b fault ≡ None → b ≡ true
holds true fault e = refl
holds false fault e = cc

is_there : {X : Type 0} (found : Option X) → is_some found ≡ true → IsSome found
is_there None e = cc
is_there (Some x) e = refl

pub able_register : (x : State) (r value : ℕ) → IsEditable x (edit.Register r value) → r < 10
able_register x r value able =
    let low : nat_lt r 10 ≡ true = holds (nat_lt r 10) RegisterNotWritable able in
    grind (arith, nat_tests)

pub able_bytes : (x : State) (a : ℕ) (bytes : List ℕ) → IsEditable x (edit.Bytes a bytes) → IsSome (index_of x.memory a (length bytes))
able_bytes x a bytes able = is_there (index_of x.memory a (length bytes)) (holds (is_some (index_of x.memory a (length bytes))) AddressNotPresent able)

pub able_cell : (x : State) (map index : ℕ) (bytes : List ℕ) → IsEditable x (edit.Cell map index bytes) → has_cell (slice_get x.program.maps map) index (length bytes) ≡ true
able_cell x map index bytes able = holds (has_cell (slice_get x.program.maps map) index (length bytes)) NoCell able

pub able_pc : (x : State) (slot : ℕ) → IsEditable x (edit.Pc slot) → IsStart x.program slot
able_pc x slot able = is_there (insn_at x.program slot) (holds (is_some (insn_at x.program slot)) NoStart able)
