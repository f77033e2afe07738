-- What of a plan's code doesn't count: what isn't reached from the entry.
use Rattle.std.specs.Prelude.{ℕ, zero, suc, ◌+◌, ◌/◌, Bool, List, [], Result, Ok, Err, filter, length}
use Rattle.bpf_link.specs.declared.fault.LinkFault.{LinkFault}
use Rattle.bpf_link.specs.declared.layout.RelocationEntry.{RelocationEntry}
use Rattle.bpf_link.specs.declared.parts.Part.{Part}
use Rattle.bpf_link.specs.declared.parts.Side.{Side}
use Rattle.bpf_link.specs.declared.parts.Side.TheVariants.{Code, Text}
use Rattle.bpf_link.specs.declared.patch.Patch.{Patch}
use Rattle.bpf_link.specs.declared.plan.Plan.{Plan}
use Rattle.bpf_link.specs.Data.{numbered}
use Rattle.bpf_link.specs.Links.{unlinked, with_patch}
use Rattle.bpf_link.specs.Parts.{first_of, part_of}
use Rattle.bpf_link.specs.Patches.{patch_at}
use Rattle.bpf_link.specs.Tables.{relocation_at}
use Rattle.bpf_link.specs.Reach.{is_reached}

-- Words with a relocation done, where it can be.
abbrev pub tried : Result Patch LinkFault → List ℕ → List ℕ
tried (Ok patch) words = with_patch words patch
tried (Err fault) words = words

-- Those of a part below n. Maps have no numbers yet, and calls need none.
abbrev pub all_tried : Plan → Side → List ℕ → ℕ → List ℕ
all_tried plan side words zero = words
all_tried plan side words (suc n) =
    tried (patch_at (numbered plan [] []) side (relocation_at (part_of plan.parts side).relocations n)) (all_tried plan side words n)

-- The code as control goes through it: with its calls.
abbrev pub flow_of : Plan → List ℕ
flow_of plan =
    all_tried plan Text (all_tried plan Code (unlinked plan.parts) (length plan.parts.code.relocations)) (length plan.parts.text.relocations)

-- A relocation of a part whose first slot is the n-th of the program names a slot that is reached.
abbrev pub is_kept : List Bool → ℕ → RelocationEntry → Bool
is_kept reach first relocation = is_reached reach (first + relocation.offset / 8)

-- A part with these relocations alone, and a plan with such parts.
abbrev pub pruned_part : List Bool → ℕ → Part → Part
pruned_part reach first part = record { section = part.section; slots = part.slots; relocations = filter (is_kept reach first) part.relocations }

abbrev pub pruned : List Bool → Plan → Plan
pruned reach plan = record plan {
  parts = record {
    code = pruned_part reach 0 plan.parts.code;
    text = pruned_part reach (first_of plan.parts Text) plan.parts.text;
  };
}
