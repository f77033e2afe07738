-- Scaffolding: what is asked of a step that is recorded, and where its entry goes.
use Rattle.std.specs.Prelude.{◌≡◌, ◌≤◌, ◌<◌, ◌+◌, ◌^◌, ◌++◌, ℕ, Bool, true, false, List, length, nat_lt}
use Rattle.bpf_entries.specs.Fields.{FitsFields}
use Rattle.bpf_entries.specs.Status.{has_ended}
use Rattle.bpf_entries.specs.Texts.{text}
use Rattle.bpf_entries.specs.Weights.{greatest_weight, weight as weight_of}
use Rattle.bpf_steps.specs.Entries.{step_entry}
use Rattle.bpf_steps.specs.Next.{change, next}
use Rattle.bpf_steps.specs.State.{State}
use Rattle.bpf_steps.specs.declared.change.Change.{Change}
use Rattle.bpf_ring.specs.Blocks.{Content, around, behind}

-- A machine runs, this is what `look` answers of it, and the step's entry has so many bytes.
pub record CanRecord (x : State) (looked_at : Change) (count : ℕ) : Type 0 where
  pub runs : has_ended x.status ≡ false
  pub looked : looked_at ≡ change x
  pub entry : FitsFields (step_entry x)
  pub weight : count ≡ weight_of (step_entry x)
  pub light : count ≤ greatest_weight

-- The step was taken, and its entry appended.
pub record Records (x y : State) (old new : Content) (mark : Bool) : Type 0 where
  pub next : y ≡ next x
  pub size : new.size ≡ old.size
  pub bytes : new.bytes ≡ old.bytes ++ text (step_entry x) mark

-- So many bytes of a block from a place on.
pub record HasPlace (block : List ℕ) (from count : ℕ) : Type 0 where
  pub short : length block < 2 ^ 63
  pub first : from < length block
  pub len : count ≤ length block

-- Bytes were written behind them, unless that is no room for them in front of the block's last byte: then all stays.
pub record WritesIn (old new : List ℕ) (from count : ℕ) (bytes : List ℕ) (done : Bool) : Type 0 where
  pub room : done ≡ nat_lt (behind (length old) from count + length bytes) (length old)
  pub stays : done ≡ false → new ≡ old
  pub len : length new ≡ length old
  pub text : done ≡ true → count + length bytes ≤ length old → around new from (count + length bytes) ≡ around old from count ++ bytes
