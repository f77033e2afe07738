-- One more block of a list of `.BTF.ext`.
use Rattle.std.proofs.Common.{◌≡◌, ℕ, List, ap, ◌∙◌}
use Rattle.std.specs.Prelude.{Option, slice_range}
use Rattle.bpf_isa.specs.Words.{u32_at}
use Rattle.bpf_btf.specs.CoreRelocations.{block_end, block_place}
use Rattle.bpf_link.specs.Objects.{Elf}
use Rattle.bpf_turns.specs.Blocks.{block_at, block_call, records_at, records_of, rest_at, rest_of}
use Rattle.bpf_turns.specs.declared.calls.Call.{Call}

block_is : (listed : List ℕ) (n at end : ℕ) → at ≡ block_place listed n → end ≡ block_end listed at → slice_range listed at end ≡ block_at listed n
block_is listed n at end begins ends = ap (slice_range listed at) ends ∙ ap (λ a. slice_range listed a (block_end listed a)) begins

pub records_are : (object : Elf) (strings : List ℕ) (calls : List Call) (listed : List ℕ) (n at end size : ℕ) (call : Option ℕ) → at ≡ block_place listed n
    → end ≡ block_end listed at → size ≡ u32_at listed 0 → call ≡ block_call object strings calls (slice_range listed at end)
    → records_of object calls size (slice_range listed at end) call ≡ records_at object strings calls listed n
records_are object strings calls listed n at end size call begins ends sized called =
    ap (λ s. records_of object calls s (slice_range listed at end) call) sized
    ∙ (ap (records_of object calls (u32_at listed 0) (slice_range listed at end)) called
    ∙ ap (λ b. records_of object calls (u32_at listed 0) b (block_call object strings calls b)) (block_is listed n at end begins ends))

pub rest_is : (object : Elf) (strings : List ℕ) (calls : List Call) (listed : List ℕ) (n at end : ℕ) (call : Option ℕ) → at ≡ block_place listed n
    → end ≡ block_end listed at → call ≡ block_call object strings calls (slice_range listed at end)
    → rest_of (slice_range listed at end) call ≡ rest_at object strings calls listed n
rest_is object strings calls listed n at end call begins ends called =
    ap (rest_of (slice_range listed at end)) called
    ∙ ap (λ b. rest_of b (block_call object strings calls b)) (block_is listed n at end begins ends)
