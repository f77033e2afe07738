use Rattle.std.proofs.Common.{arith, ◌∙◌, sym}
use Rattle.bpf_steps.specs.Regions.{image}
use Rattle.bpf_steps.proofs.Indices.{in_context_below, in_frames_found, in_maps_or_none}
use Rattle.bpf_steps.proofs.memory.run_index.Goals as goal

pub returns-then-address-lt-FRAME_BASE-clause-value : goal.returns-then-address-lt-FRAME_BASE-clause-value
returns-then-address-lt-FRAME_BASE-clause-value c = λ bytes.
    in_context_below (image c.args.context_len c.args.maps.now bytes) c.args.frames c.args.address c.args.n _ (omega arith) c.region_index.ensures.found c.region_index.ensures.none

pub returns-in-Some-clause-value : goal.returns-in-Some-clause-value
returns-in-Some-clause-value c = λ bytes.
    in_frames_found (image c.args.context_len c.args.maps.now bytes) c.args.frames c.args.address c.args.n c.in-Some.at _ c.requires.short (omega arith) c.requires.sought.only c.frame_index.ensures.near c.frame_index.ensures.value (sym c.behind.ensures ∙ c.in-Some.is)

pub returns-in-None-clause-value : goal.returns-in-None-clause-value
returns-in-None-clause-value c = λ bytes.
    in_maps_or_none (image c.args.context_len c.args.maps.now bytes) c.args.frames c.args.address c.args.n _ _ c.requires.short (omega arith) c.requires.sought.only c.frame_index.ensures.value (sym c.behind.ensures ∙ c.in-None.is) c.map_index.ensures.below c.map_index.ensures.past
