use Rattle.std.proofs.Common.{◌<◌, arith}
use Rattle.bpf_link.proofs.PlainMaps.{never_full}
use Rattle.bpf_link.proofs.linker.plain_maps.Goals as goal

pub returns-in-Err : goal.returns-in-Err
returns-in-Err c =
    let room : c.loop.counter < 16 = omega arith in
    absurd (never_full c.loop.counter c.loop.maps c.in-Err.field-0 c.loop.invariant room c.in-Err.ensures.fault.applies)
