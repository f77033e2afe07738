use Rattle.std.proofs.Common.{◌≡◌, drop, flat_map}
use Rattle.bpf_origin.specs.Places.{places_of}
use Rattle.bpf_origin.specs.Wanted.{want_all}
use Rattle.bpf_origin.proofs.wanted.Wanted.want_parts.Given as goal

abbrev pub invariant-loop-part : goal.invariant-loop-part
invariant-loop-part l = want_all l.fn.self (flat_map places_of l.parts) ≡ want_all l.self (flat_map places_of (drop l.part-index l.parts))
