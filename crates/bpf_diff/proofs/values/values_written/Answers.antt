use Rattle.std.proofs.Common.{◌∙◌, List, ap}
use Rattle.bpf_diff.proofs.Writes.{wrote-is}
use Rattle.bpf_diff.specs.Values.{Value}
use Rattle.bpf_origin.specs.declared.place.Part.{Part}
use Rattle.bpf_diff.proofs.values.values_written.Goals as goal

pub returns : goal.returns
returns c = λ x t.
    let of : List Part → Value = λ parts. record { steps = c.args.number; parts = parts } in
    ap of (c.parts_in.ensures ∙ c.wrote_by.ensures ∙ wrote-is x c.args.cpu.now c.args.taken.now t)
