use Rattle.std.proofs.Common.{length, arith}
use Rattle.bpf_turns.proofs.Pieces.{piece_inside}
use Rattle.bpf_turns.proofs.blocks.record_at.Goals as goal

pub overflow_mul-result : goal.overflow_mul-result
overflow_mul-result c = let within = piece_inside c.args.size c.args.j (length c.args.records.now) c.requires in omega (arith, within)

pub overflow_mul-result-2 : goal.overflow_mul-result-2
overflow_mul-result-2 c = let within = piece_inside c.args.size c.args.j (length c.args.records.now) c.requires in omega (arith, within)

pub overflow_add-result : goal.overflow_add-result
overflow_add-result c = let within = piece_inside c.args.size c.args.j (length c.args.records.now) c.requires in omega (arith, within)

pub slice_bounds-result-end : goal.slice_bounds-result-end
slice_bounds-result-end c = let within = piece_inside c.args.size c.args.j (length c.args.records.now) c.requires in omega (arith, within)
