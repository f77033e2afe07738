use Rattle.std.proofs.Common.{arith, sym}
use Rattle.counted_io.proofs.Appending.{WritesAfter-WritesAfter, WritesAfter-text}
use Rattle.bpf_lines.proofs.Chains.{head_told, no_rows_of_all, rest_told, rows_are}
use Rattle.bpf_lines.proofs.objects.+put_objects.Goals as goal

pub returns-then-first-words : goal.returns-then-first-words
returns-then-first-words g t c =
    WritesAfter-text g.W.Write.contents _ _ _ _ _ _ c.put-then-first-words.ensures (sym (no_rows_of_all c.args.all.now c.args.words.now c.args.first (omega arith)))

pub put_object-told-requires-clause-told : goal.put_object-told-requires-clause-told
put_object-told-requires-clause-told g t c =
    head_told c.args.all.now c.in-Some.lines.now c.in-Some.rest.now c.in-Some.ensures.cases.0 c.requires

pub put_objects-requires : goal.put_objects-requires
put_objects-requires g t c =
    let size = c.in-Some.ensures.cases.1 in
    λ κs below. (omega (arith, size), (below, rest_told c.args.all.now c.in-Some.lines.now c.in-Some.rest.now c.in-Some.ensures.cases.0 c.requires))

pub returns-else-first-words : goal.returns-else-first-words
returns-else-first-words g t c =
    WritesAfter-WritesAfter g.W.Write.contents _ _ _ _ _ _ _ _ _ c.put_object-told.ensures c.put_objects.ensures
    (rows_are c.args.all.now c.in-Some.lines.now c.in-Some.rest.now c.args.words.now c.args.first c.len-own.result c.in-Some.ensures.cases.0
    c.len-own.ensures.value)
