use Rattle.std.proofs.Common.{◌∙◌, [], length, sym, ap, arith}
use Rattle.bpf_link.specs.Data.{numbered}
use Rattle.bpf_link.specs.Patches.{patch_at}
use Rattle.bpf_link.specs.Tables.{relocation_at}
use Rattle.bpf_link.proofs.Pruning.{try_done, try_failed}
use Rattle.bpf_link.proofs.Slots.{patched_length}
use Rattle.bpf_link.proofs.pruned.try_all.Goals as goal
use Rattle.bpf_link.proofs.pruned.try_all.Goals.{in-Ok, in-Err}

pub loop-i-preserved : goal.loop-i-preserved
loop-i-preserved c = (
    let placed = numbered c.args.plan.now [] [] in
    let which = sym (c.at.ensures ∙ ap (λ part. relocation_at part.relocations c.loop-i.i) c.part.ensures.value) in
    elim c.match-patch_at.branch [
      | in-Ok w ↦ rw w.words-is (record {
        value = try_done c.args.plan.now c.args.side c.args.words.now c.loop-i.words w.put_patch.new.words w.in-Ok.patch c.loop-i.i c.loop-i.invariant.value (ap (patch_at placed c.args.side) which ∙ sym w.in-Ok.ensures.value) w.put_patch.ensures;
        size =
            ap length w.put_patch.ensures ∙ patched_length c.loop-i.words w.in-Ok.patch (let fits = w.in-Ok.ensures.at in let room = c.requires.room in let size = c.loop-i.invariant.size in omega (arith, fits, room, size))
            ∙ c.loop-i.invariant.size;
      })
      | in-Err w ↦ rw w.words-is (record {
        value = try_failed c.args.plan.now c.args.side c.args.words.now c.loop-i.words w.in-Err.field-0 c.loop-i.i c.loop-i.invariant.value (ap (patch_at placed c.args.side) which ∙ sym w.in-Err.ensures.value);
        size = c.loop-i.invariant.size;
      })
    ]
    )
