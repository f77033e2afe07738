-- Each target is a slot of the program, and after its flag is set the flags are those of one slot more.
use Rattle.std.proofs.Common.{◌<◌, length, pos, refl, sym, ◌∙◌, arith, true}
use Rattle.std.proofs.lemmas.List.{length-set}
use Rattle.bpf_text.proofs.Listings.{target-IsSlot, start-within, flags-kept, flags-set}
use Rattle.bpf_text.proofs.write.disassembler.targets.Goals as goal
use Rattle.bpf_text.proofs.write.disassembler.targets.Goals.{in-Some+in-Some-target_of, in-Some+in_default-target_of, in_default}

pub target_of-requires-clause-target : goal.target_of-requires-clause-target
target_of-requires-clause-target c =
    target-IsSlot c.args.program.now c.invariant.ensures c.loop-slot.slot c.in-Some.insn (sym c.in-Some.ensures)

pub index_mut-requires : goal.index_mut-requires
index_mut-requires c =
    let lands = c.invariant.ensures.lands c.loop-slot.slot (pos c.in-Some-target_of.target) c.in-Some.insn
    (sym c.in-Some.ensures) c.in-Some-target_of.ensures.found in
    omega (arith, start-within c.args.program.now c.in-Some-target_of.target lands, c.loop-slot.invariant.sized, c.loop-slot.flags.ok.0)

pub loop-slot-preserved : goal.loop-slot-preserved
loop-slot-preserved c =
    let insns = c.args.program.now.insns in
    let old = c.loop-slot.invariant in
    let within : c.loop-slot.slot < length insns = omega (arith, c.len-slot-end.ensures) in
    elim c.match-insn_at.branch [
      | in-Some+in-Some-target_of w ↦
          let goes = w.in-Some-target_of.ensures.found in
          let lands = c.invariant.ensures.lands c.loop-slot.slot (pos w.in-Some-target_of.target) w.in-Some.insn (sym w.in-Some.ensures) goes in
          rw w.flags-is (record {
            sized = length-set c.loop-slot.flags.items w.in-Some-target_of.target true ∙ old.sized;
            so_far = flags-set insns c.loop-slot.flags.items c.loop-slot.slot w.in-Some-target_of.target within old.sized
                (start-within c.args.program.now w.in-Some-target_of.target lands)
                (λ t. rw (sym w.in-Some.ensures, goes) refl) old.so_far;
          })
      | in-Some+in_default-target_of w ↦ rw w.flags-is (record {
        sized = old.sized;
        so_far = flags-kept insns c.loop-slot.flags.items c.loop-slot.slot within
            (λ t. rw (sym w.in-Some.ensures, w.in_default-target_of.ensures.none)) old.so_far;
      })
      | in_default w ↦ rw w.flags-is (record {
        sized = old.sized;
        so_far = flags-kept insns c.loop-slot.flags.items c.loop-slot.slot within
            (λ t. rw (sym w.in_default.ensures)) old.so_far;
      })
    ]
