use Rattle.std.proofs.Common.{◌≡◌, ◌<◌, ◌*◌, true, false, length, subst, arith}
use Rattle.std.proofs.lemmas.Option.{get_or_from_slice_get}
use Rattle.bpf_isa.specs.Checker.{is_start, HasFault, HasNoFault}
use Rattle.bpf_isa.specs.Faults.{IsLeast, piece_fault}
use Rattle.bpf_isa.specs.Scaffolding.Checking.{IsSound}
use Rattle.bpf_isa.proofs.MapDemands.{least_with, one_start}
use Rattle.bpf_isa.proofs.demands.lengths_at.Goals as goal

pub returns-in-Ok-clause-ok : goal.returns-in-Ok-clause-ok
returns-in-Ok-clause-ok c =
    let bytes = c.args.draft.now.bytes.now in
    let flag = get_or_from_slice_get c.args.draft.now.starts.now c.args.slot (is_start bytes c.args.slot) false (c.requires.flags.flags c.args.slot c.requires.within) in
    let start : is_start bytes c.args.slot ≡ true = grind (arith, flag, c.if-not-draft-slot.false) in
    let inside : 8 * c.args.slot < length bytes = omega (arith, c.requires.within, c.requires.flags.slots) in
    let sound = subst (λ ms. IsSound bytes ms c.args.slot c.in-Ok.insn) c.requires.known.0 c.in-Ok.ensures.ok.sound in
    let clear = subst (λ ms. HasNoFault bytes ms c.args.slot) c.requires.known.0 c.in-Ok.ensures.clear in
    one_start bytes c.args.slot c.in-Ok.insn c.requires.slots (inside, start) c.in-Ok.ensures.read sound clear c.args.before.bytes c.with_insn.result.bytes c.requires.known.1 c.with_insn.ensures

pub returns-in-Err-clause-start : goal.returns-in-Err-clause-start
returns-in-Err-clause-start c =
    let bytes = c.args.draft.now.bytes.now in
    let flag = get_or_from_slice_get c.args.draft.now.starts.now c.args.slot (is_start bytes c.args.slot) false (c.requires.flags.flags c.args.slot c.requires.within) in
    let start : is_start bytes c.args.slot ≡ true = grind (arith, flag, c.if-not-draft-slot.false) in
    let inside : 8 * c.args.slot < length bytes = omega (arith, c.requires.within, c.requires.flags.slots) in
    (inside, start)

pub returns-in-Err-clause-fault : goal.returns-in-Err-clause-fault
returns-in-Err-clause-fault c =
    let bytes = c.args.draft.now.bytes.now in
    λ maps are. least_with bytes maps c.args.slot c.in-Err.fault are (subst (λ ms. IsLeast piece_fault (HasFault bytes ms c.args.slot) c.in-Err.fault) c.requires.known.0 c.in-Err.ensures.fault)
