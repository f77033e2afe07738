use Rattle.std.proofs.Common.{◌≡◌, ◌⊎◌, length, subst}
use Rattle.std.specs.Prelude.{slice_index}
use Rattle.bpf_isa.specs.WordFaults.{IsLeastWordFault}
use Rattle.bpf_isa.specs.Scaffolding.Codec.{IsRead}
use Rattle.bpf_isa.specs.Checker.{piece_at}
use Rattle.bpf_isa.proofs.BrokenRules.{least_fault, no_fault, early_fault}
use Rattle.bpf_isa.proofs.Spelling.{whole_word}
use Rattle.bpf_isa.proofs.checker.piece.Goals as goal

pub returns-in-Err-clause-fault : goal.returns-in-Err-clause-fault
returns-in-Err-clause-fault c =
    let least : IsLeastWordFault (piece_at c.args.draft.now.bytes.now c.args.slot) c.in-Err.fault = subst (λ text. IsLeastWordFault text c.in-Err.fault) c.piece_of-piece.ensures.value c.in-Err.ensures.fault.least in
    early_fault c.args.draft.now.bytes.now c.args.draft.now.maps.now c.args.slot c.in-Err.fault c.in-Err.ensures.fault.early least

pub returns-in-Some-clause-fault : goal.returns-in-Some-clause-fault
returns-in-Some-clause-fault c =
    let read : IsRead (piece_at c.args.draft.now.bytes.now c.args.slot) c.in-Ok.insn = subst (λ text. IsRead text c.in-Ok.insn) c.piece_of-piece.ensures.value c.in-Ok.ensures.ok in
    least_fault c.args.draft.now.bytes.now c.args.draft.now.maps.now c.args.slot c.in-Ok.insn read c.in-Some.fault c.in-Some.ensures.found

pub returns-in-None-clause-clear : goal.returns-in-None-clause-clear
returns-in-None-clause-clear c =
    let read : IsRead (piece_at c.args.draft.now.bytes.now c.args.slot) c.in-Ok.insn = subst (λ text. IsRead text c.in-Ok.insn) c.piece_of-piece.ensures.value c.in-Ok.ensures.ok in
    no_fault c.args.draft.now.bytes.now c.args.draft.now.maps.now c.args.slot c.in-Ok.insn read c.in-None.ensures.none

pub returns-in-None-clause-ok : goal.returns-in-None-clause-ok
returns-in-None-clause-ok c =
    let read : IsRead (piece_at c.args.draft.now.bytes.now c.args.slot) c.in-Ok.insn = subst (λ text. IsRead text c.in-Ok.insn) c.piece_of-piece.ensures.value c.in-Ok.ensures.ok in
    let size = subst (λ text. (length text ≡ 8) ⊎ ((length text ≡ 16) × (slice_index text 0 ≡ 24))) c.piece_of-piece.ensures.value c.piece_of-piece.ensures.fits in
    record { whole = whole_word (piece_at c.args.draft.now.bytes.now c.args.slot) c.in-Ok.insn read size c.in-None.ensures.none.whole; sound = c.in-None.ensures.none }

pub returns-in-None-clause-read : goal.returns-in-None-clause-read
returns-in-None-clause-read c = subst (λ text. IsRead text c.in-Ok.insn) c.piece_of-piece.ensures.value c.in-Ok.ensures.ok
