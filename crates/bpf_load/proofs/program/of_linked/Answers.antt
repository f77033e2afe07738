use Rattle.std.proofs.Common.{Some, refl, subst, sym}
use Rattle.bpf_load.specs.Faults.{HasMapsFault}
use Rattle.bpf_load.specs.Targets.{Holds}
use Rattle.bpf_load.specs.declared.target.SourceKind.{SourceKind}
use Rattle.bpf_load.proofs.program.of_linked.Goals as goal

pub returns-in-Err-clause-err : goal.returns-in-Err-clause-err
returns-in-Err-clause-err c =
    subst (λ (k : SourceKind). HasMapsFault k c.args.target.now c.args.file.now c.in-Err.fault) (sym c.requires.kind)
    (c.args.linked.now, c.requires.linked, rw c.as_slice.ensures.value at c.in-Err.ensures.err)

pub returns-in-Err-checked-clause-err : goal.returns-in-Err-checked-clause-err
returns-in-Err-checked-clause-err c =
    let linked = c.args.linked.now in
    let words = linked.program.words.items in
    let maps = linked.program.shapes.items in (
      Some linked,
      words,
      maps,
      subst (λ (k : SourceKind). Holds k c.args.target.now c.args.file.now (Some linked) words maps) (sym c.requires.kind) (c.requires.linked, refl, refl),
      rw (c.as_slice-2.ensures.value, c.in-Ok.ensures.ok, c.as_slice.ensures.value) at c.in-Err-checked.ensures.err,
    )
