use Rattle.std.proofs.Common.{None, refl, subst, sym}
use Rattle.bpf_load.specs.Targets.{Holds}
use Rattle.bpf_load.specs.declared.target.SourceKind.{SourceKind}
use Rattle.bpf_load.proofs.program.of_words.Goals as goal

pub returns-in-Err-checked-clause-err : goal.returns-in-Err-checked-clause-err
returns-in-Err-checked-clause-err c =
    let file = c.args.file.now in
    let maps = c.in-Ok.maps in (
      None,
      file,
      maps,
      subst (λ (k : SourceKind). Holds k c.args.target.now file None file maps) (sym c.requires) (refl, c.in-Ok.ensures.ok, refl),
      c.in-Err-checked.ensures.err,
    )
