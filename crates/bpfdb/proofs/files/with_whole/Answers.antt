use Rattle.std.proofs.Common.{◌≡◌, ◌++◌, ◌∷◌, [], refl}
use Rattle.std.proofs.lemmas.Result.{IfOk-weaker}
use Rattle.bpfdb.specs.Files.{Alone, Completed, OfLinux, read_of}
use Rattle.bpfdb.specs.declared.linux.Linux.TheVariants.{Joined}
use Rattle.bpfdb.proofs.files.with_whole.Goals as goal

pub returns-in_default-clause-ok : goal.returns-in_default-clause-ok
returns-in_default-clause-ok g c = Alone _ c.requires.given c.requires.lacks (rw c.in_default.is refl) refl

pub returns-in-Ok-clause-ok : goal.returns-in-Ok-clause-ok
returns-in-Ok-clause-ok g c =
    let given = read_of c.args.given in
    IfOk-weaker c.with_library.result (λ read. read_of read ≡ record given { with = given.with ++ c.in-Ok.library.items ∷ []; linux = Joined }) _
    (λ read same. Completed given c.requires.given c.requires.lacks c.in-Some.path.now (rw c.in-Some.is refl) c.in-Ok.library.items c.in-Ok.ensures.ok same)
    c.with_library.ensures.ok

pub returns-in-Err-clause-err : goal.returns-in-Err-clause-err
returns-in-Err-clause-err g c =
    OfLinux _ c.requires.given c.requires.lacks c.in-Some.path.now (rw c.in-Some.is refl) c.in-Err.ensures.err
