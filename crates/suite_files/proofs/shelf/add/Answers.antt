use Rattle.std.proofs.Common.{◌<◌, arith, length, refl}
use Rattle.suite_files.proofs.Shelving.{shelf-and-one}
use Rattle.suite_files.specs.Shelves.{most_files}
use Rattle.suite_files.proofs.shelf.add.Goals.{in-Ok-push, in-Err-push}
use Rattle.suite_files.proofs.shelf.add.Goals as goal

pub returns-clause-shelf : goal.returns-clause-shelf
returns-clause-shelf g c =
    let few : length c.args.shelf.now.items < most_files = omega arith in
    elim c.match-push.branch [
      | in-Ok-push w ↦
          rw w.result-is
          (shelf-and-one (g.F.Opener.bytes_at c.args.files.now) c.args.shelf.now.items _ _ c.args.path.items c.requires few
          (record { gives = rw c.as_slice.ensures.value at c.in-Ok.ensures.ok; starts = rw c.as_slice-2.ensures.value at c.in-Ok-packet_starts.ensures }) refl
          w.in-Ok-push.ensures.items)
      | in-Err-push w ↦ rw w.result-is tt
    ]
