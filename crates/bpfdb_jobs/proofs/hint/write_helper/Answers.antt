use Rattle.std.proofs.Common.{List, ℕ, ◌≡◌, ◌++◌, append_assoc, codes, decimal, refl}
use Rattle.counted_io.proofs.Appending.{Writes-none, Writes-text}
use Rattle.bpf_link.specs.Helpers.{helper_name}
use Rattle.bpfdb_jobs.specs.Hints.{named}
use Rattle.bpfdb_jobs.proofs.hint.write_helper.Goals as goal

-- the parts of the line, one behind the other
in_line : (word slot by helper name end : List ℕ) → ((word ++ slot ++ by ++ helper) ++ name) ++ end ≡ word ++ slot ++ by ++ helper ++ name ++ end
in_line word slot by helper name end = simp append_assoc refl

pub returns : goal.returns
returns g c =
    let begun = rw c.from.ensures at (c.put_all-begun.ensures _ _ (Writes-none g.E.Write.contents c.args.errors.now _)) in
    let told = rw c.helper_name.ensures at (c.write_name-told.ensures _ _ begun) in
    Writes-text g.E.Write.contents _ _ _ _ _ (c.put.ensures _ _ told)
    (in_line (codes "slot ") (decimal c.args.slot) (codes " calls helper ") (decimal c.args.helper) (named (helper_name c.args.helper))
    (codes ": in an object --with, --helper or Linux's library answers it\n"))
