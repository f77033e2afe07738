use Rattle.std.proofs.Common.{◌≡◌, ◌≢◌, ◌++◌, ap, arith, false, ℕ, codes, decimal, refl}
use Rattle.counted_io.proofs.Appending.{Writes-text}
use Rattle.std.specs.Prelude.{◌==◌}
use Rattle.bpfdb.specs.Notes.{count_line}
use Rattle.bpfdb.proofs.notes.put_count.Goals as goal

-- the line of some fields
counted : (fields : ℕ) → fields ≢ 0 → codes "fields left as compiled: " ++ decimal fields ++ codes "\n" ≡ count_line fields
counted fields some =
    let it : (fields == 0) ≡ false = grind arith in
    rw it refl

pub returns : goal.returns
returns g c = λ first front known.
    Writes-text g.E.Write.contents _ _ _ _ _ (rw c.from.ensures at (c.put_all.ensures first front known))
    (ap (λ line. front ++ line) (counted c.args.fields c.if-fields-eq0.false))
