use Rattle.std.proofs.Common.{ℕ, ◌≡◌, ◌<◌, ◌++◌, ◌∙◌, List, [], ◌∷◌, append_assoc, ap, codes, length, refl, sym, arith}
use Rattle.counted_io.proofs.Appending.{Writes-text}
use Rattle.bpfdb_script.specs.Shown.{shown}
use Rattle.bpfdb_jobs.specs.Programs.{behind_address}
use Rattle.bpfdb_jobs.proofs.load.put_named.Goals as goal

-- a name that isn't empty
some : (name : List ℕ) → 0 < length name → behind_address name ≡ codes " " ++ shown name
some [] h = absurd (omega (arith, h))
some (byte ∷ name) h = refl

pub returns-in_default : goal.returns-in_default
returns-in_default g c = λ first front known.
    let begun = c.put-begun.ensures first front known in
    Writes-text g.W.Write.contents _ _ _ _ _ (c.put_shown.ensures first _ begun)
    (append_assoc front (codes " ") (shown c.args.name.now)
    ∙ ap (λ line. front ++ line) (sym (some c.args.name.now (omega (arith, c.in_default.len_at_least)))))
