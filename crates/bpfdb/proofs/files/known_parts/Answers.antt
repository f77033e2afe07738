use Rattle.std.proofs.Common.{Bor, List, ap, ℕ}
use Rattle.std.proofs.lemmas.Option.{IfSome_then}
use Rattle.std.specs.Prelude.{option_map}
use Rattle.bpfdb.proofs.files.known_parts.Goals as goal

pub returns-in-Some : goal.returns-in-Some
returns-in-Some g c =
    IfSome_then c.parts_for.result c.parts_for.ensures (λ parts are. record {
      folder = c.in-Some.folder.now;
      known = ap (option_map (λ (folder : Bor (List ℕ)). folder.now)) c.in-Some.is;
      parts_are = rw c.bytes.ensures at are;
    })
