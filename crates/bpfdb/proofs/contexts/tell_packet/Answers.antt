use Rattle.std.proofs.Common.{◌≡◌, ◌++◌, List, [], ℕ, append_assoc, codes, refl}
use Rattle.std.proofs.lemmas.List.{append-nil}
use Rattle.counted_io.proofs.Appending.{Writes-none, Writes-text}
use Rattle.bpfdb_script.specs.Shown.{shown}
use Rattle.capture_packets.specs.Faults.{fault_text}
use Rattle.bpfdb.proofs.contexts.tell_packet.Goals as goal

-- the parts, one behind the other
in_line : (fault opened path ended : List ℕ) → (((([] ++ fault) ++ opened) ++ path) ++ ended) ++ [] ≡ fault ++ opened ++ path ++ ended
in_line fault opened path ended = simp (append_assoc, append-nil) refl

pub returns : goal.returns
returns g c =
    let begun = Writes-none g.E.Write.contents c.args.errors.now _ in
    let said = c.put_fault-said.ensures _ _ begun in
    let opened = c.put-opened.ensures _ _ said in
    let named = c.put_shown-named.ensures _ _ opened in
    let ended = c.put-ended.ensures _ _ named in
    Writes-text g.E.Write.contents _ _ _ _ _ (c.flush_after.ensures _ _ ended)
    (in_line (fault_text c.args.why) (codes " (") (shown c.args.path.now) (codes ")\n"))
