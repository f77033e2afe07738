use Rattle.std.proofs.Common.{◌≡◌, ◌++◌, ◌*◌, ℕ, List, append_assoc, codes, drop, refl}
use Rattle.std.proofs.lemmas.List.{take_rest}
use Rattle.counted_io.proofs.Appending.{Writes-text}
use Rattle.bpf_suite.specs.Contexts.{byte_came, byte_name, byte_text, byte_wanted}
use Rattle.bpf_suite.proofs.contexts.put_byte.Goals as goal

-- the parts of both lines, one behind the other
in_line : (front begun value name wanted pattern end : List ℕ)
    → ((front ++ begun) ++ value) ++ (name ++ wanted ++ pattern ++ end) ≡ front ++ (begun ++ value ++ name ++ wanted ++ pattern ++ end)
in_line front begun value name wanted pattern end = simp append_assoc refl

pub returns : goal.returns
unfolding byte_text
returns g c = λ first front known.
    let k = c.args.place in
    let begun = c.put_all-begun.ensures first front known in
    let told = rw (take_rest c.args.bytes.now k) at (c.put_byte_came-told.ensures first _ begun) in
    let said = rw (c.byte_wanted-pattern.ensures, take_rest c.args.digits.now (2 * k)) at (c.put_all.ensures first _ told) in
    Writes-text g.W.Write.contents _ _ _ _ _ said
    (in_line front (byte_name k ++ codes " came: ") (byte_came k (drop k c.args.bytes.now)) (byte_name k) (codes " wanted: ")
    (byte_wanted (drop (2 * k) c.args.digits.now)) (codes "\n"))
