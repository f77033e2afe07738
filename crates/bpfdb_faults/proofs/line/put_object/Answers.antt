use Rattle.std.proofs.Common.{◌≡◌, ◌++◌, ℕ, List, append_assoc, codes, refl}
use Rattle.counted_io.proofs.Appending.{Writes-text}
use Rattle.bpf_link.specs.Faults.{link_fault}
use Rattle.bpf_suite.specs.Refusals.{text_of_refusal}
use Rattle.bpfdb_faults.specs.Faults.{hint_of, more_of, name_text, origin_text, slot_of_words}
use Rattle.bpfdb_faults.proofs.line.put_object.Goals as goal

-- the parts of a line, one behind the other
in_line : (front text more hint name origin end : List ℕ)
    → (((((front ++ text) ++ more) ++ hint) ++ name) ++ origin) ++ end ≡ front ++ ((text ++ more ++ hint ++ name ++ origin) ++ end)
in_line front text more hint name origin end = simp append_assoc refl

pub returns : goal.returns
returns g c = λ first front known.
    let fault = c.args.fault.now in
    let begun = rw (c.number-number.ensures, c.slot_of_words-slot.ensures, c.text-text.ensures) at (c.put_numbered-begun.ensures first front known) in
    let said = c.put_more-said.ensures first _ begun in
    let hinted = c.put_hint-hinted.ensures first _ said in
    let named = c.put_named-named.ensures first _ hinted in
    let behind = c.put_origin-placed.ensures first _ named in
    Writes-text g.E.Write.contents _ _ _ _ _ (c.put.ensures first _ behind)
    (in_line front (text_of_refusal (codes "refused E") (link_fault fault).0 (codes " at slot ") (slot_of_words fault) (link_fault fault).1) (more_of fault) (hint_of fault)
    (name_text c.args.name.now) (origin_text fault) c.args.end.now)
