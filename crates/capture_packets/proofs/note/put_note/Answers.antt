use Rattle.std.proofs.Common.{◌≡◌, ◌++◌, List, ℕ, ap, append_assoc, codes, refl}
use Rattle.counted_io.proofs.Appending.{Writes-text}
use Rattle.capture_packets.proofs.note.put_note.Goals as goal

-- the parts, one behind the other
joined : (name option : List ℕ) → name ≡ option
    → (codes "the context is a whole capture: " ++ name) ++ codes " N takes one of its packets\n"
    ≡ codes "the context is a whole capture: " ++ option ++ codes " N takes one of its packets\n"
joined name option is = rw is (simp append_assoc refl)

pub returns-in-Whole : goal.returns-in-Whole
returns-in-Whole g c = λ first front known.
    rw c.in-Whole.is
    (Writes-text g.W.Write.contents _ _ _ _ _ (c.put_all.ensures first front known)
    (ap (λ text. front ++ text) (joined c.as_bytes.result.now c.args.option.now c.as_bytes.ensures.value)))

-- and of numbers
counted : (number taken sent : List ℕ) → (((((codes "of packet " ++ number) ++ codes " ") ++ taken) ++ codes " of ") ++ sent) ++ codes " bytes were captured\n"
    ≡ codes "of packet " ++ number ++ codes " " ++ taken ++ codes " of " ++ sent ++ codes " bytes were captured\n"
counted number taken sent = simp append_assoc refl

pub returns-in-Short : goal.returns-in-Short
returns-in-Short g c = λ first front known.
    rw c.in-Short.is
    (Writes-text g.W.Write.contents _ _ _ _ _ (c.put_all-in-Short.ensures first front known)
    (ap (λ text. front ++ text) (counted _ _ _)))
