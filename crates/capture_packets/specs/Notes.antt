-- What is told beside a context that comes of a capture. bpfdb's own choice.
use Rattle.std.specs.Prelude.{ℕ, List, ◌++◌, codes, decimal}
use Rattle.capture_packets.specs.declared.note.Note.{Note}
use Rattle.capture_packets.specs.declared.note.Note.TheVariants.{Whole, Short}

-- By the option that takes a packet of it.
abbrev pub note_text : List ℕ → Note → List ℕ
note_text option Whole = codes "the context is a whole capture: " ++ option ++ codes " N takes one of its packets\n"
note_text option (Short number taken sent) =
    codes "of packet " ++ decimal number ++ codes " " ++ decimal taken ++ codes " of " ++ decimal sent ++ codes " bytes were captured\n"
