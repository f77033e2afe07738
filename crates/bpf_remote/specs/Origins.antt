-- `monitor origin`: where a value came from, asked of the session as it stands. bpfdb's own choice.
use Rattle.std.specs.Prelude.{◌≡◌, ◌==◌, ℕ, List, [], ◌∷◌, ◌++◌, ◌⊎◌, Option, Some, None, Result, Ok, Err, decimal, if◌then◌else◌, false, length}
use lib.Chars.{codes}
use Rattle.std.specs.Borrow.{Bor}
use Rattle.std.specs.Option.{option_map, option_and_then}
use Rattle.std.specs.Result.{result_ok}
use Rattle.std.specs.Str.{bytes_eq}
use Rattle.hex.specs.Hex.{decode_of}
use Rattle.bpf_entries.specs.Keeping.{Kept}
use Rattle.bpf_journal.specs.Tracks.{Track}
use Rattle.bpf_lines.specs.NamedTexts.{named_text}
use Rattle.bpf_lines.specs.declared.place_names.Names.{Names}
use Rattle.bpf_steps.specs.State.{State}
use Rattle.bpf_origin.specs.Asked.{answer_about, parts_asked, what_fault, what_in}
use Rattle.bpf_origin.specs.Pasts.{CourseStands, LeavesMoves, gone_from}
use Rattle.bpf_origin.specs.declared.fault.WhatFault.{WhatFault}
use Rattle.bpf_origin.specs.declared.question.Question.{Question}
use Rattle.bpf_origin.specs.declared.what.What.{What}
use Rattle.bpf_session.specs.Sessions.{HasPast, SessionValue, bounds_of}
use Rattle.bpfdb_script.specs.SlotTexts.{SlotTexts}
use Rattle.bpf_remote.specs.Numbers.{behind, hex_text}
use Rattle.bpf_remote.specs.Packets.{framed}
use Rattle.bpf_remote.specs.declared.manners.Manners.{Manners}

-- The most lines of moves that are told: fewer where places stand in them, so that they fit as well.
abbrev pub most_lines : SlotTexts → ℕ
most_lines None = 500
most_lines (Some texts) = 250

-- What a line asks about, by the digits that gdb writes for it: nothing where it is `origin`, and the text behind `origin` and a blank; None
-- for another line.
abbrev pub asks_origin : List ℕ → Option (Option (List ℕ))
asks_origin digits =
    if bytes_eq digits (codes "6f726967696e") then Some None
    else option_and_then (λ rest. option_map Some (result_ok (decode_of rest))) (behind (codes "6f726967696e20") digits)

-- What that names in a state, or why it is refused.
abbrev pub some_named : Result What WhatFault → Result (Option What) WhatFault
some_named (Ok what) = Ok (Some what)
some_named (Err fault) = Err fault

abbrev pub named_in : State → Option (List ℕ) → Result (Option What) WhatFault
named_in x None = Ok None
named_in x (Some text) = some_named (what_in x text)

abbrev pub asked_in : State → List ℕ → Option (Result (Option What) WhatFault)
asked_in x digits = option_map (named_in x) (asks_origin digits)

-- How it is asked, with what is told of slots, where so many moves lie before the state. The oldest kept state is the opening where each of them is
-- kept.
abbrev pub question_of : SlotTexts → ℕ → Track → Question
question_of places moves t = record { addresses = false; lines = most_lines places; opening = length t.history == moves; places = places }

-- The line of a refusal.
abbrev pub refused_line : List ℕ → ℕ → List ℕ → List ℕ
refused_line begin number text = begin ++ decimal number ++ codes ": " ++ text ++ codes "\n"

abbrev pub what_refusal : WhatFault → List ℕ
what_refusal fault = refused_line (codes "refused V") (what_fault fault).0 (what_fault fault).1

-- The names of the places that a text tells stand in it where they are known.
abbrev pub named_by : Option (Bor Names) → List ℕ → List ℕ
named_by None text = text
named_by (Some names) text = named_text names.now text

-- A text is told, or that it is too long.
abbrev pub too_long : List ℕ
too_long = codes "cut: the answer has more than 32768 bytes\n"

abbrev pub Fits : List ℕ → List ℕ → Type 0
Fits answer text = (text ≡ answer) ⊎ (text ≡ too_long)

-- So is one with names; it is told without them where there is no memory for that.
abbrev pub FitsNamed : Option (Bor Names) → List ℕ → List ℕ → Type 0
FitsNamed names answer text = Fits (named_by names answer) text ⊎ (text ≡ answer)

-- The longest part of a text that fits a packet, and a text that is shown to gdb's user in packets, a part of it in each.
abbrev pub longest_part : ℕ
longest_part = 8191

abbrev pub joined : List (List ℕ) → List ℕ
joined [] = []
joined (part ∷ parts) = part ++ joined parts

abbrev pub consoles : List (List ℕ) → List ℕ
consoles [] = []
consoles (part ∷ parts) = framed (79 ∷ hex_text part) ++ consoles parts

pub record Shows (text told : List ℕ) : Type 0 where
  pub parts : List (List ℕ)
  pub whole : joined parts ≡ text
  pub sent : told ≡ consoles parts

module _ {K : Type 0} (holds : K → List Kept → Type 0) (refusals room : K → ℕ) where
  -- The session stands where it stood, or so many moves before that as are left, since its keeper refused to keep one again. All else of
  -- it is as it was.
  pub record ComesBack (old new : SessionValue K) (left : ℕ) : Type 0 where
    pub rest : new ≡ record old { moment = new.moment }
    pub bounds : bounds_of room new ≡ bounds_of room old
    pub stands : (t : Track) → HasPast holds old t → CourseStands holds new.moment (gone_from left t old.moment.state)
    pub leaves : LeavesMoves refusals old.moment.keeper new.moment.keeper left

  -- What is told of what is asked: the answer over the kept history, with the names that are known, or the refusal.
  abbrev pub TellsOrigin : Manners → Result (Option What) WhatFault → SessionValue K → SessionValue K → ℕ → List ℕ → Type 0
  TellsOrigin m (Err fault) old new left text = (new ≡ old) × (left ≡ 0) × Fits (what_refusal fault) text
  TellsOrigin m (Ok what) old new left text =
      ComesBack old new left
      × ((t : Track) → HasPast holds old t →
      FitsNamed m.target.names (answer_about (question_of m.target.places m.moves t) (parts_asked old.moment.state what) t.history old.moment.state).text text)
