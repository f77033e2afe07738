-- What a run of a script leaves: in the session, in the writer and in the reader.
use Rattle.std.specs.Prelude.{◌≡◌, ◌+◌, ℕ, List, [], ◌∷◌, ◌++◌, Option, Some, Ok, length}
use Rattle.std.specs.List.{All}
use Rattle.counted_io.specs.Counted.{Tally, one_more}
use Rattle.bpf_entries.specs.Keeping.{Kept}
use Rattle.bpf_session.specs.Points.{Point, Bounds}
use Rattle.bpf_session.specs.Sessions.{SessionValue, StandsAt, bounds_of, refusals_after_all}
use Rattle.counted_io.specs.Lines.{lines}
use Rattle.bpfdb_script.specs.Lines.{line_feeds}
use Rattle.bpfdb_script.specs.Commands.{command_of}
use Rattle.bpf_session.specs.Output.{Walk, walk}
use Rattle.bpfdb_script.specs.declared.command.Command.TheVariants.{Quit}
use Rattle.bpf_session.specs.declared.fault.RunFault.{RunFault}
use Rattle.bpf_session.specs.declared.fault.RunFault.TheVariants.{Read, Write}

-- What came in and went out: the script that was to be read, what the writer had been told before, what it has been told by the end, and
-- what the reader has left then.
pub record Exchange : Type 0 where
  pub script : List ℕ
  pub told : List ℕ
  pub after : Option (List ℕ)
  pub left : Option (List ℕ)

-- This text was written; a text was written that begins with one and is a beginning of another; these lines are left.
abbrev pub Wrote : Exchange → List ℕ → Type 0
Wrote x text = x.after ≡ Some (x.told ++ text)

abbrev pub WroteBetween : Exchange → List ℕ → List ℕ → Type 0
WroteBetween x least most = (part rest : List ℕ) × (most ≡ least ++ part ++ rest) × Wrote x (least ++ part)

abbrev pub Leaves : Exchange → List (List ℕ) → Type 0
Leaves x ahead = (rest : List ℕ) × (x.left ≡ Some rest) × (lines rest ≡ ahead)

-- Where a session stands, what it was opened with, and how often its keeper has refused.
pub record Standing : Type 0 where
  pub point : Point
  pub bounds : Bounds
  pub refusals : ℕ

pub record HasStanding {K : Type 0} (holds : K → List Kept → Type 0) (refused room : K → ℕ) (session : SessionValue K)
    (standing : Standing) : Type 0 where
  pub point : StandsAt holds session standing.point
  pub bounds : bounds_of room session ≡ standing.bounds
  pub refusals : refused session.moment.keeper ≡ standing.refusals

-- What lines come to from there, for the gaps of their commands.
abbrev pub come_to : Standing → List (Option ℕ) → List (List ℕ) → Walk
come_to from gaps ls = walk gaps from.bounds ls from.point

-- Obeying lines leads from one standing to another, for the gaps that their answers tell: one for each line that was obeyed, and as many
-- refusals as they make.
pub record Reaches (from to : Standing) (gaps : List (Option ℕ)) (ls : List (List ℕ)) : Type 0 where
  pub point : to.point ≡ (come_to from gaps ls).final
  pub refusals : to.refusals ≡ refusals_after_all gaps from.refusals
  pub told : (come_to from gaps ls).gaps ≡ gaps
  pub each : length gaps + length (come_to from gaps ls).unread ≡ length ls

-- A script was obeyed to its end or to `quit`: all that its lines print was written, and the lines behind `quit` are left.
abbrev pub Prints : Standing → Standing → Exchange → Type 0
Prints from to x = (gaps : List (Option ℕ)) × Reaches from to gaps (lines x.script)
    × Wrote x (come_to from gaps (lines x.script)).out × Leaves x (come_to from gaps (lines x.script)).unread

-- What a whole script comes to from there where each move is kept.
abbrev pub whole_walk : Standing → List ℕ → Walk
whole_walk from script = come_to from [] (lines script)

-- A script was obeyed to its end or to `quit`, and each move was kept: exactly what its lines print was written, the session stands
-- where they lead, and the lines behind `quit` are left.
abbrev pub PrintsWhole : Standing → Standing → Exchange → Type 0
PrintsWhole from to x = (to.point ≡ (whole_walk from x.script).final)
    × Wrote x (whole_walk from x.script).out × Leaves x (whole_walk from x.script).unread

-- A line that is obeyed without ending the session.
abbrev pub GoesOn : List ℕ → Type 0
GoesOn line = command_of line ≡ Ok (Some Quit) → ⊥

-- After a failed read: the bytes that were read hold as many line feeds as lines were obeyed, and all that these print was written.
-- After a failed write: all that the lines before the last one print was written, and a beginning of what this one prints.
abbrev pub Interrupts : RunFault → Exchange → (List (List ℕ) → List ℕ) → List (List ℕ) → List (List ℕ) → Type 0
Interrupts Read x prints obeyed ahead = (taken rest : List ℕ) × (x.script ≡ taken ++ rest) × (line_feeds taken ≡ length obeyed)
    × (x.left ≡ Some rest) × Wrote x (prints obeyed)
Interrupts Write x prints obeyed ahead = (before : List (List ℕ)) × (last : List ℕ) × (obeyed ≡ before ++ last ∷ [])
    × WroteBetween x (prints before) (prints obeyed) × Leaves x ahead

-- A read or a write failed: the first lines of the script were obeyed, none of them `quit`, and not those ahead.
pub record BreaksOff (why : RunFault) (from to : Standing) (x : Exchange) : Type 0 where
  pub gaps : List (Option ℕ)
  pub obeyed : List (List ℕ)
  pub ahead : List (List ℕ)
  pub split : lines x.script ≡ obeyed ++ ahead
  pub on : All GoesOn obeyed
  pub reaches : Reaches from to gaps obeyed
  pub part : Interrupts why x (λ ls. (come_to from gaps ls).out) obeyed ahead

-- Which failures a fault of a run answers: each is counted once, at the end that failed.
abbrev pub FailsBy : {R W : Type 0} → RunFault → Tally R → Tally R → Tally W → Tally W → Type 0
FailsBy Read reader reader' writer writer' = (reader'.failures ≡ one_more reader.failures) × (writer'.failures ≡ writer.failures)
FailsBy Write reader reader' writer writer' = (reader'.failures ≡ reader.failures) × (writer'.failures ≡ one_more writer.failures)
