-- What a command comes to: an answer, and the point that the session is left at.
use Rattle.std.specs.Prelude.{List, [], ◌∷◌, Result, Ok, Err}
use Rattle.bpf_session.specs.Points.{Point}
use Rattle.bpf_session.specs.declared.reply.Reply.{Reply}
use Rattle.bpfdb_script.specs.declared.refusal.Refusal.{Refusal}

pub record Outcome : Type 0 where
  pub answer : Result Reply Refusal
  pub point : Point

-- A refused command changes nothing.
abbrev pub refused : Refusal → Point → Outcome
refused refusal p = record { answer = Err refusal; point = p }

-- A reply, at a point.
abbrev pub replied : Reply → Point → Outcome
replied reply p = record { answer = Ok reply; point = p }

-- The first of the refusals, else the outcome.
abbrev pub unless_refused : List Refusal → Point → Outcome → Outcome
unless_refused [] p o = o
unless_refused (refusal ∷ more) p o = refused refusal p
