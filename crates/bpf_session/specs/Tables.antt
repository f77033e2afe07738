-- Edits, and the tables of breakpoints and watches.
use Rattle.std.specs.Prelude.{ℕ, true, not, ◌==◌, [], ◌∷◌, ◌++◌, Option, Some, None, filter}
use Rattle.bpf_machine.specs.Edits.{edited}
use Rattle.bpf_machine.specs.declared.edit.Edit.{Edit}
use Rattle.bpf_machine.specs.declared.moves.Move.TheVariants as move
use Rattle.bpf_entries.specs.Keeping.{keep}
use Rattle.bpf_journal.specs.Histories.{record_weight}
use Rattle.bpf_journal.specs.Timelines.{record_of}
use Rattle.bpf_session.specs.Points.{Point}
use Rattle.bpf_session.specs.Outcomes.{Outcome, refused, replied}
use Rattle.bpf_session.specs.declared.reply.Reply.TheVariants as reply
use Rattle.bpfdb_script.specs.declared.command.Stop.{Stop}
use Rattle.bpfdb_script.specs.declared.command.Stop.TheVariants.{Breakpoint, Watch}
use Rattle.bpfdb_script.specs.declared.refusal.Refusal.TheVariants.{OutOfMemory}

-- An edit is a marked move, and what was taken back before can't be made again.
abbrev pub with_edit : ℕ → Edit → Point → Point
with_edit room e p = record p {
  history = keep record_weight room p.history (record_of p.state (move.Edit e) true);
  ahead = [];
  state = edited p.state e;
}

-- It is refused where the keeper can't keep it.
abbrev pub edit : Option ℕ → ℕ → Edit → Point → Outcome
edit None room e p = replied reply.Ok (with_edit room e p)
edit (Some m) room e p = refused OutOfMemory p

-- A new breakpoint or watch goes to the end.
abbrev pub with_stop : Stop → Point → Point
with_stop (Breakpoint slot) p = record p { breaks = p.breaks ++ slot ∷ [] }
with_stop (Watch address) p = record p { watches = p.watches ++ address ∷ [] }

-- Where one is removed the others stay in their order.
abbrev pub without_stop : Stop → Point → Point
without_stop (Breakpoint slot) p = record p { breaks = filter (λ other. not (other == slot)) p.breaks }
without_stop (Watch address) p = record p { watches = filter (λ other. not (other == address)) p.watches }
