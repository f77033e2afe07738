-- The texts of replies. bpfdb's own choice.
use Rattle.std.specs.Prelude.{ℕ, List, [], Option, Some, None, Result, Ok, Err, IsSome, length, sum_by}
use lib.Chars.{codes}
use Rattle.bpf_isa.specs.Programs.{IsStart}
use Rattle.bpf_steps.specs.Regions.{index_of}
use Rattle.bpf_steps.specs.State.{State}
use Rattle.bpf_journal.specs.Histories.{record_weight}
use Rattle.bpf_journal.specs.Lookups.{last_change}
use Rattle.bpf_journal.specs.declared.timeline.ByteChange.{ByteChange}
use Rattle.bpfdb_script.specs.Refusals.{refusal_text}
use Rattle.bpfdb_script.specs.declared.command.View.{View}
use Rattle.bpfdb_script.specs.declared.command.View.TheVariants as view
use Rattle.bpfdb_script.specs.declared.refusal.Refusal.{Refusal}
use Rattle.bpfdb_script.specs.Texts.{text_of_state, text_of_frames, text_of_breaks, text_of_history, text_of_trace, text_of_bytes, instructions_from, text_of_change, text_of_unchanged, text_of_move}
use Rattle.bpf_session.specs.Points.{Point, Bounds}
use Rattle.bpf_session.specs.Backward.{marks}
use Rattle.bpf_session.specs.declared.reply.Reply.{Reply}
use Rattle.bpf_session.specs.declared.reply.Reply.TheVariants as reply

-- The latest change of a byte, or how many kept moves did not change it.
abbrev pub text_of_last : Option ByteChange → ℕ → List ℕ
text_of_last (Some c) moves = text_of_change c.moves c.old c.new
text_of_last None moves = text_of_unchanged moves

-- What is printed for a view.
unfoldable pub text_of_view : Bounds → View → Point → List ℕ
text_of_view b view.Registers p = text_of_state p.state
text_of_view b view.Frames p = text_of_frames p.state
text_of_view b view.Breaks p = text_of_breaks p.breaks p.watches
text_of_view b view.History p = text_of_history (length p.history) (marks p) (sum_by record_weight p.history) b.room
text_of_view b view.Trace p = text_of_trace p.state
text_of_view b (view.Bytes address n) p = text_of_bytes p.state address n
text_of_view b (view.Instructions slot n) p = instructions_from p.state.program slot n
text_of_view b (view.LastWrite address) p = text_of_last (last_change address p.history p.state) (length p.history)

-- What is printed for a reply.
unfoldable pub text_of_reply : Bounds → Reply → Point → List ℕ
text_of_reply b (reply.Forward k why) p = text_of_move k (codes " forward; ") why p.state
text_of_reply b (reply.Back k why) p = text_of_move k (codes " back; ") why p.state
text_of_reply b (reply.Redone k why) p = text_of_move k (codes " redone; ") why p.state
text_of_reply b reply.Ok p = codes "ok\n"
text_of_reply b (reply.Shown what) p = text_of_view b what p
text_of_reply b reply.Nothing p = []

-- What is printed for a reply or a refusal.
abbrev pub text_of_answer : Bounds → Result Reply Refusal → Point → List ℕ
text_of_answer b (Ok reply) p = text_of_reply b reply p
text_of_answer b (Err refusal) p = refusal_text refusal

-- What a view names is there: its run of bytes is present, an instruction starts at its slot.
abbrev pub IsInSight : View → State → Type 0
IsInSight (view.Bytes address n) x = IsSome (index_of x.memory address n)
IsInSight (view.Instructions slot n) x = IsStart x.program slot
IsInSight _ x = Unit {0}

-- The same of what a reply shows.
abbrev pub IsThere : Reply → State → Type 0
IsThere (reply.Shown what) x = IsInSight what x
IsThere _ x = Unit {0}
