-- Scaffolding: no public contract cites this. What is said, as the code has it.
use Rattle.std.specs.Prelude.{◌≡◌, ℕ, List, Option, Some, None, Result, Ok, Err, true}
use Rattle.bpf_entries.specs.Keeping.{Kept}
use Rattle.bpf_session.specs.Sessions.{SessionValue}
use Rattle.counted_io.specs.Counted.{Tally}
use Rattle.counted_io.specs.Writing.{Writes}
use Rattle.bpf_questions.specs.Conversations.{Hears, Said, ends, nothing, says, told}
use Rattle.bpf_questions.specs.declared.fault.ConversationFault.{ConversationFault}
use Rattle.bpf_questions.specs.declared.fault.ConversationFault.TheVariants as fault
use Rattle.bpf_questions.specs.declared.obeying.Heard.{Heard}
use Rattle.bpf_questions.specs.declared.obeying.Heard.TheVariants as heard
use Rattle.bpf_questions.specs.declared.stop.Past.{Past}
use Rattle.bpf_questions.specs.declared.view.View.{View}

abbrev pub said_of : Heard → Said
said_of heard.Nothing = nothing
said_of heard.End = ends
said_of (heard.Says message) = says message.kind message.text.items

module _ {K W : Type 0} (holds : K → List Kept → Type 0) (refusals room : K → ℕ) (contents : W → Option (List ℕ)) where
  -- What a line was told, and whether it was written.
  abbrev pub TellsLine : View → SessionValue K × Past → SessionValue K → ℕ → List ℕ → Tally W × Tally W → Result (Option Past) ConversationFault → Type 0
  TellsLine v old new number line w (Ok (Some past)) = (said : Said) × Hears holds refusals room v old (new, past) line said × (said.on ≡ true)
      × Writes {A = Unit {0}} {E = ConversationFault} contents w.0 w.1 (Ok tt) (told holds refusals room v number said.message)
  TellsLine v old new number line w (Ok None) = (past : Past) × Hears holds refusals room v old (new, past) line ends × (w.1 ≡ w.0)
  TellsLine v old new number line w (Err fault.Write) = (past : Past) × (said : Said) × Hears holds refusals room v old (new, past) line said
      × Writes {A = Unit {0}} {E = ConversationFault} contents w.0 w.1 (Err fault.Write) (told holds refusals room v number said.message)
  TellsLine v old new number line w (Err fault.Memory) = w.1 ≡ w.0
  TellsLine v old new number line w (Err fault.Read) = ⊥
