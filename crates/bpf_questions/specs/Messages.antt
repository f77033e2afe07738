-- Messages and the forms in which they are written. bpfdb's own choice.
use Rattle.std.specs.Prelude.{◌≡◌, ℕ, List, ◌++◌, Option, Result, Ok, Err, decimal}
use lib.Chars.{codes}
use Rattle.answer_forms.specs.Json.{quoted}
use Rattle.counted_io.specs.Counted.{Tally}
use Rattle.counted_io.specs.Writing.{Writes}
use Rattle.bpf_questions.specs.declared.fault.ConversationFault.{ConversationFault}
use Rattle.bpf_questions.specs.declared.fault.ConversationFault.TheVariants.{Read, Write, Memory}
use Rattle.bpf_questions.specs.declared.message.Form.{Form}
use Rattle.bpf_questions.specs.declared.message.Form.TheVariants as form
use Rattle.bpf_questions.specs.declared.message.Kind.{Kind}
use Rattle.bpf_questions.specs.declared.message.Kind.TheVariants as kind

abbrev pub kind_name : Kind → List ℕ
kind_name kind.Reply = codes "reply"
kind_name kind.Answer = codes "answer"
kind_name kind.Refused = codes "refused"

-- A line of JSON: the number of the line that is answered, what the message is, and its text, a string.
abbrev pub json_text : ℕ → Kind → List ℕ → List ℕ
json_text number kind string =
    codes "{\"line\":" ++ decimal number ++ codes ",\"kind\":\"" ++ kind_name kind ++ codes "\",\"text\":" ++ string ++ codes "}\n"

-- A message to the line of this number: as it is, or as a line of JSON.
abbrev pub message_text : Form → ℕ → Kind → List ℕ → List ℕ
message_text form.Text number kind text = text
message_text form.Json number kind text = json_text number kind (quoted text)

-- A message was written; or a write failed, before which a beginning of it was; or memory ran out, and nothing was written.
abbrev pub WritesMessage : {W A : Type 0} → (W → Option (List ℕ)) → Tally W → Tally W → Result A ConversationFault → List ℕ → Type 0
WritesMessage {A = A} contents old new (Ok value) text = Writes {A = A} {E = ConversationFault} contents old new (Ok value) text
WritesMessage {A = A} contents old new (Err Write) text = Writes {A = A} {E = ConversationFault} contents old new (Err Write) text
WritesMessage contents old new (Err Memory) text = new ≡ old
WritesMessage contents old new (Err Read) text = ⊥
