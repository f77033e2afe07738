use Rattle.std.proofs.Common.{◌≡◌, ℕ, List, ◌++◌, ap, append_assoc, sym, ◌∙◌}
use Rattle.bpf_steps.specs.State.{State}
use Rattle.bpf_remote.specs.Answers.{stop_text, text_of}
use Rattle.bpf_remote.specs.declared.answer.Answer.{Answer}
use Rattle.bpf_remote.specs.declared.manners.Manners.{Manners}
use Rattle.bpf_remote.proofs.Telling.{Holds-text}
use Rattle.bpf_remote.proofs.answer.append_answer.Goals as goal

answered : (text : List ℕ) (m : Manners) (x : State) (before after : Answer) → before ≡ after → text ++ text_of m x after ≡ text ++ text_of m x before
answered text m x before after e = ap (λ (v : Answer). text ++ text_of m x v) (sym e)

pub returns-in-Done : goal.returns-in-Done
returns-in-Done c = λ text held. Holds-text _ _ _ (c.append.ensures text held) (answered text c.args.manners c.args.cpu.now _ _ c.in-Done.is)

pub returns-in-Error : goal.returns-in-Error
returns-in-Error c = λ text held. Holds-text _ _ _ (c.append_error.ensures text held) (answered text c.args.manners c.args.cpu.now _ _ c.in-Error.is)

pub returns-in-Halted : goal.returns-in-Halted
returns-in-Halted c = λ text held.
    Holds-text _ _ _ (c.append_stop.ensures _ (c.append-in-Halted.ensures text held))
    (append_assoc text _ _ ∙ ap (λ (v : List ℕ). text ++ (v ++ stop_text c.args.manners c.args.cpu.now)) (c.as_bytes.ensures.value ∙ c.text_of_halt.ensures)
    ∙ answered text c.args.manners c.args.cpu.now _ _ c.in-Halted.is)

pub returns-in-Watched : goal.returns-in-Watched
returns-in-Watched c = λ text held.
    Holds-text _ _ _ (c.append_stop-in-Watched.ensures _ (c.append_watched.ensures text held))
    (append_assoc text _ _ ∙ answered text c.args.manners c.args.cpu.now _ _ c.in-Watched.is)

pub returns-in-Actions : goal.returns-in-Actions
returns-in-Actions c = λ text held. Holds-text _ _ _ (c.append-in-Actions.ensures text held) (answered text c.args.manners c.args.cpu.now _ _ c.in-Actions.is)

pub returns-in-Registers : goal.returns-in-Registers
returns-in-Registers c = λ text held. Holds-text _ _ _ (c.append_registers.ensures text held) (answered text c.args.manners c.args.cpu.now _ _ c.in-Registers.is)

pub returns-in-Register : goal.returns-in-Register
returns-in-Register c = λ text held. Holds-text _ _ _ (c.append_register.ensures text held) (answered text c.args.manners c.args.cpu.now _ _ c.in-Register.is)

pub returns-in-Memory : goal.returns-in-Memory
returns-in-Memory c = λ text held. Holds-text _ _ _ (c.append_memory.ensures text held) (answered text c.args.manners c.args.cpu.now _ _ c.in-Memory.is)

pub returns-in-Supported : goal.returns-in-Supported
returns-in-Supported c = λ text held. Holds-text _ _ _ (c.append-in-Supported.ensures text held) (ap (λ (v : List ℕ). text ++ v) (c.as_bytes-in-Supported.ensures.value ∙ c.supported_text.ensures) ∙ answered text c.args.manners c.args.cpu.now _ _ c.in-Supported.is)

pub returns-in-Attached : goal.returns-in-Attached
returns-in-Attached c = λ text held. Holds-text _ _ _ (c.append-in-Attached.ensures text held) (answered text c.args.manners c.args.cpu.now _ _ c.in-Attached.is)

pub returns-in-Description : goal.returns-in-Description
returns-in-Description c = λ text held. Holds-text _ _ _ (c.append_description.ensures text held) (answered text c.args.manners c.args.cpu.now _ _ c.in-Description.is)
