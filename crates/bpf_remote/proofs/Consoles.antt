-- A line that gdb shows to its user.
use Rattle.std.proofs.Common.{◌≡◌, ◌-◌, inl, inr, ℕ, Bool, true, false, List, [], Option, Result, refl, ap, subst, sym, ◌∙◌}
use Rattle.std.proofs.lemmas.List.{append-nil}
use Rattle.bpf_steps.specs.State.{State}
use Rattle.counted_io.specs.Counted.{Tally}
use Rattle.counted_io.specs.Writing.{Writes, WritesAfter}
use Rattle.bpf_remote.specs.Remarks.{console_text, remark_of}
use Rattle.bpf_remote.specs.declared.answer.Answer.{Answer}
use Rattle.bpf_remote.specs.declared.remark.Remark.{Remark}
use Rattle.bpf_remote.specs.declared.request.Request.{Request}
use Rattle.bpf_remote.specs.Connections.{IsConsole}
use Rattle.bpf_remote.specs.Packets.{framed}

-- none
pub no-console : (told : Bool) (line : List ℕ) → IsConsole told line []
no-console true line = inr refl
no-console false line = refl

-- one
pub a-console : (told : Bool) (line text : List ℕ) → told ≡ true → text ≡ framed (console_text line) → IsConsole told line text
a-console true line text e h = inl h
a-console false line text e h = absurd cc

-- nothing was written
pub no-text : {W A E : Type 0} (contents : W → Option (List ℕ)) (old : Tally W) (before : Result A E) → WritesAfter contents old before old before []
no-text contents old before = λ first front known. subst (λ (v : List ℕ). Writes contents first old before v) (sym (append-nil front)) known

-- a remark from equal parts
pub remarked : (r : Request) (told : Answer) (x y : State) (limit most dropped moves kept len : ℕ) (remark : Remark) → remark ≡ remark_of r told x limit dropped
    → x ≡ y → limit ≡ most → dropped ≡ moves - kept → kept ≡ len → remark ≡ remark_of r told y most (moves - len)
remarked r told x y limit most dropped moves kept len remark e same limits left count =
    e ∙ ap (λ (v : State). remark_of r told v limit dropped) same ∙ ap (λ (v : ℕ). remark_of r told y v dropped) limits
    ∙ ap (λ (v : ℕ). remark_of r told y most v) (left ∙ ap (λ (v : ℕ). moves - v) count)
