-- Requests and lines that are obeyed.
use Rattle.std.proofs.Common.{◌≡◌, ℕ, Bool, true, false, List, [], ◌∷◌, inl, inr, Option, Some, None, Result, Ok, Err, IfOk, refl, sym, ap, subst}
use Rattle.std.specs.Prelude.{MatchResult}
use Rattle.counted_io.specs.Counted.{Tally}
use Rattle.counted_io.specs.Writing.{Writes, WritesAfter}
use Rattle.counted_io.proofs.Appending.{Writes-none}
use Rattle.bpf_entries.specs.Keeping.{Kept}
use Rattle.bpf_journal.specs.Tracks.{Track}
use Rattle.bpfdb_script.specs.declared.command.Command.{Command}
use Rattle.bpfdb_script.specs.declared.refusal.Refusal.{Refusal}
use Rattle.bpf_session.specs.declared.reply.Reply.{Reply}
use Rattle.bpf_session.specs.Replies.{text_of_answer}
use Rattle.bpf_session.specs.Sessions.{SessionValue, HasPast, bounds_of, point_of}
use Rattle.bpf_remote.specs.Answers.{error_text}
use Rattle.bpf_remote.specs.Connections.{Heeds, ObeysCommand, ObeysLine, Tells, line_of}
use Rattle.bpf_remote.specs.Ways.{Obeyed}
use Rattle.bpf_remote.specs.Help.{help_text}
use Rattle.bpf_remote.specs.Moves.{moves_after}
use Rattle.bpf_remote.specs.Numbers.{hex_text}
use Rattle.bpf_remote.specs.Packets.{Buffer, Holds}

pub matched-ok : {A E : Type 0} (r : Result A E) (a : A) (P : A → Type 0) (Q : E → Type 0) → r ≡ Ok a → P a → MatchResult r P Q
matched-ok {A = A} {E = E} r a P Q e p = subst (λ (v : Result A E). MatchResult v P Q) (sym e) p

pub matched-err : {A E : Type 0} (r : Result A E) (fault : E) (P : A → Type 0) (Q : E → Type 0) → r ≡ Err fault → Q fault → MatchResult r P Q
matched-err {A = A} {E = E} r fault P Q e p = subst (λ (v : Result A E). MatchResult v P Q) (sym e) p

-- what follows where it is Ok
pub if-ok : {A E : Type 0} (r : Result A E) (P : A → Type 0) → ((x : A) → r ≡ Ok x → P x) → IfOk r P
if-ok (Ok x) P h = h x refl
if-ok (Err fault) P h = tt

-- what a writer holds that held nothing
pub written-all : {W A E : Type 0} (contents : W → Option (List ℕ)) (a b : Tally W) (r : Result A E) (x : A) (text items : List ℕ)
    → Writes contents a b r text → r ≡ Ok x → contents a.inner ≡ Some [] → contents b.inner ≡ Some items → items ≡ text
written-all {A = A} {E = E} contents a b r x text items h e none some =
    let w : Writes contents a b (Ok x) text = subst (λ (v : Result A E). Writes contents a b v text) e h in
    rw (none, some) at w.ok

-- the same behind what was written before
pub written : {W A E : Type 0} (contents : W → Option (List ℕ)) (a b : Tally W) (r : Result A E) (before x : A) (text items : List ℕ)
    → WritesAfter contents a (Ok before) b r text → r ≡ Ok x → contents a.inner ≡ Some [] → contents b.inner ≡ Some items → items ≡ text
written {A = A} {E = E} contents a b r before x text items h e none some =
    let w : Writes contents a b (Ok x) text = subst (λ (v : Result A E). Writes contents a b v text) e (h a [] (Writes-none contents a before)) in
    rw (none, some) at w.ok

-- a text in hexadecimal, or an error
pub told : {A E : Type 0} (items : A → List ℕ) (r : Result A E) (buffer : Buffer) (text : List ℕ)
    → MatchResult r (λ a. Holds buffer (hex_text (items a))) (λ _. Holds buffer (error_text 16)) → IfOk r (λ a. items a ≡ text)
    → (body : List ℕ) × Holds buffer body × Tells text body
told items (Ok a) buffer text h e = (hex_text (items a), h, inl (ap hex_text e))
told items (Err fault) buffer text h e = (error_text 16, h, inr refl)

module _ {K : Type 0} (holds : K → List Kept → Type 0) (refusals room : K → ℕ) where
  pub told-quit : (s : SessionValue K) (command : Command) (quits : Bool) (moves : ℕ) (buffer : Buffer) → quits ≡ true → Holds buffer (79 ∷ 75 ∷ [])
      → (body : List ℕ) × Holds buffer body × ObeysCommand holds refusals room s s command quits body moves moves
  told-quit s command quits moves buffer e h =
      (79 ∷ 75 ∷ [], h, subst (λ (v : Bool). ObeysCommand holds refusals room s s command v (79 ∷ 75 ∷ []) moves moves) (sym e) (refl, refl, refl))

  -- what a command printed
  told-all : {A E : Type 0} (items : A → List ℕ) (r : Result A E) (buffer : Buffer) (new : SessionValue K) (said : Result Reply Refusal)
      → MatchResult r (λ a. Holds buffer (hex_text (items a))) (λ _. Holds buffer (error_text 16))
      → IfOk r (λ a. (t : Track) → HasPast holds new t → items a ≡ text_of_answer (bounds_of room new) said (point_of new t))
      → (body : List ℕ) × Holds buffer body × ((t : Track) → HasPast holds new t → Tells (text_of_answer (bounds_of room new) said (point_of new t)) body)
  told-all items (Ok a) buffer new said h e = (hex_text (items a), h, λ past had. inl (ap hex_text (e past had)))
  told-all items (Err fault) buffer new said h e = (error_text 16, h, λ past had. inr refl)

  pub told-command : {A E : Type 0} (items : A → List ℕ) (r : Result A E) (buffer : Buffer) (old new : SessionValue K) (command : Command) (quits : Bool) (said : Result Reply Refusal)
      (moves now : ℕ) → quits ≡ false → Obeyed holds refusals room old new command said → now ≡ moves_after said command moves
      → MatchResult r (λ a. Holds buffer (hex_text (items a))) (λ _. Holds buffer (error_text 16))
      → IfOk r (λ a. (t : Track) → HasPast holds new t → items a ≡ text_of_answer (bounds_of room new) said (point_of new t))
      → (body : List ℕ) × Holds buffer body × ObeysCommand holds refusals room old new command quits body moves now
  told-command items r buffer old new command quits said moves now e o m h texts =
      let t = told-all items r buffer new said h texts in
      (t.0, t.1, subst (λ (v : Bool). ObeysCommand holds refusals room old new command v t.0 moves now) (sym e) (said, o, t.2, m))

  pub line-wrong : (s : SessionValue K) (said : Option (Result (Option Command) Refusal)) (moves : ℕ) (buffer : Buffer) → said ≡ None → Holds buffer (error_text 2)
      → (body : List ℕ) × Holds buffer body × ObeysLine holds refusals room s s said body moves moves
  line-wrong s said moves buffer e h =
      (error_text 2, h, subst (λ (v : Option (Result (Option Command) Refusal)). ObeysLine holds refusals room s s v (error_text 2) moves moves) (sym e) (refl, refl, refl))

  pub line-blank : (s : SessionValue K) (said : Option (Result (Option Command) Refusal)) (moves : ℕ) (buffer : Buffer) → said ≡ Some (Ok None) → Holds buffer (79 ∷ 75 ∷ [])
      → (body : List ℕ) × Holds buffer body × ObeysLine holds refusals room s s said body moves moves
  line-blank s said moves buffer e h =
      (79 ∷ 75 ∷ [], h, subst (λ (v : Option (Result (Option Command) Refusal)). ObeysLine holds refusals room s s v (79 ∷ 75 ∷ []) moves moves) (sym e) (refl, refl, refl))

  -- a line that asks for help, and one that doesn't
  pub heeded-help : (s : SessionValue K) (digits : List ℕ) (asks : Bool) (moves : ℕ) (buffer : Buffer) → asks ≡ true → Holds buffer (hex_text help_text)
      → (body : List ℕ) × Holds buffer body × Heeds holds refusals room s s asks digits body moves moves
  heeded-help s digits asks moves buffer e h =
      (hex_text help_text, h, subst (λ (v : Bool). Heeds holds refusals room s s v digits (hex_text help_text) moves moves) (sym e) (refl, refl, refl))

  pub heeded-line : (old new : SessionValue K) (digits : List ℕ) (asks : Bool) (moves now : ℕ) (buffer : Buffer) → asks ≡ false
      → (body : List ℕ) × Holds buffer body × ObeysLine holds refusals room old new (line_of digits) body moves now
      → (body : List ℕ) × Holds buffer body × Heeds holds refusals room old new asks digits body moves now
  heeded-line old new digits asks moves now buffer e (body, h, o) =
      (body, h, subst (λ (v : Bool). Heeds holds refusals room old new v digits body moves now) (sym e) o)
