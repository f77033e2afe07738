-- Answers to where a value came from, and their packets.
use Rattle.std.proofs.Common.{◌≡◌, ◌≤◌, ◌*◌, ◌⊎◌, inl, inr, ℕ, List, [], ◌∷◌, ◌++◌, Option, Some, None, Bool, true, false, Result, Ok, Err, IfOk, length, refl, sym, ap, subst, ◌∙◌, append_assoc, arith}
use Rattle.std.specs.Borrow.{Bor}
use Rattle.std.specs.Prelude.{MatchResult, if◌then◌else◌, drop, take}
use Rattle.std.specs.Option.{option_map, unwrap_or}
use Rattle.std.proofs.lemmas.Grind.{common_steps}
use Rattle.std.specs.Result.{result_ok}
use Rattle.std.specs.Str.{bytes_eq}
use Rattle.hex.specs.Hex.{decode_of}
use lib.Chars.{codes}
use Rattle.bpf_steps.specs.State.{State}
use Rattle.std.proofs.lemmas.List.{append-nil}
use Rattle.counted_io.specs.Counted.{Tally}
use Rattle.counted_io.specs.Writing.{WritesAfter}
use Rattle.counted_io.proofs.Appending.{WritesAfter-WritesAfter}
use Rattle.bpf_entries.specs.Keeping.{Kept}
use Rattle.bpf_journal.specs.Tracks.{Track}
use Rattle.bpf_origin.specs.Asked.{answer_about, parts_asked}
use Rattle.bpf_origin.specs.declared.what.What.{What}
use Rattle.bpf_lines.specs.NamedTexts.{named_text}
use Rattle.bpf_lines.specs.declared.place_names.Names.{Names}
use Rattle.bpf_session.specs.Sessions.{HasPast, SessionValue}
use Rattle.bpf_remote.specs.Numbers.{behind, hex_text}
use Rattle.bpf_remote.specs.Origins.{ComesBack, asked_in, named_in, Fits, FitsNamed, Shows, TellsOrigin, longest_part, question_of, too_long}
use Rattle.bpf_remote.specs.Packets.{framed, longest_body}
use Rattle.bpf_remote.specs.declared.manners.Manners.{Manners}
use Rattle.bpf_remote.proofs.Consoles.{no-text}

-- A text that fits, and one that doesn't.
pub fitting : {A E : Type 0} (items : A → List ℕ) (r : Result A E) (shown answer : List ℕ)
    → MatchResult r (λ a. shown ≡ items a) (λ _. shown ≡ too_long) → IfOk r (λ a. items a ≡ answer) → Fits answer shown
fitting items (Ok a) shown answer is e = inl (is ∙ e)
fitting items (Err fault) shown answer is e = inr is

-- The same of one that is told with names; and one without names, and what there is no memory to name, are told as they are.
pub fitting-named : {A E T : Type 0} (items : A → List ℕ) (r : Result A E) (shown : List ℕ) (names : Option (Bor Names)) (P : T → Type 0) (answer : T → List ℕ)
    → MatchResult r (λ a. FitsNamed names (items a) shown) (λ _. shown ≡ too_long) → IfOk r (λ a. (t : T) → P t → items a ≡ answer t) → (t : T) → P t
    → FitsNamed names (answer t) shown
fitting-named items (Ok a) shown names P answer is e t p = subst (λ (v : List ℕ). FitsNamed names v shown) (e t p) is
fitting-named items (Err fault) shown names P answer is e t p = inl (inr is)

pub without-names : {A E : Type 0} (r : Result A E) (names : Option (Bor Names)) (text shown : List ℕ) → MatchResult r (λ _. shown ≡ text) (λ _. shown ≡ too_long)
    → MatchResult r (λ _. FitsNamed names text shown) (λ _. shown ≡ too_long)
without-names (Ok a) names text shown is = inr is
without-names (Err fault) names text shown is = is

pub with-names : (names : Bor Names) (text shown : List ℕ) → (shown ≡ named_text names.now text) ⊎ (shown ≡ text) → FitsNamed (Some names) text shown
with-names names text shown (inl is) = inl (inl is)
with-names names text shown (inr is) = inr is

module _ {K : Type 0} (holds : K → List Kept → Type 0) (refusals room : K → ℕ) where
  pub tells-answer : {A E : Type 0} (items : A → List ℕ) (r : Result A E) (m : Manners) (what : Option What) (old new : SessionValue K) (left : ℕ) (shown : List ℕ)
      → ComesBack holds refusals room old new left
      → IfOk r (λ a. (t : Track) → HasPast holds old t → items a ≡ (answer_about (question_of m.target.places m.moves t) (parts_asked old.moment.state what) t.history old.moment.state).text)
      → MatchResult r (λ a. FitsNamed m.target.names (items a) shown) (λ _. shown ≡ too_long)
      → TellsOrigin holds refusals room m (Ok what) old new left shown
  tells-answer items r m what old new left shown back texts is =
      (back, fitting-named items r shown m.target.names (HasPast holds old) (λ t. (answer_about (question_of m.target.places m.moves t) (parts_asked old.moment.state what) t.history old.moment.state).text) is texts)

-- No part is left, and one more was shown.
shows-none : Shows [] []
shows-none = record { parts = []; whole = refl; sent = refl }

shows-more : (text part others told : List ℕ) → text ≡ part ++ others → Shows others told → Shows text (framed (79 ∷ hex_text part) ++ told)
shows-more text part others told e s = record {
  parts = part ∷ s.parts;
  whole = ap (λ (v : List ℕ). part ++ v) s.whole ∙ sym e;
  sent = ap (λ (v : List ℕ). framed (79 ∷ hex_text part) ++ v) s.sent;
}

-- A part fits a packet.
hex-length : (xs : List ℕ) → length (hex_text xs) ≡ 2 * length xs
unfolding hex_text
hex-length [] = refl
hex-length (x ∷ xs) = omega (arith, hex-length xs)

pub part-fits : (part : List ℕ) → length part ≤ longest_part → length (79 ∷ hex_text part) ≤ longest_body
part-fits part short = omega (arith, short, hex-length part)

-- What is shown so far of a text, of which the rest is left.
pub record Showing {W A E : Type 0} (contents : W → Option (List ℕ)) (old : Tally W) (before : Result A E) (now : Tally W) (told : Result A E) (text rest : List ℕ) : Type 0 where
  pub done : List ℕ
  pub written : WritesAfter contents old before now told done
  pub on : (more : List ℕ) → Shows rest more → Shows text (done ++ more)

module _ {W A E : Type 0} (contents : W → Option (List ℕ)) (old : Tally W) (before : Result A E) where
  pub showing-start : (text : List ℕ) → Showing contents old before old before text text
  showing-start text = record { done = []; written = no-text contents old before; on = λ more s. s }

  pub showing-step : (now new : Tally W) (told said : Result A E) (text rest part others : List ℕ) → rest ≡ part ++ others → Showing contents old before now told text rest
      → WritesAfter contents now told new said (framed (79 ∷ hex_text part)) → Showing contents old before new said text others
  showing-step now new told said text rest part others e s w = record {
    done = s.done ++ framed (79 ∷ hex_text part);
    written = WritesAfter-WritesAfter contents _ _ _ _ _ _ _ _ _ s.written w refl;
    on = λ more t. subst (Shows text) (sym (append_assoc s.done (framed (79 ∷ hex_text part)) more)) (s.on (framed (79 ∷ hex_text part) ++ more) (shows-more rest part others more e t));
  }

  pub showing-end : (now : Tally W) (told : Result A E) (text rest : List ℕ) → rest ≡ [] → Showing contents old before now told text rest
      → (shown : List ℕ) × Shows text shown × WritesAfter contents old before now told shown
  showing-end now told text rest e s =
      (s.done, subst (Shows text) (append-nil s.done) (s.on [] (subst (λ (r : List ℕ). Shows r []) (sym e) shows-none)), s.written)

-- What a line asks that begins with `origin` and a blank, and one that doesn't.
compose : {A B C : Type 0} (f : B → C) (h : A → B) (o : Option A) → option_map (λ a. f (h a)) o ≡ option_map f (option_map h o)
compose f h None = refl
compose f h (Some a) = refl

pub asked-some : (x : State) (digits rest : List ℕ) → bytes_eq digits (codes "6f726967696e") ≡ false → behind (codes "6f726967696e20") digits ≡ Some rest
    → option_map (λ text. named_in x (Some text)) (result_ok (decode_of rest)) ≡ asked_in x digits
asked-some x digits rest e b = rw (e, b) (compose (named_in x) Some (result_ok (decode_of rest)))

pub asked-none : (x : State) (digits : List ℕ) → bytes_eq digits (codes "6f726967696e") ≡ false → behind (codes "6f726967696e20") digits ≡ None → None ≡ asked_in x digits
asked-none x digits e b = rw (e, b) refl

-- What is behind a name is no longer than the text.
behind-cases : (b : Bool) (n : ℕ) (s rest : List ℕ) → (if b then Some (drop n s) else None) ≡ Some rest → length rest ≤ length s
behind-cases true n s rest e =
    let is : drop n s ≡ rest = ap (λ (o : Option (List ℕ)). unwrap_or o []) e in
    let le : length (drop n s) ≤ length s = grind (arith, common_steps) in
    subst (λ (v : List ℕ). length v ≤ length s) is le
behind-cases false n s rest e = absurd cc

pub behind-short : (name s rest : List ℕ) → behind name s ≡ Some rest → length rest ≤ length s
behind-short name s rest e = behind-cases (bytes_eq (take (length name) s) name) (length name) s rest e
