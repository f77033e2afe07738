-- Where a move went, and the answer about it.
use Rattle.std.proofs.Common.{◌≡◌, ℕ, ◌+◌, Bool, true, false, List, [], ◌∷◌, ◌++◌, length, Option, refl, sym, ap, subst, ◌∙◌, arith}
use Rattle.std.specs.Prelude.{Result, ◌^◌, ◌<◌, ◌||◌, if◌then◌else◌, codes}
use Rattle.counted_io.specs.Counted.{Tally}
use Rattle.counted_io.specs.Writing.{WritesAfter}
use Rattle.counted_io.proofs.Appending.{WritesAfter-WritesAfter}
use Rattle.counted_io.specs.declared.fault.WriteFault.{WriteFault}
use Rattle.bpf_journal.specs.Histories.{Record, is_step}
use Rattle.bpf_journal.specs.Tracks.{Track}
use Rattle.bpf_steps.specs.State.{State}
use Rattle.bpf_machine.specs.declared.moves.Move.{Move}
use Rattle.bpf_machine.specs.declared.moves.Move.TheVariants as move
use Rattle.bpf_origin.specs.Answers.{Answer, TellsOrigin, past_by, with_line}
use Rattle.bpf_origin.specs.Asked.{answer_about}
use Rattle.bpf_origin.specs.Pasts.{IsSameKeeper, Stand, StandsThere, gone_back, gone_from}
use Rattle.bpf_origin.specs.Reads.{conditions}
use Rattle.bpf_origin.specs.declared.place.Part.{Part}
use Rattle.bpfdb_script.specs.Texts.{place}
use Rattle.bpf_origin.specs.declared.question.Told.{Told}
use Rattle.bpf_origin.specs.declared.question.Extent.TheVariants.{Whole}
use Rattle.bpf_origin.proofs.Backs.{back_on, keeps_on}
use Rattle.bpf_whynot.specs.Answers.{Query, because, edited_text, is_none, left_after, left_by, lost_line, never_text, only, reached_text, reaches, still_text, stood_at, went_text, not_come}
use Rattle.bpf_whynot.specs.Reach.{can_from}
use Rattle.bpf_whynot.specs.Standings.{standing}
use Rattle.bpf_whynot.specs.Turns.{IsLeft, IsNeverLeft}
use Rattle.bpf_whynot.specs.declared.whynot.Left.{Left}

-- which move it was
pub step_only : (m : Move) → is_step m ≡ true → m ≡ move.Step
step_only move.Step e = refl
step_only (move.Edit edit) e = absurd cc

pub went_edit : (m : Move) (x y : State) → is_step m ≡ false → went_text x m y ≡ edited_text y.pc
went_edit move.Step x y e = absurd cc
went_edit (move.Edit edit) x y e = refl

-- where the values came from that a move compared
pub some_parts : (parts : List Part) → 0 < length parts → is_none parts ≡ false
some_parts [] some = absurd (omega (arith, some))
some_parts (p ∷ parts) some = refl

because_if : (s : Query) (r : Record) (h : List Record) (a b : Bool) → s.alone ≡ a → is_none (conditions r.before r.move) ≡ b → a ≡ false → b ≡ false
    → because s r h ≡ with_line (place r.before ++ codes "\n") (answer_about s.question (conditions r.before r.move) h r.before)
because_if s r h false false ea eb fa fb =
    ap (λ (a : Bool). if a || is_none (conditions r.before r.move) then only []
    else with_line (place r.before ++ codes "\n") (answer_about s.question (conditions r.before r.move) h r.before)) ea
    ∙ ap (λ (b : Bool). if b then only []
    else with_line (place r.before ++ codes "\n") (answer_about s.question (conditions r.before r.move) h r.before)) eb
because_if s r h true b ea eb fa fb = absurd cc
because_if s r h false true ea eb fa fb = absurd cc

pub because_is : (s : Query) (r : Record) (h : List Record) (x : State) (parts : List Part) → s.alone ≡ false → is_none parts ≡ false → parts ≡ conditions r.before r.move → x ≡ r.before
    → because s r h ≡ with_line (place x ++ codes "\n") (answer_about s.question parts h x)
because_is s r h x parts alone none is at =
    because_if s r h s.alone (is_none (conditions r.before r.move)) refl refl alone (ap is_none (sym is) ∙ none)
    ∙ ap (λ (z : State). with_line (place z ++ codes "\n") (answer_about s.question (conditions r.before r.move) h z)) (sym at)
    ∙ ap (λ (ps : List Part). with_line (place x ++ codes "\n") (answer_about s.question ps h x)) (sym is)

pub left_is : (s : Query) (k : ℕ) (r : Record) (h : List Record) (x y : State) → stood_at s r ≡ false → x ≡ r.before
    → left_by s k r h y ≡ with_line (lost_line s.question.places k x r.move y) (because s r h)
left_is s k r h x y e at =
    ap (λ (b : Bool). if b then only (reached_text k) else with_line (lost_line s.question.places k r.before r.move y) (because s r h)) e
    ∙ ap (λ (z : State). with_line (lost_line s.question.places k z r.move y) (because s r h)) (sym at)

pub still_is : (can : ℕ → List ℕ → Bool) (s : Query) (h : List Record) (y : State) → can_from can y ≡ true → not_come can s h y ≡ only still_text
still_is can s h y e = ap (λ (b : Bool). if b then only still_text else left_after (reaches can) s 0 h y) e

pub lost_is : (can : ℕ → List ℕ → Bool) (s : Query) (h : List Record) (y : State) → can_from can y ≡ false → not_come can s h y ≡ left_after (reaches can) s 0 h y
lost_is can s h y e = ap (λ (b : Bool). if b then only still_text else left_after (reaches can) s 0 h y) e

module _ {P W : Type 0} (state : P → State) (follows : P → Track → Type 0) (size refusals : P → ℕ) (contents : W → Option (List ℕ)) where
  -- a text that is the whole answer, and nothing was taken back for it
  pub told_only : (answers : Track → Answer) (p : P) (was now : Tally W) (before last : Result (Unit {0}) WriteFault) (text : List ℕ) (told : Told)
      → WritesAfter contents was before now last text → told ≡ record { written = last; extent = Whole; moves = 0 }
      → ((t : Track) → follows p t → answers t ≡ only text) → TellsOrigin (past_by state follows size refusals) answers p p (WritesAfter contents was before now) told
  told_only answers p was now before last text told writes is all = record {
    text = λ t stands.
        subst (λ (r : Result (Unit {0}) WriteFault). WritesAfter contents was before now r (answers t).text) (sym (ap (λ (o : Told). o.written) is))
        (subst (λ (a : Answer). WritesAfter contents was before now last a.text) (sym (all t stands)) writes);
    extent = λ t stands. ap (λ (o : Told). o.extent) is ∙ sym (ap (λ (a : Answer). a.extent) (all t stands));
    back = λ t stands.
        subst (λ (n : ℕ). StandsThere state follows p (gone_from n t (state p))) (sym (ap (λ (o : Told). o.moves) is)) (record { at = refl; on = stands });
    within = λ t stands. let none = ap (λ (o : Told). o.moves) is in omega (arith, none);
    keeper = record { room = refl; refused = refl };
  }

  -- a text, and then the rest of the answer
  pub told_line : (answers others : Track → Answer) (p new : P) (was mid now : Tally W) (before between : Result (Unit {0}) WriteFault) (text : List ℕ) (told : Told)
      → WritesAfter contents was before mid between text → TellsOrigin (past_by state follows size refusals) others p new (WritesAfter contents mid between now) told
      → ((t : Track) → follows p t → answers t ≡ with_line text (others t)) → TellsOrigin (past_by state follows size refusals) answers p new (WritesAfter contents was before now) told
  told_line answers others p new was mid now before between text told writes rest all = record {
    text = λ t stands.
        subst (λ (a : Answer). WritesAfter contents was before now told.written a.text) (sym (all t stands))
        (WritesAfter-WritesAfter contents was mid now before between told.written text (others t).text (text ++ (others t).text) writes (rest.text t stands) refl);
    extent = λ t stands. rest.extent t stands ∙ sym (ap (λ (a : Answer). a.extent) (all t stands));
    back = rest.back;
    within = rest.within;
    keeper = rest.keeper;
  }

  -- the same answer, said otherwise
  pub told_same : (answers others : Track → Answer) (p new : P) (was now : Tally W) (before : Result (Unit {0}) WriteFault) (told : Told)
      → TellsOrigin (past_by state follows size refusals) others p new (WritesAfter contents was before now) told
      → ((t : Track) → follows p t → answers t ≡ others t) → TellsOrigin (past_by state follows size refusals) answers p new (WritesAfter contents was before now) told
  told_same answers others p new was now before told rest all = record {
    text = λ t stands. subst (λ (a : Answer). WritesAfter contents was before now told.written a.text) (sym (all t stands)) (rest.text t stands);
    extent = λ t stands. rest.extent t stands ∙ sym (ap (λ (a : Answer). a.extent) (all t stands));
    back = rest.back;
    within = rest.within;
    keeper = rest.keeper;
  }

  -- the moves up to the one that was found, and then those that its answer took back
  pub told_left : (test : ℕ → State → Bool) (s : Query) (p mid new : P) (was now : Tally W) (before : Result (Unit {0}) WriteFault) (kept m : ℕ) (left : Left) (told : Told)
      → ((t : Track) → follows p t → kept ≡ length t.history) → kept < 2 ^ 64
      → ((t : Track) → follows p t → IsLeft state follows test t (state p) mid left) → IsSameKeeper size refusals p mid
      → ((r : Record) (y : State) → state mid ≡ r.before → left.is_step ≡ is_step r.move → left.after ≡ standing y
      → TellsOrigin (past_by state follows size refusals) (λ (u : Track). left_by s left.moves r u.history y) mid new (WritesAfter contents was before now) told)
      → IsSameKeeper size refusals mid new
      → (left.moves + told.moves < 2 ^ 64 → m ≡ left.moves + told.moves)
      → TellsOrigin (past_by state follows size refusals) (λ (t : Track). left_after test s 0 t.history (state p)) p new (WritesAfter contents was before now)
      (record { written = told.written; extent = told.extent; moves = m })
  told_left test s p mid new was now before kept m left told counts fits lefts keeper tells same sum = record {
    text = λ t stands.
        let l = lefts t stands in
        let rest = tells l.record_left l.next l.stands.at l.step l.after in
        subst (λ (a : Answer). WritesAfter contents was before now told.written a.text) (sym (l.is s))
        (rest.text (record { history = l.older; ahead = l.ahead }) l.stands.on);
    extent = λ t stands.
        let l = lefts t stands in
        let rest = tells l.record_left l.next l.stands.at l.step l.after in
        rest.extent (record { history = l.older; ahead = l.ahead }) l.stands.on ∙ sym (ap (λ (a : Answer). a.extent) (l.is s));
    back = λ t stands.
        let l = lefts t stands in
        let rest = tells l.record_left l.next l.stands.at l.step l.after in
        let way = back_on left.moves told.moves t.history t.ahead (state p) l.older l.ahead l.record_left.before l.way in
        let all = sum (short t stands l rest) in
        subst (λ (n : ℕ). StandsThere state follows new (gone_from n t (state p))) (sym all)
        (subst (λ (d : Stand). StandsThere state follows new d) (sym way)
        (subst (λ (x : State). StandsThere state follows new (gone_back told.moves l.older l.ahead x)) l.stands.at
        (rest.back (record { history = l.older; ahead = l.ahead }) l.stands.on)));
    within = λ t stands.
        let l = lefts t stands in
        let rest = tells l.record_left l.next l.stands.at l.step l.after in
        let all = sum (short t stands l rest) in
        let few = rest.within (record { history = l.older; ahead = l.ahead }) l.stands.on in
        let count = l.count in
        omega (arith, all, few, count);
    keeper = keeps_on size refusals p mid new keeper same;
  }
    where
      short : (t : Track) → follows p t → (l : IsLeft state follows test t (state p) mid left)
          → TellsOrigin (past_by state follows size refusals) (λ (u : Track). left_by s left.moves l.record_left u.history l.next) mid new (WritesAfter contents was before now) told
          → left.moves + told.moves < 2 ^ 64
      short t stands l rest =
          let few = rest.within (record { history = l.older; ahead = l.ahead }) l.stands.on in
          let count = l.count in
          let all = counts t stands in
          omega (arith, few, count, all, fits)

  pub told_never : (test : ℕ → State → Bool) (s : Query) (p new : P) (was now : Tally W) (before last : Result (Unit {0}) WriteFault) (kept : ℕ) (told : Told)
      → ((t : Track) → follows p t → kept ≡ length t.history)
      → ((t : Track) → follows p t → IsNeverLeft state follows test t (state p) new) → IsSameKeeper size refusals p new
      → WritesAfter contents was before now last (never_text s.question.opening) → told ≡ record { written = last; extent = Whole; moves = kept }
      → TellsOrigin (past_by state follows size refusals) (λ (t : Track). left_after test s 0 t.history (state p)) p new (WritesAfter contents was before now) told
  told_never test s p new was now before last kept told counts nevers keeper writes is = record {
    text = λ t stands.
        subst (λ (r : Result (Unit {0}) WriteFault). WritesAfter contents was before now r (left_after test s 0 t.history (state p)).text) (sym (ap (λ (o : Told). o.written) is))
        (subst (λ (a : Answer). WritesAfter contents was before now last a.text) (sym ((nevers t stands).is s)) writes);
    extent = λ t stands. ap (λ (o : Told). o.extent) is ∙ sym (ap (λ (a : Answer). a.extent) ((nevers t stands).is s));
    back = λ t stands.
        subst (λ (n : ℕ). StandsThere state follows new (gone_from n t (state p))) (sym (ap (λ (o : Told). o.moves) is ∙ counts t stands)) (nevers t stands).stands;
    within = λ t stands. let moves = ap (λ (o : Told). o.moves) is in let all = counts t stands in omega (arith, moves, all);
    keeper = keeper;
  }
