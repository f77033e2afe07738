-- The pass over a course, as far as it has come.
use Rattle.std.proofs.Common.{◌≡◌, ◌<◌, ◌≤◌, ℕ, ◌+◌, List, [], ◌∷◌, ◌++◌, length, Option, refl, sym, ap, subst, ◌∙◌, arith, append_assoc}
use Rattle.std.specs.Prelude.{Result, take}
use Rattle.counted_io.specs.Counted.{Tally}
use Rattle.counted_io.specs.Writing.{WritesAfter}
use Rattle.counted_io.proofs.Appending.{WritesAfter-WritesAfter}
use Rattle.bpfdb_script.proofs.Telling.{WritesAfter-nothing}
use Rattle.counted_io.specs.declared.fault.WriteFault.{WriteFault}
use Rattle.bpf_entries.specs.Keeping.{Kept}
use Rattle.bpf_journal.specs.Histories.{Record}
use Rattle.bpf_journal.specs.Tracks.{CourseValue, Follows, Track}
use Rattle.bpf_machine.specs.Moves.{Leads}
use Rattle.bpf_machine.proofs.StepLaws.{law_rest}
use Rattle.bpf_machine.specs.Edits.{edited}
use Rattle.bpf_machine.specs.declared.edit.Edit.{Edit}
use Rattle.bpf_machine.specs.declared.edit.Edit.TheVariants as edit
use Rattle.bpf_machine.specs.declared.moves.Move.{Move}
use Rattle.bpf_machine.specs.declared.moves.Move.TheVariants as move
use Rattle.bpf_origin.specs.Answers.{Answer, with_line}
use Rattle.bpf_origin.specs.Pasts.{CourseStands, Stand, gone_from, stand}
use Rattle.bpf_origin.specs.Texts.{lines_text}
use Rattle.bpf_origin.specs.Wanted.{most_places, want_parts}
use Rattle.bpf_origin.specs.declared.place.Part.{Part}
use Rattle.bpf_origin.specs.declared.place.Place.{Place}
use Rattle.bpf_origin.specs.declared.question.Extent.TheVariants.{Lines, Whole}
use Rattle.bpf_origin.specs.declared.question.Question.{Question}
use Rattle.bpf_origin.specs.declared.question.Told.{Told}
use Rattle.bpf_origin.proofs.Backs.{back_more}
use Rattle.bpf_steps.specs.State.{State}
use Rattle.bpf_whynot.specs.Answers.{only}
use Rattle.bpf_whynot.specs.Sures.{TellsSure, told_sure}
use Rattle.bpf_whynot.specs.Branches.{AreBranches, Branches, Quest, aim_at, end_text, holds_from, quest_about}
use Rattle.bpf_whynot.specs.Keeps.{Held, TellsKeep}
use Rattle.bpf_whynot.specs.Branches.Branches.{ended as is_ended}
use Rattle.bpf_whynot.specs.Courses.{IsSameCourse, TellsBranches}
use Rattle.bpf_whynot.specs.BranchTurns.{Begins, GoesOn, Knows, Takes, quest_of}
use Rattle.bpf_whynot.specs.declared.branch_aim.Aim.{Aim}
use Rattle.bpf_whynot.specs.declared.hunt.Hunt.{Hunt}
use Rattle.bpf_whynot.specs.declared.hunt.Turn.TheVariants.{On, Cut}

with_more : (a b : List ℕ) (rest : Answer) → with_line a (with_line b rest) ≡ with_line (a ++ b) rest
with_more a b rest = ap (λ (text : List ℕ). record rest { text = text }) (sym (append_assoc a b rest.text))

module _ {K W : Type 0} (holds : K → List Kept → Type 0) (contents : W → Option (List ℕ)) (q : Question) (parts : List Part) (was : Tally W) (before : Result (Unit {0}) WriteFault)
    (t : Track) (y : State) where
  -- After k moves.
  pub record Going (k : ℕ) (hunt : Hunt) (wanted : List Place) (p : CourseValue K) (now : Tally W) : Type 0 where
    pub history : List Record
    pub ahead : List Record
    pub stands : Follows holds p (record { history = history; ahead = ahead })
    pub way : gone_from k t y ≡ stand history ahead p.state
    pub count : length history + k ≡ length t.history
    pub knows : Knows p.state hunt
    pub text : List ℕ
    pub writes : WritesAfter contents was before now hunt.told text
    pub is : (rest : Answer) → Branches q k (quest_of hunt wanted) history p.state rest → AreBranches q parts t.history y (with_line text rest)

  begins_about : (hunt : Hunt) (wanted : List Place) (x : State) → Begins x q before wanted hunt → wanted ≡ take most_places (want_parts [] parts)
      → quest_of hunt wanted ≡ quest_about q parts x
  begins_about hunt wanted x b all =
      ap (λ (n : ℕ). record (quest_of hunt wanted) { values = n }) b.values
      ∙ ap (λ (a : Aim). record (quest_of hunt wanted) { values = q.lines; aim = a }) b.aim
      ∙ ap (λ (n : ℕ). record (quest_of hunt wanted) { values = q.lines; aim = aim_at x; lines = n }) b.lines
      ∙ ap (λ (h : Held). record (quest_of hunt wanted) { values = q.lines; aim = aim_at x; lines = q.lines; held = h }) b.held
      ∙ ap (λ (ws : List Place). holds_from x (record (quest_of hunt ws) { values = q.lines; aim = aim_at x; lines = q.lines })) all

  pub going_begins : (hunt : Hunt) (wanted : List Place) (p : CourseValue K) → Follows holds p t → p.state ≡ y → Begins p.state q before wanted hunt
      → wanted ≡ take most_places (want_parts [] parts) → Going 0 hunt wanted p was
  going_begins hunt wanted p stands at b all = record {
    history = t.history;
    ahead = t.ahead;
    stands = stands;
    way = ap (stand t.history t.ahead) (sym at);
    count = omega arith;
    knows = b.knows;
    text = [];
    writes = subst (λ (r : Result (Unit {0}) WriteFault). WritesAfter contents was before was r []) (sym b.told) (WritesAfter-nothing contents was before);
    is = λ rest left.
        subst (λ (x : State). Branches q 0 (quest_about q parts x) t.history x rest) at
        (subst (λ (s : Quest). Branches q 0 s t.history p.state rest) (begins_about hunt wanted p.state b all) left);
  }

  on_in : (k : ℕ) (hunt next : Hunt) (wanted left : List Place) (p new : CourseValue K) (now more : Tally W) (hs f : List Record) (text : List ℕ)
      → gone_from k t y ≡ stand hs f p.state → length hs + k ≡ length t.history → k < length t.history
      → WritesAfter contents was before now hunt.told text
      → ((rest : Answer) → Branches q k (quest_of hunt wanted) hs p.state rest → AreBranches q parts t.history y (with_line text rest))
      → ((r : Record) (h : List Record) → hs ≡ r ∷ h → CourseStands holds new (stand h (r ∷ f) r.before) × GoesOn contents q k r h p.state wanted left now hunt more next)
      → Going (k + 1) next left new more
  on_in k hunt next wanted left p new now more [] f text way count low writes is turn = absurd (omega (arith, count, low))
  on_in k hunt next wanted left p new now more (r ∷ h) f text way count low writes is turn =
      let both = turn r h refl in
      let at = both.0.at in
      record {
        history = h;
        ahead = r ∷ f;
        stands = both.0.on;
        way = back_more k t.history t.ahead y r h f p.state way ∙ ap (stand h (r ∷ f)) (sym at);
        count = omega (arith, count);
        knows = subst (λ (x : State). Knows x next) (sym at) both.1.knows;
        text = text ++ both.1.text;
        writes = WritesAfter-WritesAfter contents was now more before hunt.told next.told text both.1.text (text ++ both.1.text) writes both.1.writes refl;
        is = λ rest on.
            subst (λ (a : Answer). AreBranches q parts t.history y a) (with_more text both.1.text rest)
            (is (with_line both.1.text rest) (both.1.is rest (subst (λ (x : State). Branches q (k + 1) (quest_of next left) h x rest) at on)));
      }

  pub going_on : (k : ℕ) (hunt next : Hunt) (wanted left : List Place) (p new : CourseValue K) (now more : Tally W) → Going k hunt wanted p now → k < length t.history
      → ((r : Record) (h f : List Record) → Follows holds p (record { history = r ∷ h; ahead = f }) → Knows p.state hunt
      → Takes contents q k r h p.state wanted left now hunt more (On next))
      → ((r : Record) (h f : List Record) → Follows holds p (record { history = r ∷ h; ahead = f }) → CourseStands holds new (stand h (r ∷ f) r.before))
      → Going (k + 1) next left new more
  going_on k hunt next wanted left p new now more g low takes back =
      on_in k hunt next wanted left p new now more g.history g.ahead g.text g.way g.count low g.writes g.is
      (λ r h e.
      let stands = subst (λ (hs : List Record). Follows holds p (record { history = hs; ahead = g.ahead })) e g.stands in
      (back r h g.ahead stands, takes r h g.ahead stands g.knows))

  cut_in : (k : ℕ) (hunt : Hunt) (wanted left : List Place) (written : Result (Unit {0}) WriteFault) (p new : CourseValue K) (now more : Tally W) (hs f : List Record) (text : List ℕ) (told : Told)
      → gone_from k t y ≡ stand hs f p.state → length hs + k ≡ length t.history → k < length t.history
      → WritesAfter contents was before now hunt.told text
      → ((rest : Answer) → Branches q k (quest_of hunt wanted) hs p.state rest → AreBranches q parts t.history y (with_line text rest))
      → ((r : Record) (h : List Record) → hs ≡ r ∷ h → CourseStands holds new (stand h (r ∷ f) r.before) × Takes contents q k r h p.state wanted left now hunt more (Cut written))
      → told ≡ record { written = written; extent = Lines; moves = k + 1 } → (c : CourseValue K) → c.state ≡ y
      → TellsBranches holds q (WritesAfter contents was before more) parts c new told t
  cut_in k hunt wanted left written p new now more [] f text told way count low writes is turn e c begins = absurd (omega (arith, count, low))
  cut_in k hunt wanted left written p new now more (r ∷ h) f text told way count low writes is turn e c begins =
      let both = turn r h refl in
      let all : Answer = record { text = text ++ lines_text; extent = Lines } in
      let tells : TellsBranches holds q (WritesAfter contents was before more) parts c new (record { written = written; extent = Lines; moves = k + 1 }) t = record {
        answer = all;
        is = subst (λ (x : State). AreBranches q parts t.history x all) (sym begins) (is (record { text = lines_text; extent = Lines }) both.1.1);
        text = WritesAfter-WritesAfter contents was now more before hunt.told written text lines_text (text ++ lines_text) writes both.1.0 refl;
        extent = refl;
        back = subst (λ (x : State). CourseStands holds new (gone_from (k + 1) t x)) (sym begins)
            (subst (λ (s : Stand). CourseStands holds new s) (sym (back_more k t.history t.ahead y r h f p.state way)) both.0);
        within = omega (arith, low);
      } in
      subst (λ (o : Told). TellsBranches holds q (WritesAfter contents was before more) parts c new o t) (sym e) tells

  pub going_cut : (k : ℕ) (hunt : Hunt) (wanted left : List Place) (written : Result (Unit {0}) WriteFault) (p new : CourseValue K) (now more : Tally W) (told : Told) (c : CourseValue K)
      → Going k hunt wanted p now → k < length t.history
      → ((r : Record) (h f : List Record) → Follows holds p (record { history = r ∷ h; ahead = f }) → Knows p.state hunt
      → Takes contents q k r h p.state wanted left now hunt more (Cut written))
      → ((r : Record) (h f : List Record) → Follows holds p (record { history = r ∷ h; ahead = f }) → CourseStands holds new (stand h (r ∷ f) r.before))
      → told ≡ record { written = written; extent = Lines; moves = k + 1 } → c.state ≡ y → TellsBranches holds q (WritesAfter contents was before more) parts c new told t
  going_cut k hunt wanted left written p new now more told c g low takes back e begins =
      cut_in k hunt wanted left written p new now more g.history g.ahead g.text told g.way g.count low g.writes g.is
      (λ r h e.
      let stands = subst (λ (hs : List Record). Follows holds p (record { history = hs; ahead = g.ahead })) e g.stands in
      (back r h g.ahead stands, takes r h g.ahead stands g.knows))
      e c begins

  end_in : (k : ℕ) (hunt : Hunt) (wanted : List Place) (written : Result (Unit {0}) WriteFault) (p : CourseValue K) (now more : Tally W) (hs f : List Record) (text : List ℕ) (told : Told)
      → Follows holds p (record { history = hs; ahead = f }) → gone_from k t y ≡ stand hs f p.state → length hs + k ≡ length t.history → length t.history ≤ k
      → WritesAfter contents was before now hunt.told text
      → ((rest : Answer) → Branches q k (quest_of hunt wanted) hs p.state rest → AreBranches q parts t.history y (with_line text rest))
      → WritesAfter contents now hunt.told more written (end_text q.opening)
      → told ≡ record { written = written; extent = Whole; moves = length t.history } → (c : CourseValue K) → c.state ≡ y
      → TellsBranches holds q (WritesAfter contents was before more) parts c p told t
  end_in k hunt wanted written p now more (r ∷ h) f text told stands way count all writes is last e c begins = absurd (omega (arith, count, all))
  end_in k hunt wanted written p now more [] f text told stands way count all writes is last e c begins =
      let full : k ≡ length t.history = omega (arith, count) in
      let whole : Answer = record { text = text ++ end_text q.opening; extent = Whole } in
      let tells : TellsBranches holds q (WritesAfter contents was before more) parts c p (record { written = written; extent = Whole; moves = length t.history }) t = record {
        answer = whole;
        is = subst (λ (x : State). AreBranches q parts t.history x whole) (sym begins) (is (only (end_text q.opening)) is_ended);
        text = WritesAfter-WritesAfter contents was now more before hunt.told written text (end_text q.opening) (text ++ end_text q.opening) writes last refl;
        extent = refl;
        back = subst (λ (x : State). CourseStands holds p (gone_from (length t.history) t x)) (sym begins)
            (subst (λ (m : ℕ). CourseStands holds p (gone_from m t y)) full
            (subst (λ (s : Stand). CourseStands holds p s) (sym way) (record { at = refl; on = stands })));
        within = omega arith;
      } in
      subst (λ (o : Told). TellsBranches holds q (WritesAfter contents was before more) parts c p o t) (sym e) tells

  abbrev whole : Result (Unit {0}) WriteFault → ℕ → Told
  whole written moves = record { written = written; extent = Whole; moves = moves }

  pub going_ends : (k kept : ℕ) (hunt : Hunt) (wanted : List Place) (written : Result (Unit {0}) WriteFault) (p : CourseValue K) (now more : Tally W) (c : CourseValue K)
      → Going k hunt wanted p now → length t.history ≤ k → WritesAfter contents now hunt.told more written (end_text q.opening) → kept ≡ length t.history → c.state ≡ y
      → TellsBranches holds q (WritesAfter contents was before more) parts c p (record { written = written; extent = Whole; moves = kept }) t
  going_ends k kept hunt wanted written p now more c g all last all_kept begins =
      end_in k hunt wanted written p now more g.history g.ahead g.text (whole written kept) g.stands g.way g.count all g.writes g.is last (ap (whole written) all_kept) c begins

-- a move leaves the program
edited_program : (x : State) (e : Edit) → (edited x e).program ≡ x.program
unfolding edited
edited_program x (edit.Register r value) = refl
edited_program x (edit.Bytes a bytes) = refl
edited_program x (edit.Cell map index bytes) = refl
edited_program x (edit.Pc slot) = refl

kept_program : (x : State) (m : Move) (y : State) → Leads x m y → y.program ≡ x.program
kept_program x move.Step y leads = ap (λ (z : State). z.program) leads.after ∙ (law_rest x leads.before leads.movable).0
kept_program x (move.Edit e) y leads = ap (λ (z : State). z.program) leads.after ∙ edited_program x e

pub knows_back : (x : State) (m : Move) (y : State) (hunt : Hunt) → Leads x m y → Knows y hunt → Knows x hunt
knows_back x m y hunt leads knows =
    subst (λ program. TellsSure program hunt.aim.slot (told_sure hunt.sure) × TellsKeep program hunt.keep) (kept_program x m y leads) knows

-- the course stays of one keeper, one turn after another
pub same_course : {K : Type 0} (room refusals : K → ℕ) (a b c : CourseValue K) → IsSameCourse room refusals a b → IsSameCourse room refusals b c
    → IsSameCourse room refusals a c
same_course room refusals a b c one other = record { room = other.room ∙ one.room; refused = other.refused ∙ one.refused }
