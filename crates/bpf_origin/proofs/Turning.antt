-- One move of the pass: what the answer is by it.
use Rattle.std.proofs.Common.{◌≡◌, Option, Some, None, subst, append_assoc, ◌≤◌, ◌<◌, ℕ, ◌+◌, ◌-◌, Bool, true, false, List, [], ◌∷◌, ◌++◌, length, refl, sym, ap, ◌∙◌, arith}
use Rattle.std.specs.Prelude.{map, option_map, unwrap_or, ◌==◌, nat_lt, if◌then◌else◌}
use Rattle.std.specs.Option.{option_map_or}
use Rattle.std.proofs.lemmas.Bool.Decides.{nat_tests}
use Rattle.counted_io.specs.Counted.{Tally}
use Rattle.counted_io.specs.Writing.{WritesAfter}
use Rattle.counted_io.proofs.Appending.{WritesAfter-WritesAfter}
use Rattle.bpfdb_script.proofs.Telling.{WritesAfter-nothing}
use Rattle.bpf_entries.specs.declared.entry.Entry.{Entry}
use Rattle.bpf_entries.specs.declared.entry.Entry.TheVariants as entry
use Rattle.bpf_machine.specs.Moves.{overwritten}
use Rattle.bpf_steps.specs.State.{State}
use Rattle.bpf_journal.specs.Histories.{Record, is_step, kept_of, newest}
use Rattle.bpf_journal.specs.TakingBack.{taken_of}
use Rattle.bpf_journal.specs.Tracks.{Track}
use Rattle.bpf_journal.specs.declared.taken.Taken.{Taken}
use Rattle.bpf_origin.specs.declared.place.Place.{Place}
use Rattle.bpf_origin.specs.declared.question.Question.{Question}
use Rattle.bpf_origin.specs.declared.place.Part.{Part}
use Rattle.bpf_origin.specs.declared.question.Extent.{Extent}
use Rattle.bpf_origin.specs.declared.question.Extent.TheVariants.{Lines, Places}
use Rattle.bpf_origin.specs.declared.origin.Turn.{Turn}
use Rattle.bpf_origin.specs.Pasts.{StandsThere, gone_back, stand}
use Rattle.bpf_origin.specs.Reads.{followed}
use Rattle.bpf_origin.specs.Writes.{written}
use Rattle.bpf_origin.specs.Wanted.{most_places, want_parts, are_hit, still_wanted}
use Rattle.bpf_origin.specs.Texts.{head, tail, lines_text, places_text}
use Rattle.bpf_origin.specs.Rows.{moved, row_text}
use Rattle.bpf_origin.specs.Answers.{Answer, Rows, answer, cut_at, rows_from, told, wanted_before, with_line, with_row}
use Rattle.bpf_origin.proofs.Telling.{told_cut}
use Rattle.bpf_origin.specs.Turns.{Written, WentBack, TellsRest, TakesTurn}

-- The line of a move.
abbrev line_of : Question → ℕ → Record → State → List ℕ
line_of q k r y = row_text q.places (moved q.addresses k r y)

-- The rows where the move wrote a wanted place, by whether there is room for more, and for what it read.
abbrev fitting : Question → ℕ → ℕ → List Place → Record → List Record → State → Bool → Rows
fitting q k n wanted r h y full = if full then cut_at Places else rows_from q (k + 1) (n - 1) (wanted_before q r y wanted) h r.before

abbrev hitting : Question → ℕ → ℕ → List Place → Record → List Record → State → Bool → Bool → Rows
hitting q k n wanted r h y none full = if none then cut_at Lines else with_row (moved q.addresses (k + 1) r y) (fitting q k n wanted r h y full)

abbrev is_full : Question → List Place → Record → State → Bool
is_full q wanted r y = nat_lt most_places (length (wanted_before q r y wanted))

abbrev by_hit : Question → ℕ → ℕ → List Place → Record → List Record → State → Bool → Answer
by_hit q k n wanted r h y hit =
    told q (if hit then hitting q k n wanted r h y (n == 0) (is_full q wanted r y)
    else rows_from q (k + 1) n (still_wanted y (overwritten r.before r.move) wanted) h r.before)

pub unhit : (q : Question) (k n : ℕ) (wanted : List Place) (r : Record) (h : List Record) (y : State) → are_hit (written y (overwritten r.before r.move)) wanted ≡ false → answer q k n wanted (r ∷ h) y ≡ answer q (k + 1) n (still_wanted y (overwritten r.before r.move) wanted) h r.before
unfolding rows_from
unhit q k n wanted r h y e = ap (by_hit q k n wanted r h y) e

hit : (q : Question) (k n : ℕ) (wanted : List Place) (r : Record) (h : List Record) (y : State) → are_hit (written y (overwritten r.before r.move)) wanted ≡ true → answer q k n wanted (r ∷ h) y ≡ told q (hitting q k n wanted r h y (n == 0) (is_full q wanted r y))
unfolding rows_from
hit q k n wanted r h y e = ap (by_hit q k n wanted r h y) e

pub no_lines : (q : Question) (k n : ℕ) (wanted : List Place) (r : Record) (h : List Record) (y : State) → are_hit (written y (overwritten r.before r.move)) wanted ≡ true → n ≡ 0 → answer q k n wanted (r ∷ h) y ≡ record { text = lines_text; extent = Lines }
no_lines q k n wanted r h y e none =
    let is : (n == 0) ≡ true = grind (arith, nat_tests) in
    hit q k n wanted r h y e ∙ ap (λ (b : Bool). told q (hitting q k n wanted r h y b (is_full q wanted r y))) is ∙ told_cut q Lines

some_lines : (q : Question) (k n : ℕ) (wanted : List Place) (r : Record) (h : List Record) (y : State) → are_hit (written y (overwritten r.before r.move)) wanted ≡ true → 0 < n → answer q k n wanted (r ∷ h) y ≡ with_line (line_of q (k + 1) r y) (told q (fitting q k n wanted r h y (is_full q wanted r y)))
some_lines q k n wanted r h y e some =
    let is : (n == 0) ≡ false = grind (arith, nat_tests) in
    hit q k n wanted r h y e ∙ ap (λ (b : Bool). told q (hitting q k n wanted r h y b (is_full q wanted r y))) is

pub no_room : (q : Question) (k n : ℕ) (wanted : List Place) (r : Record) (h : List Record) (y : State) → are_hit (written y (overwritten r.before r.move)) wanted ≡ true → 0 < n → most_places < length (wanted_before q r y wanted) → answer q k n wanted (r ∷ h) y ≡ record { text = line_of q (k + 1) r y ++ places_text; extent = Places }
no_room q k n wanted r h y e some full =
    let is : is_full q wanted r y ≡ true = grind (arith, nat_tests) in
    some_lines q k n wanted r h y e some
    ∙ ap (λ (b : Bool). with_line (line_of q (k + 1) r y) (told q (fitting q k n wanted r h y b))) is
    ∙ ap (with_line (line_of q (k + 1) r y)) (told_cut q Places)

pub told_on : (q : Question) (k n : ℕ) (wanted : List Place) (r : Record) (h : List Record) (y : State) → are_hit (written y (overwritten r.before r.move)) wanted ≡ true → 0 < n → length (wanted_before q r y wanted) ≤ most_places → answer q k n wanted (r ∷ h) y ≡ with_line (line_of q (k + 1) r y) (answer q (k + 1) (n - 1) (wanted_before q r y wanted) h r.before)
told_on q k n wanted r h y e some fits =
    let is : is_full q wanted r y ≡ false = grind (arith, nat_tests) in
    some_lines q k n wanted r h y e some ∙ ap (λ (b : Bool). with_line (line_of q (k + 1) r y) (told q (fitting q k n wanted r h y b))) is

-- What is told of a move that was taken back says whether it was a step.
pub step_of : (o : Option Taken) (t : Taken) (r : Record) → o ≡ Some t → o ≡ Some (taken_of r) → t.is_step ≡ is_step r.move
step_of o t r is was = ap (λ (p : Option Taken). unwrap_or (option_map (λ s. s.is_step) p) false) (sym is ∙ was)

-- The entry that was looked at is the newest record's.
pub entry_of_last : (o : Option (Entry × Bool)) (k : Entry × Bool) (r : Record) (h : List Record) → o ≡ Some k → o ≡ newest (map kept_of (r ∷ h)) → k.0 ≡ overwritten r.before r.move
entry_of_last o k r h is was = ap (λ (p : Option (Entry × Bool)). option_map_or (λ (q : Entry × Bool). q.0) p entry.End) (sym is ∙ was)

module _ {W : Type 0} (contents : W → Option (List ℕ)) (q : Question) (r : Record) where
  read_same : (x : State) (parts : List Part) → x ≡ r.before → parts ≡ followed q.addresses x r.move → parts ≡ followed q.addresses r.before r.move
  read_same x parts at is = is ∙ ap (λ (y : State). followed q.addresses y r.move) at

  tail_same : (x : State) (parts : List Part) → x ≡ r.before → parts ≡ followed q.addresses x r.move → tail q.places x r.move parts ≡ tail q.places r.before r.move (followed q.addresses r.before r.move)
  tail_same x parts at is = ap (λ (y : State). tail q.places y r.move parts) at ∙ ap (tail q.places r.before r.move) (read_same x parts at is)

  pub rest_cut : (wanted left : List Place) (old now new : Tally W) (before told last : Written) (turn : Turn) (x : State) (parts : List Part)
      → x ≡ r.before → parts ≡ followed q.addresses x r.move → WritesAfter contents old before now told (tail q.places x r.move parts)
      → most_places < length (want_parts wanted parts) → WritesAfter contents now told new last places_text
      → turn ≡ record { written = last; lines = 0; cut = Some Places; taken = 1 } → TellsRest contents q r wanted left old before new turn
  rest_cut wanted left old now new before told last turn x parts at is tells full more e =
      subst (λ (t : Turn). TellsRest contents q r wanted left old before new t) (sym e) (record {
        on = λ none. cc;
        cut = λ f some. (
          ap (λ (o : Option Extent). unwrap_or o Places) (sym some),
          subst (λ (ps : List Part). most_places < length (want_parts wanted ps)) (read_same x parts at is) full,
          WritesAfter-WritesAfter contents _ _ _ _ _ _ _ places_text _
              (subst (λ (text : List ℕ). WritesAfter contents old before now told text) (tail_same x parts at is) tells) more refl,
        );
      })

  pub rest_on : (wanted left : List Place) (old now : Tally W) (before told : Written) (n : ℕ) (turn : Turn) (x : State) (parts : List Part)
      → x ≡ r.before → parts ≡ followed q.addresses x r.move → WritesAfter contents old before now told (tail q.places x r.move parts)
      → left ≡ want_parts wanted parts → length left ≤ most_places
      → turn ≡ record { written = told; lines = n; cut = None; taken = 1 } → TellsRest contents q r wanted left old before now turn
  rest_on wanted left old now before told n turn x parts at is tells wants fits e =
      subst (λ (t : Turn). TellsRest contents q r wanted left old before now t) (sym e) (record {
        on = λ none. (
          subst (λ (text : List ℕ). WritesAfter contents old before now told text) (tail_same x parts at is) tells,
          wants ∙ ap (want_parts wanted) (read_same x parts at is),
          fits,
        );
        cut = λ f some. cc;
      })

module _ {P W : Type 0} (state : P → State) (follows : P → Track → Type 0) (contents : W → Option (List ℕ)) (q : Question) (r : Record) where
  -- What one record more means.
  one_back : (h f : List Record) (y : State) (n : ℕ) (new : P) → n ≡ 1 → WentBack state follows contents r h f new → StandsThere state follows new (gone_back n (r ∷ h) f y)
  one_back h f y n new is back = subst (λ (m : ℕ). StandsThere state follows new (gone_back m (r ∷ h) f y)) (sym is) back

  -- A move that wrote no wanted place.
  pub turn_unhit : (h f : List Record) (k n : ℕ) (wanted left : List Place) (y : State) (new : P) (old : Tally W) (before : Written) (turn : Turn) (e : Entry) (parts : List Part)
      → e ≡ overwritten r.before r.move → parts ≡ written y e → are_hit parts wanted ≡ false → left ≡ still_wanted y e wanted
      → WentBack state follows contents r h f new → turn ≡ record { written = before; lines = n; cut = None; taken = 1 }
      → TakesTurn state follows contents q k n wanted left r h f y new old before old turn
  turn_unhit h f k n wanted left y new old before turn e parts is wrote unfound wants back ends =
      let missed : are_hit (written y (overwritten r.before r.move)) wanted ≡ false = ap (λ (f : Entry). are_hit (written y f) wanted) (sym is) ∙ ap (λ (ps : List Part). are_hit ps wanted) (sym wrote) ∙ unfound in
      let still : still_wanted y (overwritten r.before r.move) wanted ≡ left = ap (λ (f : Entry). still_wanted y f wanted) (sym is) ∙ sym wants in
      subst (λ (t : Turn). TakesTurn state follows contents q k n wanted left r h f y new old before old t) (sym ends) (record {
        on = λ none. (back, ([], WritesAfter-nothing contents old before, unhit q k n wanted r h y missed ∙ ap (λ (ws : List Place). answer q (k + 1) n ws h r.before) still));
        cut = λ e some. cc;
        far = back;
      })

  -- A move that wrote one, without room for its line.
  pub turn_no_lines : (h f : List Record) (k n : ℕ) (wanted left : List Place) (y : State) (t : P) (old new : Tally W) (before last : Written) (turn : Turn) (e : Entry) (parts : List Part)
      → e ≡ overwritten r.before r.move → parts ≡ written y e → are_hit parts wanted ≡ true → n ≡ 0
      → StandsThere state follows t (stand (r ∷ h) f y) → WritesAfter contents old before new last lines_text → turn ≡ record { written = last; lines = 0; cut = Some Lines; taken = 0 }
      → TakesTurn state follows contents q k n wanted left r h f y t old before new turn
  turn_no_lines h f k n wanted left y t old new before last turn e parts is wrote some none stays tells ends =
      let found : are_hit (written y (overwritten r.before r.move)) wanted ≡ true = ap (λ (f : Entry). are_hit (written y f) wanted) (sym is) ∙ ap (λ (ps : List Part). are_hit ps wanted) (sym wrote) ∙ some in
      let all = no_lines q k n wanted r h y found none in
      subst (λ (u : Turn). TakesTurn state follows contents q k n wanted left r h f y t old before new u) (sym ends) (record {
        on = λ none. cc;
        far = stays;
        cut = λ e is_cut. (
          ap (λ (a : Answer). a.extent) all ∙ ap (λ (o : Option Extent). unwrap_or o Lines) is_cut,
          subst (λ (text : List ℕ). WritesAfter contents old before new last text) (sym (ap (λ (a : Answer). a.text) all)) tells,
        );
      })

  -- A move that wrote one.
  pub turn_told : (h f : List Record) (k n : ℕ) (wanted mid left : List Place) (y : State) (new : P) (old now after : Tally W) (before headed : Written) (turn : Turn) (e : Entry) (parts : List Part)
      → e ≡ overwritten r.before r.move → parts ≡ written y e → are_hit parts wanted ≡ true → 0 < n
      → WritesAfter contents old before now headed (head (k + 1) y parts) → mid ≡ still_wanted y e wanted
      → WentBack state follows contents r h f new → TellsRest contents q r mid left now headed after turn → (turn.cut ≡ None → turn.lines ≡ n - 1) → turn.taken ≡ 1
      → TakesTurn state follows contents q k n wanted left r h f y new old before after turn
  turn_told h f k n wanted mid left y new old now after before headed turn e parts is wrote hits some begun middle back rest lines one =
      let parts_are : parts ≡ written y (overwritten r.before r.move) = wrote ∙ ap (λ (f : Entry). written y f) is in
      let found : are_hit (written y (overwritten r.before r.move)) wanted ≡ true = ap (λ (ps : List Part). are_hit ps wanted) (sym parts_are) ∙ hits in
      let still : mid ≡ still_wanted y (overwritten r.before r.move) wanted = middle ∙ ap (λ (f : Entry). still_wanted y f wanted) is in
      let more : want_parts mid (followed q.addresses r.before r.move) ≡ wanted_before q r y wanted = ap (λ (ws : List Place). want_parts ws (followed q.addresses r.before r.move)) still in
      let first : WritesAfter contents old before now headed (head (k + 1) y (written y (overwritten r.before r.move))) = subst (λ (ps : List Part). WritesAfter contents old before now headed (head (k + 1) y ps)) parts_are begun in
      record {
        far = one_back h f y turn.taken new one back;
        on = λ none.
            let t = rest.on none in
            let left_is : left ≡ wanted_before q r y wanted = t.1 ∙ more in
            let all = told_on q k n wanted r h y found some (subst (λ (ws : List Place). length ws ≤ most_places) left_is t.2) in (
              back,
              (
                line_of q (k + 1) r y,
                WritesAfter-WritesAfter contents _ _ _ _ _ _ _ _ _ first t.0 refl,
                all
                    ∙ ap (λ (ws : List Place). with_line (line_of q (k + 1) r y) (answer q (k + 1) (n - 1) ws h r.before)) (sym left_is)
                    ∙ ap (λ (m : ℕ). with_line (line_of q (k + 1) r y) (answer q (k + 1) m left h r.before)) (sym (lines none)),
              ),
            );
        cut = λ e cuts.
            let t = rest.cut e cuts in
            let all = no_room q k n wanted r h y found some (subst (λ (ws : List Place). most_places < length ws) more t.1) in (
              ap (λ (a : Answer). a.extent) all ∙ sym t.0,
              subst (λ (text : List ℕ). WritesAfter contents old before after turn.written text)
                  (sym (append_assoc (head (k + 1) y (written y (overwritten r.before r.move))) (tail q.places r.before r.move (followed q.addresses r.before r.move)) places_text) ∙ sym (ap (λ (a : Answer). a.text) all))
                  (WritesAfter-WritesAfter contents _ _ _ _ _ _ _ _ _ first t.2 refl),
            );
      }
