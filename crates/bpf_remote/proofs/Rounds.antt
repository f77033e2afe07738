-- The rounds of a way.
use Rattle.std.proofs.Common.{◌≡◌, ◌<◌, ◌≤◌, ◌+◌, inl, inr, ℕ, Bool, true, false, List, [], ◌∷◌, Option, Result, refl, sym, ap, subst, ◌∙◌}
use Rattle.std.specs.Prelude.{max, is_none, ◌&&◌}
use Rattle.bpf_entries.specs.Keeping.{Kept}
use Rattle.bpf_entries.specs.declared.status.Status.{Status}
use Rattle.bpf_steps.specs.State.{State}
use Rattle.bpfdb_script.specs.declared.command.Command.{Command}
use Rattle.bpfdb_script.specs.declared.refusal.Refusal.{Refusal}
use Rattle.bpf_session.specs.declared.reply.Reply.{Reply}
use Rattle.bpf_session.specs.Sessions.{SessionValue}
use Rattle.bpf_session.specs.WatchRuns.{first_changed, seen_at}
use Rattle.bpf_remote.specs.Answers.{answer_of_move}
use Rattle.bpf_remote.specs.Moves.{counted, moves_after}
use Rattle.bpf_remote.specs.Ways.{Again, AreRounds, GoAgain, Goes, Obeyed, Round, changed, goes_again, led_to, made, moves_behind, moves_of, runs}
use Rattle.bpf_remote.specs.declared.answer.Answer.{Answer}
use Rattle.bpf_remote.specs.declared.answer.Answer.TheVariants as answer
use Rattle.bpf_remote.specs.declared.answer.Halt.TheVariants as halt

module _ {K : Type 0} (holds : K → List Kept → Type 0) (refusals room : K → ℕ) (command : Command) (again : Again) where
  -- what holds between two rounds: behind so many moves, so many of them made
  pub record Gone (from now : SessionValue K) (before moves count : ℕ) : Type 0 where
    pub rounds : List (Round K)
    pub are : AreRounds holds refusals room command again from rounds
    pub led : led_to from rounds ≡ now
    pub moves_is : moves ≡ moves_behind command before rounds
    pub count_is : count ≡ made rounds
    pub on : GoAgain again from rounds

  pub Gone-start : (from : SessionValue K) (moves : ℕ) → Gone from from moves moves 0
  Gone-start from moves = record { rounds = []; are = tt; led = refl; moves_is = refl; count_is = refl; on = tt }

  -- a round behind some
  abbrev after-some : (from now : SessionValue K) (before moves count : ℕ) → Gone from now before moves count → Round K → List (Round K)
  after-some from now before moves count g r = r ∷ g.rounds

  rounds-more : (from now : SessionValue K) (before moves count : ℕ) (r : Round K) → (g : Gone from now before moves count) → Obeyed holds refusals room now r.after command r.said → count < from.limit
      → AreRounds holds refusals room command again from (r ∷ g.rounds)
  rounds-more from now before moves count r g obeyed h =
      (subst (λ (v : SessionValue K). Obeyed holds refusals room v r.after command r.said) (sym g.led) obeyed, g.on, subst (λ (n : ℕ). n < from.limit) g.count_is h, g.are)

  abbrev round : Result Reply Refusal → SessionValue K → Round K
  round said next = record { said = said; after = next }

  -- which byte changed, whether another round follows, and what is told, by what was computed
  changed-by : (now next : SessionValue K) (said : Result Reply Refusal) (seen : List (ℕ × ℕ)) (x : State) (first : Option ℕ)
      → seen ≡ seen_at now.watches now.moment.state → x ≡ next.moment.state → first ≡ first_changed seen x → first ≡ changed now (round said next)
  changed-by now next said seen x first s e f =
      f ∙ ap (λ (v : List (ℕ × ℕ)). first_changed v x) s ∙ ap (first_changed (seen_at now.watches now.moment.state)) e

  pub follows-by : (now next : SessionValue K) (said : Result Reply Refusal) (seen : List (ℕ × ℕ)) (x y : State) (first : Option ℕ) (wants result : Bool)
      → seen ≡ seen_at now.watches now.moment.state → x ≡ next.moment.state → first ≡ first_changed seen x → wants ≡ again said y → y ≡ next.moment.state
      → result ≡ (is_none first && wants) → result ≡ goes_again again now (round said next)
  follows-by now next said seen x y first wants result s e f w i r =
      r ∙ ap (λ (v : Option ℕ). is_none v && wants) (changed-by now next said seen x first s e f)
      ∙ ap (λ (b : Bool). is_none (changed now (round said next)) && b) (w ∙ ap (again said) i)

  pub told-by : (now next : SessionValue K) (said : Result Reply Refusal) (seen : List (ℕ × ℕ)) (x z : State) (first : Option ℕ) (told : Answer) (goes : Bool) (status : Status)
      → seen ≡ seen_at now.watches now.moment.state → x ≡ next.moment.state → first ≡ first_changed seen x → goes ≡ runs command → status ≡ z.status → z ≡ next.moment.state
      → told ≡ answer_of_move said goes status first → told ≡ answer_of_move said (runs command) next.moment.state.status (changed now (round said next))
  told-by now next said seen x z first told goes status s e f g k i t =
      t ∙ ap (λ (b : Bool). answer_of_move said b status first) g
      ∙ ap (λ (v : Status). answer_of_move said (runs command) v first) (k ∙ ap (λ (v : State). v.status) i)
      ∙ ap (λ (v : Option ℕ). answer_of_move said (runs command) next.moment.state.status v) (changed-by now next said seen x first s e f)

  -- another round follows
  pub Gone-more : (from now next : SessionValue K) (before moves moves' count count' : ℕ) (said : Result Reply Refusal) → Gone from now before moves count
      → Obeyed holds refusals room now next command said → count < from.limit → goes_again again now (round said next) ≡ true
      → moves' ≡ moves_after said command moves → count' ≡ counted (count + max (moves_of said) 1)
      → Gone from next before moves' count'
  Gone-more from now next before moves moves' count count' said g obeyed h goes m c = record {
    rounds = round said next ∷ g.rounds;
    are = rounds-more from now before moves count (round said next) g obeyed h;
    led = refl;
    moves_is = m ∙ ap (moves_after said command) g.moves_is;
    count_is = c ∙ ap (λ (n : ℕ). counted (n + max (moves_of said) 1)) g.count_is;
    on = subst (λ (v : SessionValue K). goes_again again v (round said next) ≡ true) (sym g.led) goes;
  }

  -- none follows
  pub Goes-halted : (from now next : SessionValue K) (before moves moves' count : ℕ) (said : Result Reply Refusal) (told : Answer) → Gone from now before moves count
      → Obeyed holds refusals room now next command said → count < from.limit → goes_again again now (round said next) ≡ false
      → moves' ≡ moves_after said command moves
      → told ≡ answer_of_move said (runs command) next.moment.state.status (changed now (round said next))
      → Goes holds refusals room command again (from, before) (next, moves') told
  Goes-halted from now next before moves moves' count said told g obeyed h stops m e = (
    round said next ∷ g.rounds,
    rounds-more from now before moves count (round said next) g obeyed h,
    refl,
    m ∙ ap (moves_after said command) g.moves_is,
    inl (
      subst (λ (v : SessionValue K). goes_again again v (round said next) ≡ false) (sym g.led) stops,
      subst (λ (v : SessionValue K). told ≡ answer_of_move said (runs command) next.moment.state.status (changed v (round said next))) (sym g.led) e,
    ),
  )

  -- the limit is reached
  pub Goes-cut : (from now : SessionValue K) (before moves count : ℕ) → Gone from now before moves count → from.limit ≤ count
      → Goes holds refusals room command again (from, before) (now, moves) (answer.Halted halt.Limit)
  Goes-cut from now before moves count g h = (g.rounds, g.are, g.led, g.moves_is, inr (g.on, subst (λ (n : ℕ). from.limit ≤ n) g.count_is h, refl))
