-- `undo` of as many commands as were given gives back the point in front of them.
use Rattle.std.proofs.Common.{◌≡◌, ◌+◌, ◌-◌, ◌≤◌, ℕ, zero, suc, Bool, true, false, List, [], ◌∷◌, Option, Some, None, Ok, unwrap_or, length, refl, sym, ap, subst, ◌∙◌, arith}
use Rattle.std.specs.Prelude.{if◌then◌else◌, nat_lt, ◌==◌, count_by, cond, option_map, drop}
use Rattle.std.proofs.lemmas.Bool.Decides.{nat_tests}
use Rattle.std.proofs.lemmas.List.{drop-drop}
use Rattle.bpf_entries.specs.Keeping.{fit}
use Rattle.bpf_machine.specs.Edits.{edited}
use Rattle.bpf_steps.specs.State.{State}
use Rattle.bpf_machine.specs.declared.edit.Edit.{Edit}
use Rattle.bpf_machine.specs.declared.moves.Move.TheVariants as move
use Rattle.bpf_ring.specs.Runs.{state_after}
use Rattle.bpf_journal.specs.Histories.{Record, record_weight}
use Rattle.bpf_journal.specs.Lookups.{Test, latest, state_before}
use Rattle.bpf_journal.specs.Timelines.{record_of}
use Rattle.bpf_session.specs.Backward.{back_by, before_last, marks}
use Rattle.bpf_session.specs.Forward.{cut, forward, kept, reason, steps, still_ahead, taken}
use Rattle.bpf_session.specs.Laws.{AllKept, CommandsAreUndone, Given, IsKept, after, made, outcome_of}
use Rattle.bpf_session.specs.Meaning.{accepted, does}
use Rattle.bpf_session.specs.Outcomes.{Outcome, refused, unless_refused}
use Rattle.bpf_session.specs.Points.{Point, Bounds, without_ahead}
use Rattle.bpf_session.specs.Refused.{refusals_of}
use Rattle.bpf_session.specs.Tables.{edit}
use Rattle.bpf_session.proofs.BackwardLaws.{count-more}
use Rattle.bpf_session.proofs.CommandLaws.{cut-point, drop-told, fit-whole, gone-told, kept-told, marked, marked-told, oldest-told, told}
use Rattle.bpf_session.proofs.ForwardLaws.{least-from}
use Rattle.bpf_session.specs.declared.reply.Reply.{Reply}
use Rattle.bpf_session.specs.declared.reply.Reply.TheVariants as reply
use Rattle.bpfdb_script.specs.declared.command.Command.{Command}
use Rattle.bpfdb_script.specs.declared.command.Command.TheVariants as command
use Rattle.bpfdb_script.specs.declared.command.Target.TheVariants as target
use Rattle.bpfdb_script.specs.declared.refusal.Refusal.{Refusal}
use Rattle.bpfdb_script.specs.declared.refusal.Refusal.TheVariants.{OutOfMemory}
use Rattle.bpfdb_script.specs.declared.why.Why.{Why}
use Rattle.bpfdb_script.specs.declared.why.Why.TheVariants.{Memory}

-- ---- what is looked up behind what was found

option-twice : (k : ℕ) (o : Option ℕ) → option_map suc (option_map (λ j. k + j) o) ≡ option_map (λ j. suc k + j) o
option-twice k None = refl
option-twice k (Some j) = let e : suc (k + j) ≡ suc k + j = omega arith in ap Some e

option-from : (o : Option ℕ) (k : ℕ) → option_map suc o ≡ Some k → (j : ℕ) × (o ≡ Some j) × (k ≡ suc j)
option-from None k e = absurd cc
option-from (Some j) k e = (j, refl, let s : suc j ≡ k = cc in sym s)

option-same : (o : Option ℕ) → option_map suc o ≡ option_map (λ j. 1 + j) o
option-same None = refl
option-same (Some j) = let e : suc j ≡ 1 + j = omega arith in ap Some e

-- the (n + m)-th latest is the m-th latest behind the n-th
abbrev IsFurther : Test → ℕ → List Record → State → ℕ → ℕ → Type 0
IsFurther test m h y n k = latest test (n + m) h y ≡ option_map (λ j. k + j) (latest test m (drop k h) (state_before k h y))

further-behind : (test : Test) (m k : ℕ) (r : Record) (h : List Record) (y : State) (i : ℕ)
    → ((j : ℕ) → latest test i h r.before ≡ Some j → IsFurther test m h r.before i j) → option_map suc (latest test i h r.before) ≡ Some k
    → option_map suc (latest test (i + m) h r.before) ≡ option_map (λ j. k + j) (latest test m (drop k (r ∷ h)) (state_before k (r ∷ h) y))
further-behind test m k r h y i rest found =
    let f = option-from (latest test i h r.before) k found in
    rw f.2 (ap (option_map suc) (rest f.0 f.1) ∙ option-twice f.0 (latest test m (drop f.0 h) (state_before f.0 h r.before)))

latest-further : (test : Test) (n m k : ℕ) (h : List Record) (y : State) → 1 ≤ n → 1 ≤ m → latest test n h y ≡ Some k → IsFurther test m h y n k
latest-further test n m k [] y some more e = absurd cc
latest-further test n m k (r ∷ h) y some more e = at (test r y) (n == 1) refl e (λ i low j found. latest-further test i m j h r.before low more found)
  where
    at : (passes one : Bool) → (n == 1) ≡ one
        → (if passes then (if one then Some 1 else option_map suc (latest test (n - 1) h r.before)) else option_map suc (latest test n h r.before)) ≡ Some k
        → ((i : ℕ) → 1 ≤ i → (j : ℕ) → latest test i h r.before ≡ Some j → IsFurther test m h r.before i j)
        → (if passes then (if n + m == 1 then Some 1 else option_map suc (latest test (n + m - 1) h r.before)) else option_map suc (latest test (n + m) h r.before))
        ≡ option_map (λ j. k + j) (latest test m (drop k (r ∷ h)) (state_before k (r ∷ h) y))
    at true true is found rest =
        let first : n ≡ 1 = grind (arith, nat_tests) in
        let here : 1 ≡ k = cc in
        let not : (n + m == 1) ≡ false = grind (arith, nat_tests) in
        let back : n + m - 1 ≡ m = omega (arith, first) in
        rw (not, back) (rw (sym here) (option-same (latest test m h r.before)))
    at true false is found rest =
        let other : 1 ≤ n - 1 = grind (arith, nat_tests) in
        let not : (n + m == 1) ≡ false = grind (arith, nat_tests) in
        let back : n + m - 1 ≡ n - 1 + m = omega (arith, other) in
        rw (not, back) (further-behind test m k r h y (n - 1) (rest (n - 1) other) found)
    at false one is found rest = further-behind test m k r h y n (rest n some) found

before-further : (k j : ℕ) (h : List Record) (y : State) → state_before (k + j) h y ≡ state_before j (drop k h) (state_before k h y)
before-further zero j h y = let e : 0 + j ≡ j = omega arith in rw e refl
before-further (suc k) zero [] y = let e : suc k + 0 ≡ suc k = omega arith in rw e refl
before-further (suc k) (suc j) [] y = let e : suc k + suc j ≡ suc (k + suc j) = omega arith in rw e refl
before-further (suc k) j (r ∷ h) y = let e : suc k + j ≡ suc (k + j) = omega arith in rw e (before-further k j h r.before)

-- ---- the n-th latest mark of q stands in front of p

record Reaches (n : ℕ) (q p : Point) : Type 0 where
  far : ℕ
  found : latest marked n q.history q.state ≡ Some far
  rest : drop far q.history ≡ p.history
  back : state_before far q.history q.state ≡ p.state
  enough : n + marks p ≤ marks q
  breaks : q.breaks ≡ p.breaks
  watches : q.watches ≡ p.watches

reaches-more : (n m : ℕ) (r q p : Point) → 1 ≤ n → 1 ≤ m → Reaches n r q → Reaches m q p → Reaches (n + m) r p
reaches-more n m r q p some more x y = record {
  far = x.far + y.far;
  found =
      latest-further marked n m x.far r.history r.state some more x.found
      ∙ ap (λ (h : List Record). option_map (λ j. x.far + j) (latest marked m h (state_before x.far r.history r.state))) x.rest
      ∙ ap (λ (z : State). option_map (λ j. x.far + j) (latest marked m q.history z)) x.back
      ∙ ap (option_map (λ j. x.far + j)) y.found;
  rest = sym (drop-drop y.far x.far r.history) ∙ ap (drop y.far) x.rest ∙ y.rest;
  back =
      before-further x.far y.far r.history r.state
      ∙ ap (λ (h : List Record). state_before y.far h (state_before x.far r.history r.state)) x.rest
      ∙ ap (state_before y.far q.history) x.back ∙ y.back;
  enough = let first = x.enough in let second = y.enough in omega (arith, first, second);
  breaks = x.breaks ∙ y.breaks;
  watches = x.watches ∙ y.watches;
}

undo-reached : (later : Option ℕ) (b : Bounds) (n : ℕ) (q p : Point) → Reaches n q p
    → without_ahead (does later b (command.Back (target.Commands n)) q).point ≡ without_ahead p
unfolding accepted
undo-reached later b n q p x =
    let all = x.enough in
    let e : nat_lt (marks q) n ≡ false = grind (arith, nat_tests, all) in
    rw e (ap (λ (o : Option ℕ). without_ahead (back_by (unwrap_or o (length q.history)) q)) x.found
    ∙ ap (λ (h : List Record). record q { history = h; ahead = []; state = before_last x.far q }) x.rest
    ∙ ap (λ (z : State). record q { history = p.history; ahead = []; state = z }) x.back
    ∙ ap (λ (bs : List ℕ). record p { ahead = []; breaks = bs; watches = q.watches }) x.breaks
    ∙ ap (λ (ws : List ℕ). record p { ahead = []; watches = ws }) x.watches)

-- ---- one command

marks-more : (k : ℕ) (p : Point) → 1 + marks p ≤ count_by (λ r. r.mark) (told (suc k) p)
marks-more zero p =
    let e = count-more (λ r. r.mark) (record_of p.state move.Step true) p.history in
    let one : cond {A = ℕ} true 1 0 ≡ 1 = refl in
    omega (arith, e, one)
marks-more (suc k) p =
    let i = marks-more k p in
    let e = count-more (λ r. r.mark) (record_of (state_after (suc k) p.state) move.Step (suc k == 0)) (told (suc k) p) in
    omega (arith, e, i)

steps-reach : (k : ℕ) (p : Point) → 1 ≤ k → Reaches 1 (gone-told k p) p
steps-reach zero p some = absurd (omega (arith, some))
steps-reach (suc k) p some = record {
  far = suc k;
  found = marked-told k p (state_after (suc k) p.state);
  rest = drop-told (suc k) p;
  back = oldest-told k p (state_after (suc k) p.state);
  enough = marks-more k p;
  breaks = refl;
  watches = refl;
}

-- the reply of a forward command counts its steps
counts-steps : (gap : Option ℕ) (room n : ℕ) (because : Why) (p : Point) (said : Reply) → (cut gap room n because p).answer ≡ Ok said
    → (k : ℕ) × (why : Why) × (said ≡ reply.Forward k why)
counts-steps None room n because p said e = (n, because, let s : reply.Forward n because ≡ said = cc in sym s)
counts-steps (Some m) room n because p said e = at (nat_lt m n) (m == 0) e
  where
    at : (less first : Bool)
        → (if less then (if first then refused OutOfMemory p else taken room m Memory p) else taken room n because p).answer ≡ Ok said
        → (k : ℕ) × (why : Why) × (said ≡ reply.Forward k why)
    at true true e = absurd cc
    at true false e = (m, Memory, let s : reply.Forward m Memory ≡ said = cc in sym s)
    at false first e = (n, because, let s : reply.Forward n because ≡ said = cc in sym s)

unless-ok : (rs : List Refusal) (p : Point) (o : Outcome) (said : Reply) → (unless_refused rs p o).answer ≡ Ok said → unless_refused rs p o ≡ o
unless-ok [] p o said e = refl
unless-ok (r ∷ rs) p o said e = absurd cc

cut-reaches : (gap : Option ℕ) (room n : ℕ) (because : Why) (p : Point) (said : Reply) → 1 ≤ n → (cut gap room n because p).answer ≡ Ok said
    → length (cut gap room n because p).point.history ≡ made said + length p.history → Reaches 1 (cut gap room n because p).point p
cut-reaches gap room n because p said some e all =
    let s = counts-steps gap room n because p said e in
    let k = s.0 in
    let g = cut-point gap room n k because s.1 p some (e ∙ ap Ok s.2) in
    let whole : length (kept room k p) ≡ k + length p.history =
    ap (λ (q : Point). length q.history) (sym g.0) ∙ all ∙ ap (λ (said : Reply). made said + length p.history) s.2 in
    let here : (cut gap room n because p).point ≡ gone-told k p =
    g.0 ∙ ap (λ (h : List Record). record p { history = h; ahead = still_ahead k p.ahead; state = state_after k p.state }) (kept-told room k p whole) in
    subst (λ (q : Point). Reaches 1 q p) (sym here) (steps-reach k p g.1)

edit-reaches : (gap : Option ℕ) (room : ℕ) (e : Edit) (p : Point) (said : Reply) → (edit gap room e p).answer ≡ Ok said
    → length (edit gap room e p).point.history ≡ made said + length p.history → Reaches 1 (edit gap room e p).point p
edit-reaches (Some m) room e p said ok all = absurd cc
edit-reaches None room e p said ok all =
    let r = record_of p.state (move.Edit e) true in
    let is : reply.Ok ≡ said = cc in
    let kept : length (fit record_weight room (r ∷ p.history)) ≡ made said + length p.history = all in
    let one : made said + length p.history ≡ 1 + length p.history = ap (λ (said : Reply). made said + length p.history) (sym is) in
    let whole : fit record_weight room (r ∷ p.history) ≡ r ∷ p.history = fit-whole record_weight room (r ∷ p.history) (omega (arith, kept, one)) in
    let count = count-more (λ r. r.mark) r p.history in
    let mark : cond {A = ℕ} true 1 0 ≡ 1 = refl in
    let more : 1 + marks p ≤ count_by (λ r. r.mark) (r ∷ p.history) = omega (arith, count, mark) in
    subst (λ (h : List Record). Reaches 1 (record p { history = h; ahead = []; state = edited p.state e }) p) (sym whole) (record {
      far = 1;
      found = refl;
      rest = refl;
      back = refl;
      enough = more;
      breaks = refl;
      watches = refl;
    })

command-reaches : (b : Bounds) (given : Given) (p : Point) → IsKept b given p → Reaches 1 (outcome_of b given p).point p
unfolding accepted
command-reaches b given p is = at given.gap given.command is
  where
    at : (gap : Option ℕ) (c : Command) → IsKept b (record { command = c; gap = gap }) p → Reaches 1 (does gap b c p).point p
    at gap (command.Forward goal) k =
        let same = unless-ok (refusals_of (command.Forward goal) p) p (forward gap b goal p) k.reply k.accepted in
        let n = steps b.limit goal p in
        subst (λ (o : Outcome). Reaches 1 o.point p) (sym same) (cut-reaches gap b.room n (reason b.limit goal p) p k.reply (least-from _ 1 b.limit)
        (ap (λ (o : Outcome). o.answer) (sym same) ∙ k.accepted) (ap (λ (o : Outcome). length o.point.history) (sym same) ∙ k.kept))
    at gap (command.Edit e) k =
        let same = unless-ok (refusals_of (command.Edit e) p) p (edit gap b.room e p) k.reply k.accepted in
        subst (λ (o : Outcome). Reaches 1 o.point p) (sym same) (edit-reaches gap b.room e p k.reply
        (ap (λ (o : Outcome). o.answer) (sym same) ∙ k.accepted) (ap (λ (o : Outcome). length o.point.history) (sym same) ∙ k.kept))
    at gap (command.Back t) k = absurd (let no : false ≡ true = k.new in cc)
    at gap (command.Redo count) k = absurd (let no : false ≡ true = k.new in cc)
    at gap (command.Add break) k = absurd (let no : false ≡ true = k.new in cc)
    at gap (command.Remove break) k = absurd (let no : false ≡ true = k.new in cc)
    at gap (command.Show view) k = absurd (let no : false ≡ true = k.new in cc)
    at gap command.Quit k = absurd (let no : false ≡ true = k.new in cc)

-- ---- commands, one after another

all-reach : (b : Bounds) (given : Given) (more : List Given) (p : Point) → AllKept b (given ∷ more) p
    → Reaches (1 + length more) (after b (given ∷ more) p) p
all-reach b given [] p all = command-reaches b given p all.0
all-reach b given (next ∷ more) p all =
    let q = (outcome_of b given p).point in
    let count : 1 + length more + 1 ≡ 1 + length (next ∷ more) = omega arith in
    subst (λ n. Reaches n (after b (given ∷ next ∷ more) p) p) count
    (reaches-more (1 + length more) 1 (after b (next ∷ more) q) q p (omega arith) (omega arith) (all-reach b next more q all.1) (command-reaches b given p all.0))

pub commands-are-undone : CommandsAreUndone
commands-are-undone later b given more p all = undo-reached later b (1 + length more) (after b (given ∷ more) p) p (all-reach b given more p all)
