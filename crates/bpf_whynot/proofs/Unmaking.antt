-- The kept moves that made a value, one after another.
use Rattle.std.proofs.Common.{◌≡◌, ◌≢◌, ◌<◌, ◌≤◌, ◌⊎◌, inl, inr, ℕ, zero, suc, ◌+◌, ◌^◌, Bool, true, false, List, [], ◌∷◌, ◌++◌, length, take, drop, Option, Some, None, refl, sym, ap, subst, ◌∙◌, arith, add-one, length-set}
use Rattle.std.specs.Prelude.{◌==◌, ◌||◌, slice_set, if◌then◌else◌}
use Rattle.std.proofs.lemmas.Bool.Decides.{nat_tests}
use Rattle.std.proofs.lemmas.List.{get_or-set_same, get_or-set_other}
use Rattle.bpf_entries.specs.Before.{depth_before, depth_by}
use Rattle.bpf_entries.specs.Keeping.{Kept}
use Rattle.bpf_entries.specs.Past.{Frames, Same, Fewer, More, past}
use Rattle.bpf_entries.specs.declared.entry.Entry.{Entry}
use Rattle.bpf_isa.specs.Programs.{Checked}
use Rattle.bpf_journal.specs.Keepers.{IsPlace, IsWithin, WalksBack, walked}
use Rattle.bpf_journal.proofs.Items.{few_entries}
use Rattle.bpf_journal.proofs.Walks.{At, entry_at, drop_all, split_at}
use Rattle.bpf_whynot.specs.Answers.{has_none}
use Rattle.bpf_whynot.specs.Makings.{made_at, made_by_move, newest_made, or_older, unmade, without}
use Rattle.bpf_whynot.specs.Reach.{is_goal}
use Rattle.bpf_whynot.specs.Tables.{AreGoals, is_in}
use Rattle.bpf_whynot.specs.declared.made.Made.{Made}
use Rattle.bpf_whynot.proofs.Walking.{reached_within}

-- goals without a slot
same_is : (p q : ℕ) → q ≡ p → (q == p) ≡ true
same_is p q e = grind (arith, nat_tests)

other_is : (p q : ℕ) → q ≢ p → (q == p) ≡ false
other_is p q e = grind (arith, nat_tests)

is_same : (p q : ℕ) → (q == p) ≡ true → q ≡ p
is_same p q e = grind (arith, nat_tests)

same_or_other : (i j : ℕ) → (i ≡ j) ⊎ (i ≢ j)
same_or_other i j = grind arith

kept_or_not : (p g : ℕ) (goals : List ℕ) (b : Bool) → (g == p) ≡ b
    → without (Some p) (g ∷ goals) ≡ (if b then without (Some p) goals else g ∷ without (Some p) goals)
kept_or_not p g goals b e = ap (λ (b : Bool). if b then without (Some p) goals else g ∷ without (Some p) goals) e

others_by : (p q g : ℕ) (goals : List ℕ) (b : Bool) → (g == p) ≡ b → q ≢ p → is_goal (without (Some p) goals) q ≡ is_goal goals q
    → is_goal (without (Some p) (g ∷ goals)) q ≡ is_goal (g ∷ goals) q
others_by p q g goals true e apart rest =
    let g_is : g ≡ p = is_same p g e in
    let miss : (g == q) ≡ false = other_is q g (λ same. apart (sym same ∙ g_is)) in
    ap (λ (gs : List ℕ). is_goal gs q) (kept_or_not p g goals true e) ∙ rest ∙ sym (ap (λ (b : Bool). b || is_goal goals q) miss)
others_by p q g goals false e apart rest =
    ap (λ (gs : List ℕ). is_goal gs q) (kept_or_not p g goals false e) ∙ ap (λ (b : Bool). (g == q) || b) rest

others_stay : (p q : ℕ) (goals : List ℕ) → q ≢ p → is_goal (without (Some p) goals) q ≡ is_goal goals q
others_stay p q [] apart = refl
others_stay p q (g ∷ goals) apart = others_by p q g goals (g == p) refl apart (others_stay p q goals apart)

goes_by : (p g : ℕ) (goals : List ℕ) (b : Bool) → (g == p) ≡ b → is_goal (without (Some p) goals) p ≡ false → is_goal (without (Some p) (g ∷ goals)) p ≡ false
goes_by p g goals true e rest = ap (λ (gs : List ℕ). is_goal gs p) (kept_or_not p g goals true e) ∙ rest
goes_by p g goals false e rest =
    ap (λ (gs : List ℕ). is_goal gs p) (kept_or_not p g goals false e) ∙ ap (λ (b : Bool). b || is_goal (without (Some p) goals) p) e ∙ rest

it_goes : (p : ℕ) (goals : List ℕ) → is_goal (without (Some p) goals) p ≡ false
it_goes p [] = refl
it_goes p (g ∷ goals) = goes_by p g goals (g == p) refl (it_goes p goals)

differs : ◌≡◌ {A = Bool} true false → ⊥
differs t = cc

stays_by : (p g : ℕ) (goals : List ℕ) (b : Bool) → (g == p) ≡ b → is_goal (g ∷ goals) p ≡ false
    → (is_goal goals p ≡ false → without (Some p) goals ≡ goals) → without (Some p) (g ∷ goals) ≡ g ∷ goals
stays_by p g goals true e none rest = absurd (differs (sym (ap (λ (b : Bool). b || is_goal goals p) e) ∙ none))
stays_by p g goals false e none rest =
    kept_or_not p g goals false e ∙ ap (λ (gs : List ℕ). g ∷ gs) (rest (sym (ap (λ (b : Bool). b || is_goal goals p) e) ∙ none))

nothing_goes : (p : ℕ) (goals : List ℕ) → is_goal goals p ≡ false → without (Some p) goals ≡ goals
nothing_goes p [] e = refl
nothing_goes p (g ∷ goals) e = stays_by p g goals (g == p) refl e (nothing_goes p goals)

module _ (program : Checked) (goals : List ℕ) (flags : List Bool) (p : ℕ) (are : AreGoals program goals flags) where
  pub unflagged : p < length flags → AreGoals program (without (Some p) goals) (slice_set flags p false)
  unflagged low = record {
    size = length-set flags p false ∙ are.size;
    each = λ q. by_case q (same_or_other q p);
  }
    where
      by_case : (q : ℕ) → (q ≡ p) ⊎ (q ≢ p) → is_in (slice_set flags p false) q ≡ is_goal (without (Some p) goals) q
      by_case q (inl same) =
          ap (is_in (slice_set flags p false)) same ∙ get_or-set_same flags p false false low
          ∙ sym (ap (is_goal (without (Some p) goals)) same ∙ it_goes p goals)
      by_case q (inr apart) = get_or-set_other flags p q false false apart ∙ are.each q ∙ sym (others_stay p q goals apart)

  pub not_flagged : is_in flags p ≡ false → AreGoals program (without (Some p) goals) flags
  not_flagged none = subst (λ (gs : List ℕ). AreGoals program gs flags) (sym (nothing_goes p goals (sym (are.each p) ∙ none))) are

-- the newest that is known
pub or_none : (m : Option Made) → or_older m None ≡ m
or_none None = refl
or_none (Some m) = refl

or_assoc : (a b c : Option Made) → or_older a (or_older b c) ≡ or_older (or_older a b) c
or_assoc None b c = refl
or_assoc (Some m) b c = refl

both_none : (a b : Option Made) → None ≡ or_older a b → b ≡ None
both_none None b e = sym e
both_none (Some m) b e = absurd cc

pub no_move : (goals : List ℕ) (n d p : ℕ) → is_goal goals p ≡ false → made_by_move goals n d (Some p) ≡ None
no_move goals n d p e = ap (λ (b : Bool). if b then Some (record { moves = n + 1; slot = p; depth = d; branch = None }) else None) e

pub one_move : (goals : List ℕ) (n d p : ℕ) → is_goal goals p ≡ true → made_by_move goals n d (Some p) ≡ Some (record { moves = n + 1; slot = p; depth = d; branch = None })
one_move goals n d p e = ap (λ (b : Bool). if b then Some (record { moves = n + 1; slot = p; depth = d; branch = None }) else None) e

none_by : (goals : List ℕ) (n d p : ℕ) (b : Bool) → is_goal goals p ≡ b → made_by_move goals n d (Some p) ≡ None → without (Some p) goals ≡ goals
none_by goals n d p true is e = let t : Some (record { moves = n + 1; slot = p; depth = d; branch = None }) ≡ None = sym (one_move goals n d p is) ∙ e in absurd cc
none_by goals n d p false is e = nothing_goes p goals is

none_made : (goals : List ℕ) (n d : ℕ) (s : Option ℕ) → made_by_move goals n d s ≡ None → without s goals ≡ goals
none_made goals n d None e = refl
none_made goals n d (Some p) e = none_by goals n d p (is_goal goals p) refl e

settled : (goals : List ℕ) (n d : ℕ) (s : Option ℕ) (known newest : Option Made) (older : List ℕ → Option Made)
    → newest ≡ or_older known (made_by_move goals n d s) → or_older newest (older goals) ≡ or_older newest (older (without s goals))
settled goals n d s known None older e =
    ap older (sym (none_made goals n d s (both_none known (made_by_move goals n d s) e)))
settled goals n d s known (Some m) older e = refl

-- A move is at most one frame deep.
one_by : (f : Frames) (d : ℕ) → depth_by f d ≤ d + 1
one_by Same d = omega arith
one_by Fewer d = omega arith
one_by (More saved) d = omega arith

module _ {K : Type 0} (holds : K → List Kept → Type 0) (place : K → List Kept → ℕ) (keeper : K) where
  -- after k turns a walk is at the place of the front without its k newest, at the depth there
  pub record StandsAt (es : List Kept) (d at deep k : ℕ) : Type 0 where
    pub here : place keeper (drop k es) ≡ at
    pub low : deep ≤ d + k

  pub stands_first : (es : List Kept) (d at deep : ℕ) → at ≡ place keeper es → deep ≡ d → StandsAt es d at deep 0
  stands_first es d at deep here e = record { here = sym here; low = omega (arith, e) }

  pub place_there : (es : List Kept) (d at deep k : ℕ) → holds keeper es → StandsAt es d at deep k → IsPlace holds place keeper at
  place_there es d at deep k held w = record {
    newer = take k es;
    front = drop k es;
    held = subst (holds keeper) (sym (split_at es k)) held;
    here = w.here;
  }

  pub still_shallow : (es : List Kept) (d at deep k room : ℕ) → d < 8 → IsWithin room es → k < length es → StandsAt es d at deep k → deep + 1 < 2 ^ 32
  still_shallow es d at deep k room shallow within lt w =
      let most = within.size.1 in
      let weighs = within.weighs in
      let low = w.low in
      omega (arith, few_entries es, weighs, most, low, lt, shallow)

  -- what the walk answers there
  pub record Tells (es : List Kept) (k : ℕ) (entry : Entry) (before : ℕ) : Type 0 where
    pub found : Kept
    pub front : drop k es ≡ found ∷ drop (suc k) es
    pub entry_is : found.0 ≡ entry
    pub place_is : place keeper (drop (suc k) es) ≡ before

  walked_on : (es : List Kept) (d at deep k : ℕ) (result : Option (Entry × Bool × ℕ)) → holds keeper es → StandsAt es d at deep k
      → WalksBack holds place keeper at result → (a : At es k) → result ≡ Some (a.found.0, a.found.1, place keeper (drop (suc k) es))
  walked_on es d at deep k result held w walk a =
      walk (take k es) (drop k es) (subst (holds keeper) (sym (split_at es k)) held) w.here ∙ ap (walked (place keeper)) a.front

  pub told : (es : List Kept) (d at deep k : ℕ) (entry : Entry) (mark : Bool) (before : ℕ) → holds keeper es → k < length es → StandsAt es d at deep k
      → WalksBack holds place keeper at (Some (entry, mark, before)) → Tells es k entry before
  told es d at deep k entry mark before held lt w walk =
      let a = entry_at es k lt in
      let same = walked_on es d at deep k _ held w walk a in
      let answer : Entry × Bool × ℕ = (entry, mark, before) in
      let newest : Entry × Bool × ℕ = (a.found.0, a.found.1, place keeper (drop (suc k) es)) in
      let found : answer ≡ newest = cc in
      record {
        found = a.found;
        front = a.front;
        entry_is = sym (ap (λ (t : Entry × Bool × ℕ). t.0) found);
        place_is = sym (ap (λ (t : Entry × Bool × ℕ). t.2) found);
      }

  pub no_end : (es : List Kept) (d at deep k : ℕ) → holds keeper es → k < length es → StandsAt es d at deep k → WalksBack holds place keeper at None → ⊥
  no_end es d at deep k held lt w walk = let same = walked_on es d at deep k _ held w walk (entry_at es k lt) in cc

  pub stands_next : (es : List Kept) (d at deep k : ℕ) (entry : Entry) (before after : ℕ) → StandsAt es d at deep k → Tells es k entry before
      → after ≡ depth_before deep entry → StandsAt es d before after (k + 1)
  stands_next es d at deep k entry before after w t e =
      let low = w.low in
      let one = one_by (past deep entry).frames deep in
      rw add-one (record { here = t.place_is; low = omega (arith, low, one, e) })

-- after k turns these flags are left, and this is the newest move that is known
pub record HasNoticed (program : Checked) (goals : List ℕ) (es : List Kept) (d : ℕ) (flags : List Bool) (newest : Option Made) (deep k : ℕ) : Type 0 where
  pub left : List ℕ
  pub are : AreGoals program left flags
  pub rest : unmade goals es ≡ unmade left (drop k es)
  pub found : newest_made goals 0 d es ≡ or_older newest (newest_made left k deep (drop k es))

pub noticed_none : (program : Checked) (goals : List ℕ) (es : List Kept) (d : ℕ) (flags : List Bool) (deep : ℕ) → AreGoals program goals flags → deep ≡ d
    → HasNoticed program goals es d flags None deep 0
noticed_none program goals es d flags deep are e = record {
  left = goals;
  are = are;
  rest = refl;
  found = ap (λ (n : ℕ). newest_made goals 0 n es) (sym e);
}

module _ (program : Checked) (goals : List ℕ) (es : List Kept) (d : ℕ) (flags : List Bool) (newest : Option Made) (deep k : ℕ) (n : HasNoticed program goals es d flags newest deep k) where
  pub noticed_more : (found : Kept) (entry : Entry) (more : List Bool) (now : Option Made) (after : ℕ) → drop k es ≡ found ∷ drop (suc k) es → found.0 ≡ entry
      → ((left : List ℕ) → AreGoals program left flags → AreGoals program (without (made_at entry) left) more)
      → ((left : List ℕ) → AreGoals program left flags → now ≡ or_older newest (made_by_move left k deep (made_at entry)))
      → after ≡ depth_before deep entry → HasNoticed program goals es d more now after (k + 1)
  noticed_more found entry more now after front is flagged made deeper =
      let s = made_at entry in
      let ks = drop (suc k) es in
      let one = made n.left n.are in
      rw add-one (record {
        left = without s n.left;
        are = flagged n.left n.are;
        rest =
            n.rest
            ∙ ap (unmade n.left) front
            ∙ ap (λ (e : Entry). unmade (without (made_at e) n.left) ks) is;
        found =
            n.found
            ∙ ap (λ (all : List Kept). or_older newest (newest_made n.left k deep all)) front
            ∙ ap (λ (e : Entry). or_older newest (or_older (made_by_move n.left k deep (made_at e)) (newest_made n.left (k + 1) (depth_before deep e) ks))) is
            ∙ or_assoc newest (made_by_move n.left k deep s) (newest_made n.left (k + 1) (depth_before deep entry) ks)
            ∙ ap (λ (m : Option Made). or_older m (newest_made n.left (k + 1) (depth_before deep entry) ks)) (sym one)
            ∙ settled n.left k deep s newest now (λ (gs : List ℕ). newest_made gs (k + 1) (depth_before deep entry) ks) one
            ∙ ap (λ (f : ℕ). or_older now (newest_made (without s n.left) (k + 1) f ks)) (sym deeper)
            ∙ ap (λ (j : ℕ). or_older now (newest_made (without s n.left) j after ks)) (let m : k + 1 ≡ suc k = omega arith in m);
      })

  all_dropped : k ≡ length es → drop k es ≡ []
  all_dropped all = ap (λ (j : ℕ). drop j es) all ∙ drop_all es

  pub noticed_flags : k ≡ length es → AreGoals program (unmade goals es) flags
  noticed_flags all = subst (λ (gs : List ℕ). AreGoals program gs flags) (sym (n.rest ∙ ap (unmade n.left) (all_dropped all))) n.are

  pub noticed_newest : k ≡ length es → newest ≡ newest_made goals 0 d es
  noticed_newest all =
      sym (n.found ∙ ap (λ (ks : List Kept). or_older newest (newest_made n.left k deep ks)) (all_dropped all) ∙ or_none newest)

-- no flag, and no goal
pub no_goals : (program : Checked) (goals : List ℕ) (flags : List Bool) → AreGoals program goals flags → ((p : ℕ) → is_in flags p ≡ false) → true ≡ has_none goals
no_goals program [] flags are none = refl
no_goals program (g ∷ goals) flags are none =
    let here : (g == g) ≡ true = same_is g g refl in
    let there : is_goal (g ∷ goals) g ≡ true = ap (λ (b : Bool). b || is_goal goals g) here in
    absurd (differs (sym there ∙ sym (are.each g) ∙ none g))

pub some_goal : (program : Checked) (goals : List ℕ) (flags : List Bool) (p : ℕ) → AreGoals program goals flags → is_in flags p ≡ true → false ≡ has_none goals
some_goal program [] flags p are is = absurd (differs (sym is ∙ are.each p))
some_goal program (g ∷ goals) flags p are is = refl

pub no_more : (flags : List Bool) (n : ℕ) → n ≡ length flags → ((p : ℕ) → p < n → is_in flags p ≡ false) → (p : ℕ) → is_in flags p ≡ false
no_more flags n all low p = by_flag (is_in flags p) refl
  where
    by_flag : (b : Bool) → is_in flags p ≡ b → is_in flags p ≡ false
    by_flag false e = e
    by_flag true e = let inside = reached_within flags p e in low p (omega (arith, inside, all))

pub one_lower : (flags : List Bool) (n : ℕ) → ((p : ℕ) → p < n → is_in flags p ≡ false) → is_in flags n ≡ false → (p : ℕ) → p < n + 1 → is_in flags p ≡ false
one_lower flags n low here p lt = by_case (same_or_other p n)
  where
    by_case : (p ≡ n) ⊎ (p ≢ n) → is_in flags p ≡ false
    by_case (inl same) = ap (is_in flags) same ∙ here
    by_case (inr apart) = low p (grind (arith, lt, apart))

-- What was lent and is given back: all of it.
none_taken : (r : List Bool) → take 0 r ≡ []
none_taken [] = refl
none_taken (b ∷ r) = refl

pub given_back : (s r : List Bool) (n : ℕ) → n ≡ length s → take n (s ++ r) ≡ s
given_back [] r n e = ap (λ (k : ℕ). take k r) e ∙ none_taken r
given_back (b ∷ s) r n e = ap (λ (k : ℕ). take k (b ∷ (s ++ r))) e ∙ ap (λ (l : List Bool). b ∷ l) (given_back s r (length s) refl)
