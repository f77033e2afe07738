-- Answers to why a slot was not come to.
use Rattle.std.proofs.Common.{◌≡◌, ◌/◌, inl, inr, ℕ, List, [], Option, Some, None, true, false, Result, Ok, Err, IfOk, length, refl, sym, ap, subst, ◌∙◌, arith}
use Rattle.std.specs.Prelude.{◌==◌, IfErr, IfNone, IfSome, MatchResult}
use Rattle.std.proofs.lemmas.Grind.{common_steps}
use Rattle.std.specs.Result.{result_ok}
use Rattle.std.specs.Str.{bytes_eq}
use Rattle.hex.specs.Hex.{decode_of, decode_sized}
use Rattle.hex.specs.declared.error.FromHexError.{FromHexError}
use lib.Chars.{codes}
use Rattle.bpf_entries.specs.Keeping.{Kept}
use Rattle.bpf_journal.specs.Tracks.{Track}
use Rattle.bpf_session.specs.Sessions.{HasPast, SessionValue}
use Rattle.bpf_whynot.specs.Aims.{AimsAt, IsNoAim}
use Rattle.bpf_whynot.specs.Answers.{why_not}
use Rattle.bpf_whynot.specs.Asked.{Goals}
use Rattle.bpf_whynot.specs.Tables.{told_by}
use Rattle.bpf_whynot.specs.declared.aim.Aim.{Aim}
use Rattle.bpf_whynot.specs.declared.fault.AimFault.{AimFault}
use Rattle.bpf_whynot.specs.declared.fault.AimFault.TheVariants.{Goal, OutOfMemory}
use Rattle.bpf_whynot.specs.declared.fault.GoalFault.{GoalFault}
use Rattle.bpf_remote.specs.Numbers.{behind}
use Rattle.bpf_remote.specs.Origins.{ComesBack, Fits, FitsNamed, too_long}
use Rattle.bpf_remote.specs.Whynots.{IsAimed, TellsGoals, TellsWhynot, aim_refusal, asks_whynot, query_of}
use Rattle.bpf_remote.specs.declared.manners.Manners.{Manners}
use Rattle.bpf_remote.proofs.OriginTexts.{fitting-named}

-- What a line asks that begins with `whynot` and a blank, and one that doesn't.
pub asks-behind : (digits rest : List ℕ) → bytes_eq digits (codes "7768796e6f74") ≡ false → behind (codes "7768796e6f7420") digits ≡ Some rest
    → asks_whynot digits ≡ result_ok (decode_of rest)
asks-behind digits rest e b = rw (e, b) refl

pub asks-none : (digits : List ℕ) → bytes_eq digits (codes "7768796e6f74") ≡ false → behind (codes "7768796e6f7420") digits ≡ None → asks_whynot digits ≡ None
asks-none digits e b = rw (e, b) refl

pub asks-alone : (digits : List ℕ) → bytes_eq digits (codes "7768796e6f74") ≡ true → asks_whynot digits ≡ Some []
asks-alone digits e = rw e refl

-- What was found of it, or why nothing was.
pub aimed : {K : Type 0} (holds : K → List Kept → Type 0) (s : SessionValue K) (text : List ℕ) (r : Result Aim AimFault)
    → IfOk r (AimsAt holds s.moment.keeper s.moment.state text) → IfErr r (IsNoAim s.moment.state.program text) → IsAimed holds s text r
aimed holds s text (Ok aim) ok err = ok
aimed holds s text (Err fault) ok err = err

module _ {K : Type 0} (holds : K → List Kept → Type 0) (s : SessionValue K) (digits rest : List ℕ) where
  pub some-behind : (r : Option (Result Aim AimFault)) → bytes_eq digits (codes "7768796e6f74") ≡ false → behind (codes "7768796e6f7420") digits ≡ Some rest
      → IfSome r (λ found. (text : List ℕ) × (result_ok (decode_of rest) ≡ Some text) × IsAimed holds s text found)
      → IfSome r (λ found. (text : List ℕ) × (asks_whynot digits ≡ Some text) × IsAimed holds s text found)
  some-behind None e b o = tt
  some-behind (Some found) e b (text, is, aims) = (text, asks-behind digits rest e b ∙ is, aims)

  pub none-behind : (r : Option (Result Aim AimFault)) → bytes_eq digits (codes "7768796e6f74") ≡ false → behind (codes "7768796e6f7420") digits ≡ Some rest
      → IfNone r (result_ok (decode_of rest) ≡ None) → IfNone r (asks_whynot digits ≡ None)
  none-behind None e b o = asks-behind digits rest e b ∙ o
  none-behind (Some found) e b o = tt

-- Digits that are decoded into room for half as many bytes.
sized : (text : List ℕ) (n : ℕ) → n ≡ length text / 2 → decode_sized text n ≡ decode_of text
sized text n e =
    let half : (length text / 2 == n) ≡ true = grind (arith, common_steps, e) in
    rw half refl

spelled-by : (d : Result (List ℕ) FromHexError) (out : List ℕ) (r : Result (Unit {0}) FromHexError)
    → MatchResult d (λ bytes. (r ≡ Ok tt) × (out ≡ bytes)) (λ e. r ≡ Err e) → r ≡ Ok tt → result_ok d ≡ Some out
spelled-by (Ok bytes) out r m is = ap Some (sym m.1)
spelled-by (Err fault) out r m is = absurd cc

unspelled-by : (d : Result (List ℕ) FromHexError) (out : List ℕ) (r : Result (Unit {0}) FromHexError) (fault : FromHexError)
    → MatchResult d (λ bytes. (r ≡ Ok tt) × (out ≡ bytes)) (λ e. r ≡ Err e) → r ≡ Err fault → result_ok d ≡ None
unspelled-by (Ok bytes) out r fault m is = absurd cc
unspelled-by (Err other) out r fault m is = refl

pub spelled : (text out : List ℕ) (n : ℕ) (r : Result (Unit {0}) FromHexError) → n ≡ length text / 2
    → MatchResult (decode_sized text n) (λ bytes. (r ≡ Ok tt) × (out ≡ bytes)) (λ e. r ≡ Err e) → r ≡ Ok tt → result_ok (decode_of text) ≡ Some out
spelled text out n r e m is =
    spelled-by (decode_of text) out r
    (subst (λ (d : Result (List ℕ) FromHexError). MatchResult d (λ bytes. (r ≡ Ok tt) × (out ≡ bytes)) (λ e. r ≡ Err e)) (sized text n e) m) is

pub unspelled : (text out : List ℕ) (n : ℕ) (r : Result (Unit {0}) FromHexError) (fault : FromHexError) → n ≡ length text / 2
    → MatchResult (decode_sized text n) (λ bytes. (r ≡ Ok tt) × (out ≡ bytes)) (λ e. r ≡ Err e) → r ≡ Err fault → result_ok (decode_of text) ≡ None
unspelled text out n r fault e m is =
    unspelled-by (decode_of text) out r fault
    (subst (λ (d : Result (List ℕ) FromHexError). MatchResult d (λ bytes. (r ≡ Ok tt) × (out ≡ bytes)) (λ e. r ≡ Err e)) (sized text n e) m) is

module _ {K : Type 0} (holds : K → List Kept → Type 0) (refusals room : K → ℕ) where
  -- An answer about some slots.
  pub tells-goals : {A E : Type 0} (items : A → List ℕ) (r : Result A E) (m : Manners) (asked : List ℕ) (old new : SessionValue K) (aim : Aim) (left : ℕ) (shown : List ℕ)
      → (aims : IsAimed holds old asked (Ok aim)) → ComesBack holds refusals room old new left
      → IfOk r (λ a. (t : Track) → HasPast holds old t → items a ≡ (why_not (told_by aim.reach) (query_of m.target.places m.moves aims.0 t old.moment.state) t.history old.moment.state).text)
      → MatchResult r (λ a. FitsNamed m.target.names (items a) shown) (λ _. shown ≡ too_long) → TellsWhynot holds refusals room m asked old new left shown
  tells-goals items r m asked old new aim left shown aims back texts is =
      inl (subst (λ (goals : Result Goals GoalFault). TellsGoals holds refusals room m goals old new left shown) (sym aims.1) (
        told_by aim.reach,
        back,
        λ t past. (
          (aims.2 t.history past.history).tells,
          fitting-named items r shown m.target.names (HasPast holds old)
              (λ t. (why_not (told_by aim.reach) (query_of m.target.places m.moves aims.0 t old.moment.state) t.history old.moment.state).text) is texts t past,
        ),
      ))

  -- Why there is none.
  pub tells-none : (fault : AimFault) (m : Manners) (asked : List ℕ) (s : SessionValue K) (shown : List ℕ)
      → IsNoAim s.moment.state.program asked fault → Fits (aim_refusal fault) shown → TellsWhynot holds refusals room m asked s s 0 shown
  tells-none (Goal fault) m asked s shown none fits =
      inl (subst (λ (goals : Result Goals GoalFault). TellsGoals holds refusals room m goals s s 0 shown) (sym none) (refl, refl, fits))
  tells-none OutOfMemory m asked s shown none fits = inr (refl, refl, fits)
