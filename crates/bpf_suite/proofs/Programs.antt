-- The program of a machine stays, whatever it does; and so does what it comes to for tests that share it.
use Rattle.std.proofs.Common.{ℕ, zero, suc, ◌≡◌, Option, Some, None, Ok, Err, refl, sym, ◌∙◌}
use Rattle.std.specs.Option.{option_map_or}
use Rattle.bpf_isa.specs.Programs.{Checked}
use Rattle.bpf_steps.specs.Calls.{innermost}
use Rattle.bpf_steps.specs.Next.{change, changed, returned}
use Rattle.bpf_steps.specs.Runs.{state_after}
use Rattle.bpf_steps.specs.State.{State}
use Rattle.bpf_steps.specs.declared.change.Change.{Change}
use Rattle.bpf_steps.specs.declared.change.Change.TheVariants.{Set, Go, Store, Fetch, Call, Return, Cell, Trace, Stop}
use Rattle.bpf_steps.specs.declared.frame.Frame.{Frame}
use Rattle.bpf_session.specs.Plain.{plain_end, plain_steps}
use Rattle.bpf_suite.specs.Benches.{Loads, RefusesProgram}
use Rattle.bpf_suite.specs.Outcomes.{Comes, IsProgramOf, Outcome, Refuses}
use Rattle.bpf_suite.specs.Tests.{limited}
use Rattle.bpf_suite.specs.declared.refusal.Refusal.{Refusal}
use Rattle.bpf_suite.specs.declared.refusal.Refusal.TheVariants.{Maps, Listing, Load, Open, NoCell}
use Rattle.bpf_suite.specs.declared.setting.Setting.{Setting}

-- a step, and steps
returned-program : (x : State) (found : Option Frame) → (option_map_or (returned x) found x).program ≡ x.program
returned-program x None = refl
returned-program x (Some f) = refl

changed-program : (x : State) (c : Change) → (changed x c).program ≡ x.program
unfolding changed
changed-program x (Set r value after) = refl
changed-program x (Go after) = refl
changed-program x (Store a at size value after) = refl
changed-program x (Fetch a at size value r after) = refl
changed-program x (Call to) = refl
changed-program x Return = returned-program x (innermost x)
changed-program x (Cell a from n after) = refl
changed-program x (Trace word after) = refl
changed-program x (Stop status) = refl

state_after-program : (k : ℕ) (x : State) → (state_after k x).program ≡ x.program
state_after-program zero x = refl
state_after-program (suc k) x = changed-program (state_after k x) (change (state_after k x)) ∙ state_after-program k x

pub plain_end-program : (limit : ℕ) (x : State) → (plain_end limit x).program ≡ x.program
plain_end-program limit x = state_after-program (plain_steps limit x) x

-- a program that is refused is refused in each setting that it has
pub refuses-any : (t : Setting) (refusal : Refusal) → RefusesProgram t refusal → Refuses t refusal
refuses-any t (Maps fault) r = r
refuses-any t (Listing fault) r = r
refuses-any t (Load fault) r = r
refuses-any t (Open fault) r = absurd r
refuses-any t (NoCell map index) r = absurd r

pub comes-refused : (t : Setting) (machine : Outcome) (refusal : Refusal) → machine ≡ Err refusal → Loads t machine → Comes t machine
comes-refused t (Ok x) refusal e loads = cc
comes-refused t (Err why) refusal e loads = (refuses-any t why loads.0, loads.1)

-- settings of one program
pub record SameProgram (t u : Setting) : Type 0 where
  pub maps : t.maps ≡ u.maps
  pub listing : t.is_listing ≡ u.is_listing
  pub program : t.program ≡ u.program

pub other-way : (t u : Setting) → SameProgram t u → SameProgram u t
other-way t u s = record { maps = sym s.maps; listing = sym s.listing; program = sym s.program }

IsProgramOf-same : (t u : Setting) (code : Checked) → SameProgram t u → IsProgramOf t code → IsProgramOf u code
IsProgramOf-same t u code s p = record { maps = rw s.maps at p.maps; words = rw (s.listing, s.program) at p.words; accepted = p.accepted }

RefusesProgram-same : (t u : Setting) (refusal : Refusal) → SameProgram t u → RefusesProgram t refusal → RefusesProgram u refusal
RefusesProgram-same t u (Maps fault) s r = rw s.maps at r
RefusesProgram-same t u (Listing fault) s r = rw (s.maps, s.listing, s.program) at r
RefusesProgram-same t u (Load fault) s r = rw (s.maps, s.listing, s.program) at r
RefusesProgram-same t u (Open fault) s r = absurd r
RefusesProgram-same t u (NoCell map index) s r = absurd r

pub Loads-same : (t u : Setting) (machine : Outcome) → SameProgram t u → Loads t machine → Loads u machine
Loads-same t u (Ok x) s loads = IsProgramOf-same t u x.program s loads
Loads-same t u (Err refusal) s loads = (RefusesProgram-same t u refusal s loads.0, loads.1)

-- whatever its limit
pub Loads-limited : (n : ℕ) (t : Setting) (machine : Outcome) → Loads (limited n t) machine → Loads t machine
Loads-limited n t machine loads = Loads-same (limited n t) t machine (record { maps = refl; listing = refl; program = refl }) loads

pub limited-Loads : (n : ℕ) (t : Setting) (machine : Outcome) → Loads t machine → Loads (limited n t) machine
limited-Loads n t machine loads = Loads-same t (limited n t) machine (record { maps = refl; listing = refl; program = refl }) loads
