-- What kept moves made the value that is asked about, as the journal's entries tell it: the newest of them, and the slots that made it at none.
use Rattle.std.specs.Prelude.{ℕ, ◌+◌, ◌==◌, if◌then◌else◌, List, [], ◌∷◌, Option, Some, None, map}
use Rattle.bpf_entries.specs.Before.{depth_before}
use Rattle.bpf_entries.specs.Keeping.{Kept}
use Rattle.bpf_entries.specs.declared.entry.Entry.{Entry}
use Rattle.bpf_entries.specs.declared.entry.Entry.TheVariants as entry
use Rattle.bpf_journal.specs.Histories.{Record, kept_of}
use Rattle.bpf_steps.specs.State.{State, depth}
use Rattle.bpf_whynot.specs.Asked.{Goals}
use Rattle.bpf_whynot.specs.Overwrites.{with_branch}
use Rattle.bpf_whynot.specs.Reach.{is_goal}
use Rattle.bpf_whynot.specs.declared.made.Made.{Made}

-- The slot of a step that replaced a register alone, or bytes of memory alone: what an instruction that makes a constant does, unless it faults.
abbrev pub made_at : Entry → Option ℕ
made_at (entry.Register pc r value) = Some pc
made_at (entry.Store pc a old) = Some pc
made_at e = None

-- A keeper holds the entries of some moves.
abbrev pub HoldsMoves : {K : Type 0} → (K → List Kept → Type 0) → K → Type 0
HoldsMoves holds keeper = (es : List Kept) × holds keeper es

-- Goals without a slot.
abbrev pub without : Option ℕ → List ℕ → List ℕ
without None goals = goals
without (Some p) [] = []
without (Some p) (q ∷ goals) = if q == p then without (Some p) goals else q ∷ without (Some p) goals

-- Those at which no kept move made it.
abbrev pub unmade : List ℕ → List Kept → List ℕ
unmade goals [] = goals
unmade goals (k ∷ ks) = unmade (without (made_at k.0) goals) ks

-- The newest kept move that made it at one, where so many moves lie before it, and functions of this depth of calls run behind it; no branch is known yet.
abbrev pub made_by_move : List ℕ → ℕ → ℕ → Option ℕ → Option Made
made_by_move goals n d None = None
made_by_move goals n d (Some p) = if is_goal goals p then Some (record { moves = n + 1; slot = p; depth = d; branch = None }) else None

abbrev pub or_older : Option Made → Option Made → Option Made
or_older None older = older
or_older (Some m) older = Some m

abbrev pub newest_made : List ℕ → ℕ → ℕ → List Kept → Option Made
newest_made goals n d [] = None
newest_made goals n d (k ∷ ks) = or_older (made_by_move goals n d (made_at k.0)) (newest_made goals (n + 1) (depth_before d k.0) ks)

-- So of what is asked about: slots stay as they are.
abbrev pub goals_left : Goals → List Record → List ℕ
goals_left goals h = if goals.by_value then unmade goals.slots (map kept_of h) else goals.slots

abbrev pub made_last : Goals → List Record → State → Option Made
made_last goals h y =
    if goals.by_value then with_branch y.program (depth y) (map kept_of h) (newest_made goals.slots 0 (depth y) (map kept_of h)) else None
