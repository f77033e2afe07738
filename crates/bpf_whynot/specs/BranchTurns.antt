-- Scaffolding: one move of the pass over a history. No public contract cites this.
use Rattle.std.specs.Prelude.{◌≡◌, ℕ, ◌+◌, Bool, true, false, List, ◌∷◌, Option, Result}
use Rattle.counted_io.specs.Counted.{Tally}
use Rattle.counted_io.specs.Writing.{WritesAfter}
use Rattle.counted_io.specs.declared.fault.WriteFault.{WriteFault}
use Rattle.bpf_journal.specs.Histories.{Record}
use Rattle.bpf_origin.specs.Answers.{Answer, with_line}
use Rattle.bpf_origin.specs.Texts.{lines_text}
use Rattle.bpf_origin.specs.declared.question.Extent.TheVariants.{Lines}
use Rattle.bpf_steps.specs.State.{State}
use Rattle.bpf_whynot.specs.Sures.{TellsSure, told_sure}
use Rattle.bpf_origin.specs.declared.place.Place.{Place}
use Rattle.bpf_origin.specs.declared.question.Question.{Question}
use Rattle.bpf_whynot.specs.Branches.{Branches, DecidedIt, Entered, Quest, aim_at, holds_from, made}
use Rattle.bpf_whynot.specs.Keeps.{KeptIt, TellsKeep, held_of, held_places}
use Rattle.bpf_whynot.specs.declared.branch_aim.Aim.{Aim}
use Rattle.bpf_whynot.specs.declared.hunt.Hunt.{Hunt}
use Rattle.bpf_whynot.specs.declared.hunt.Turn.{Turn}
use Rattle.bpf_whynot.specs.declared.hunt.Turn.TheVariants.{On, Cut}

-- Its flags tell from where a function of a state's program comes to the slot that is looked for, and from where it can write what is held.
abbrev pub Knows : State → Hunt → Type 0
Knows x hunt = TellsSure x.program hunt.aim.slot (told_sure hunt.sure) × TellsKeep x.program hunt.keep

-- What a pass looks for, with these places wanted.
abbrev pub quest_of : Hunt → List Place → Quest
quest_of hunt wanted = record { wanted = wanted; values = hunt.values; aim = hunt.aim; lines = hunt.lines; held = held_of hunt.keep }

-- It is looked for how the machine came to where it stands.
pub record Begins (x : State) (q : Question) (so_far : Result (Unit {0}) WriteFault) (wanted : List Place) (hunt : Hunt) : Type 0 where
  pub knows : Knows x hunt
  pub aim : hunt.aim ≡ aim_at x
  pub values : hunt.values ≡ q.lines
  pub lines : hunt.lines ≡ q.lines
  pub held : held_of hunt.keep ≡ record { places = held_places q.lines wanted; wall = aim_at x }
  pub told : hunt.told ≡ so_far

-- From now on it is looked for how the machine came to a slot, and what is wanted is held from where it stands.
abbrev pub Chases : State → List Place → Aim → Hunt → Turn → Type 0
Chases x wanted aim hunt (On next) =
    Knows x next × (next.told ≡ hunt.told) × (quest_of next wanted ≡ holds_from x (record (quest_of hunt wanted) { aim = aim }))
Chases x wanted aim hunt (Cut written) = ⊥

-- A move is told, as one that decided or as one that kept a value.
abbrev pub IsOne : Bool → Quest → Record → State → Type 0
IsOne true s r y = DecidedIt s.aim r y
IsOne false s r y = (DecidedIt s.aim r y → ⊥) × KeptIt s.held r y

pub record IsToldAs (decided : Bool) (s : Quest) (r : Record) (y : State) : Type 0 where
  pub other : made s r y ≡ false
  pub inside : Entered s r → ⊥
  pub one : IsOne decided s r y

module _ {W : Type 0} (contents : W → Option (List ℕ)) (q : Question) (k : ℕ) (r : Record) (h : List Record) (y : State) (wanted left : List Place) where
  -- The move was passed, or told.
  pub record GoesOn (old : Tally W) (hunt : Hunt) (now : Tally W) (next : Hunt) : Type 0 where
    pub knows : Knows r.before next
    pub text : List ℕ
    pub writes : WritesAfter contents old hunt.told now next.told text
    pub is : (rest : Answer) → Branches q (k + 1) (quest_of next left) h r.before rest
        → Branches q k (quest_of hunt wanted) (r ∷ h) y (with_line text rest)

  -- Or there is no room for its line.
  abbrev pub Takes : Tally W → Hunt → Tally W → Turn → Type 0
  Takes old hunt now (On next) = GoesOn old hunt now next
  Takes old hunt now (Cut written) = WritesAfter contents old hunt.told now written lines_text
      × Branches q k (quest_of hunt wanted) (r ∷ h) y (record { text = lines_text; extent = Lines })
