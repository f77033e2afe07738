-- What serving a connection leaves: in the session, in the reader and in the writer.
use Rattle.std.specs.Prelude.{◌≡◌, ℕ, true, false, List, [], ◌∷◌, ◌++◌, ◌⊎◌, Option}
use Rattle.std.specs.Io.KnownBytes.{Appends}
use Rattle.counted_io.specs.Counted.{Tally, one_more}
use Rattle.bpf_entries.specs.Keeping.{Kept}
use Rattle.bpf_session.specs.Sessions.{SessionValue}
use Rattle.bpf_session.specs.declared.fault.RunFault.{RunFault}
use Rattle.bpf_session.specs.declared.fault.RunFault.TheVariants.{Read, Write}
use Rattle.bpf_remote.specs.Packets.{IsUnfinished}
use Rattle.bpf_remote.specs.Streams.{Reads, Fails, IsAll}
use Rattle.bpf_remote.specs.Connections.{Desk, Turn, AreTurns, GoOn, end_of, read_in, told_in}
use Rattle.bpf_remote.specs.declared.manners.Manners.{Manners}
use Rattle.bpf_remote.specs.declared.target.Target.{Target}

-- At first packets are acknowledged, gdb is not known to understand `swbreak`, nothing has moved, and there is no last answer and no condition.
abbrev pub first_manners : Target → Manners
first_manners gdb = record { acknowledges = true; swbreak = false; target = gdb; moves = 0 }

abbrev pub opening : {K : Type 0} → Target → SessionValue K → Desk K
opening gdb session = record { place = record { session = session; manners = first_manners gdb; last = [] }; conditions = [] }

-- What was known before a connection and after it.
pub record Ends (K R W : Type 0) : Type 0 where
  pub gdb : Target
  pub from : SessionValue K
  pub to : SessionValue K
  pub reader : Tally R
  pub reader' : Tally R
  pub writer : Tally W
  pub writer' : Tally W

module _ {K R W : Type 0} (holds : K → List Kept → Type 0) (refusals room : K → ℕ) (remaining : R → Option (List ℕ)) (contents : W → Option (List ℕ)) where
  -- All that the turns tell was written.
  abbrev pub Told : Ends K R W → List ℕ → Type 0
  Told x text = Appends (contents x.writer.inner) (contents x.writer'.inner) text × (x.writer'.failures ≡ x.writer.failures)

  -- gdb left in the last turn, behind which nothing was read; or the stream ended, and nothing whole was left.
  abbrev pub Finishes : Ends K R W → List (Turn holds refusals room) → Type 0
  Finishes x ts = ((GoOn holds refusals room ts → ⊥) × Reads remaining x.reader x.reader' (read_in holds refusals room ts))
      ⊎ ((part : List ℕ) × GoOn holds refusals room ts × IsUnfinished part × Reads remaining x.reader x.reader' (read_in holds refusals room ts ++ part)
      × IsAll remaining x.reader (read_in holds refusals room ts ++ part))

  -- A connection that was served to its end.
  abbrev pub Serves : Ends K R W → Type 0
  Serves x = (ts : List (Turn holds refusals room)) × AreTurns holds refusals room (opening x.gdb x.from) ts
      × ((end_of holds refusals room (opening x.gdb x.from) ts).place.session ≡ x.to) × Told x (told_in holds refusals room ts) × Finishes x ts

  -- A read failed behind the turns, in mid-item; or a write failed in the last turn, of which a beginning was told.
  abbrev pub Breaks : RunFault → Ends K R W → Type 0
  Breaks Read x = (ts : List (Turn holds refusals room)) × AreTurns holds refusals room (opening x.gdb x.from) ts
      × ((end_of holds refusals room (opening x.gdb x.from) ts).place.session ≡ x.to) × Told x (told_in holds refusals room ts) × GoOn holds refusals room ts
      × (part : List ℕ) × IsUnfinished part × Fails remaining x.reader x.reader' (read_in holds refusals room ts ++ part)
  Breaks Write x = (t : Turn holds refusals room) × (ts : List (Turn holds refusals room)) × AreTurns holds refusals room (opening x.gdb x.from) (t ∷ ts)
      × (t.after.place.session ≡ x.to) × Reads remaining x.reader x.reader' (read_in holds refusals room (t ∷ ts))
      × (front rest : List ℕ) × (t.told ≡ front ++ rest) × Appends (contents x.writer.inner) (contents x.writer'.inner) (told_in holds refusals room ts ++ front)
      × (x.writer'.failures ≡ one_more x.writer.failures)
